-- What a link and a reference add to what is known of the net.
use Rattle.std.proofs.Common.{◌≡◌, ◌≢◌, ℕ, suc, ◌+◌, ◌*◌, ◌==◌, ◌<◌, Bool, nat_eq, eq-eqb, ne_eqb, if◌then◌else◌, List}
use Rattle.std.proofs.Common.{length, length-set, get_or-set_same, get_or-set_other, slice_index, slice_set, ◌⊎◌, inl}
use Rattle.std.proofs.Common.{inr, refl, sym, ap, ◌∙◌, subst, arith}
use Rattle.std.proofs.lemmas.Bool.{cases_eq, cases_lt}
use Rattle.ol_net.specs.declared.parts.Kind.{Kind}
use Rattle.ol_net.specs.declared.parts.Kind.TheVariants.{Eraser}
use Rattle.ol_net.specs.Parts.{arity}
use Rattle.ol_net.specs.Nets.{NamedPort, free, slot, NamedNet, HasNode, Linked}
use Rattle.ol_net.specs.Pairing.{other}
use Rattle.ol_net.specs.Linking.{linked}
use Rattle.ol_net.proofs.Tables.{other-past, other-linked, length-linked}
use Rattle.ol_rules.specs.declared.journal.NodeName.{NodeName}
use Rattle.ol_wire.specs.declared.layout.Parts.{Parts}
use Rattle.ol_wire.specs.References.{node_ref, wire_ref, slot_ref, kind_in, index_in, place_in, IsNodeRef}
use Rattle.ol_wire.specs.Layout.{place_of, port_word}
use Rattle.ol_wire.specs.Stands.{IsEnd, of_port, principal, auxiliary, IsWireEnd}
use Rattle.ol_wire.specs.Closed.{ClosedTable, events_in}
use Rattle.ol_wire.specs.Standing.{WordsStandFor}
use Rattle.ol_wire.proofs.InWords.References.{kind_of_ref, index_of_ref, place_of_ref, node_same}
use Rattle.ol_wire.proofs.InWords.References.{node_sort, wire_sort, slot_sort}
use Rattle.ol_wire.proofs.InWords.Places.{place_same}
use Rattle.ol_reduce.specs.Left.{ranks_in, AreLeft}
use Rattle.ol_reduce.specs.Following.{LeadsTo}
use Rattle.ol_reduce.specs.Found.{name_of, port_of, kind_of, IsKnown, IsPartial}
use Rattle.ol_law_edges.specs.Edges.{ends}
use Rattle.ol_rules.proofs.Born.{at_most_two}
use Rattle.ol_reduce.proofs.Forward.{es}
use Rattle.ol_reduce.proofs.Bounded.{led_ends, events_few}
use Rattle.ol_reduce.proofs.Sites.{one_site, port_slot, numbered}

-- ---- the table of partners

module _ (xs : List ℕ) (a b : ℕ) (lta : a < length xs) (ltb : b < length xs) where
  after_b : other (linked xs a b) b ≡ a
  after_b = other-linked xs a b b lta ltb
      ∙ ap (λ t. if t then a else (if a == b then b else other xs b)) (eq-eqb b b refl)

  after_a : a ≢ b → other (linked xs a b) a ≡ b
  after_a d = other-linked xs a b a lta ltb
      ∙ ap (λ t. if t then a else (if a == a then b else other xs a)) (ne_eqb b a (λ e. d (sym e)))
      ∙ ap (λ t. if t then b else other xs a) (eq-eqb a a refl)

  after_else : (k : ℕ) → k ≢ a → k ≢ b → other (linked xs a b) k ≡ other xs k
  after_else k da db = other-linked xs a b k lta ltb
      ∙ ap (λ t. if t then a else (if a == k then b else other xs k)) (ne_eqb b k (λ e. db (sym e)))
      ∙ ap (λ t. if t then b else other xs k) (ne_eqb a k (λ e. da (sym e)))

  -- who has a partner has one after it
  pub still_linked : a ≢ b → (k : ℕ) → other xs k ≢ k → other (linked xs a b) k ≢ k
  still_linked d k n e = elim (cases_eq k a) [
    | inl q ↦ d (q' q)
    | inr da ↦ elim (cases_eq k b) [
      | inl q ↦ d (sym (ap (other (linked xs a b)) q ∙ after_b) ∙ e ∙ q)
      | inr db ↦ n (sym (after_else k da db) ∙ e)
    ]
  ]
    where
      q' : k ≡ a → a ≡ b
      q' q = sym q ∙ sym e ∙ ap (other (linked xs a b)) q ∙ after_a d

  pub now_linked : a ≢ b → (other (linked xs a b) a ≢ a) × (other (linked xs a b) b ≢ b)
  now_linked d = ((λ e. d (sym e ∙ after_a d)), (λ e. d (sym after_b ∙ e)))

turned : (N : NamedNet NodeName) (p q : NamedPort NodeName) → Linked N p q → Linked N q p
turned N p q (inl h) = inr h
turned N p q (inr h) = inl h

pub within_table : (xs : List ℕ) (k : ℕ) → other xs k ≢ k → k < length xs
within_table xs k n = elim (cases_lt k (length xs)) [
  | inl a ↦ a
  | inr a ↦ absurd (n (other-past xs k a))
]

module _ (w : ClosedTable) (places numbers : List ℕ) (left : AreLeft w (ranks_in w) places numbers)
    (N : NamedNet NodeName) (reached : ℕ → Bool) (s : WordsStandFor w N reached) where
  abbrev z : Parts
  z = w.plan.parts

  abbrev port : ℕ → NamedPort NodeName
  port a = port_of z places a

  abbrev name : ℕ → NodeName
  name n = name_of z places n

  index_small : (x : NodeName) (k : Kind) (i : ℕ) → HasNode N x k i → i < 16777216
  index_small x k i h = omega (arith, s.indexes x k i h, events_few z w.words, s.small.fuel)

  -- ---- ends

  pub data EndView (p : NamedPort NodeName) (e : ℕ) : Type 0 where
    at_port : (n : ℕ) → n < N.free_ports → p ≡ free n → e ≡ wire_ref (port_word n) → EndView p e
    at_node : (x : NodeName) (k : Kind) (i : ℕ) → HasNode N x k i → p ≡ slot x 0 →
        e ≡ node_ref k i (place_of z x) → EndView p e
    at_slot : (x : NodeName) (k : Kind) (i c : ℕ) → HasNode N x k i → c < arity k →
        p ≡ slot x (suc c) → e ≡ slot_ref (place_of z x + c) → EndView p e

  pub view : (p : NamedPort NodeName) (e : ℕ) → IsEnd z N p e → EndView p e
  view p e (of_port {n = n} lt) = at_port n lt refl refl
  view p e (principal {x = x} k i h) = at_node x k i h refl refl
  view p e (auxiliary {x = x} {s = c} k i h lt) = at_slot x k i c h lt refl refl

  pub one_end : (p : NamedPort NodeName) (d e : ℕ) → IsEnd z N p d → IsEnd z N p e → d ≡ e
  one_end p d e g h = go (view p d g) (view p e h)
    where
      go : EndView p d → EndView p e → d ≡ e
      go (at_port n lt q r) (at_port m lt' q' r') = let same : free n ≡ free m = sym q ∙ q' in
          let f : n ≡ m = cc in r ∙ ap (λ n. wire_ref (port_word n)) f ∙ sym r'
      go (at_port n lt q r) (at_node y l j h' q' r') = absurd (let bad : free n ≡ slot y 0 = sym q ∙ q' in cc)
      go (at_port n lt q r) (at_slot y l j c h' lt' q' r') = absurd
          (let bad : free n ≡ slot y (suc c) = sym q ∙ q' in cc)
      go (at_node x k i h q r) (at_port m lt' q' r') = absurd (let bad : free m ≡ slot x 0 = sym q' ∙ q in cc)
      go (at_node x k i h q r) (at_node y l j h' q' r') =
          let same : slot x 0 ≡ slot y 0 = sym q ∙ q' in
          let f : x ≡ y = cc in
          let t = s.is_net.one_node y k l i j (subst (λ x. HasNode N x k i) f h) h' in
          r ∙ ap (λ x. node_ref k i (place_of z x)) f ∙ ap (λ k. node_ref k i (place_of z y)) t.0
          ∙ ap (λ i. node_ref l i (place_of z y)) t.1 ∙ sym r'
      go (at_node x k i h q r) (at_slot y l j c h' lt' q' r') = absurd
          (let bad : slot x 0 ≡ slot y (suc c) = sym q ∙ q' in let f : 0 ≡ suc c = cc in omega (arith, f))
      go (at_slot x k i b h lt q r) (at_port m lt' q' r') = absurd
          (let bad : free m ≡ slot x (suc b) = sym q' ∙ q in cc)
      go (at_slot x k i b h lt q r) (at_node y l j h' q' r') = absurd
          (let bad : slot y 0 ≡ slot x (suc b) = sym q' ∙ q in let f : 0 ≡ suc b = cc in omega (arith, f))
      go (at_slot x k i b h lt q r) (at_slot y l j c h' lt' q' r') =
          let same : slot x (suc b) ≡ slot y (suc c) = sym q ∙ q' in
          let f : x ≡ y = cc in
          let g : suc b ≡ suc c = cc in
          let g' : b ≡ c = omega (arith, g) in
          r ∙ ap (λ x. slot_ref (place_of z x + b)) f ∙ ap (λ b. slot_ref (place_of z y + b)) g' ∙ sym r'

  -- one end is that of one port
  pub one_port : (p q : NamedPort NodeName) (e : ℕ) → IsEnd z N p e → IsEnd z N q e → p ≡ q
  one_port p q e g h = go (view p e g) (view q e h)
    where
      small : (k : Kind) (c : ℕ) → c < arity k → c < 2
      small k c lt = omega (arith, lt, at_most_two k)

      go : EndView p e → EndView q e → p ≡ q
      go (at_port n lt a r) (at_port m lt' a' r') = let f : n ≡ m = omega (arith, r, r') in
          a ∙ ap (λ n. free n) f ∙ sym a'
      go (at_port n lt a r) (at_node y l j h' a' r') = absurd (omega (arith, r, r', node_sort l j (place_of z y)))
      go (at_port n lt a r) (at_slot y l j c h' lt' a' r') = absurd (omega (arith, r, r', slot_sort (place_of z y + c)))
      go (at_node x k i h a r) (at_port m lt' a' r') = absurd (omega (arith, r, r', node_sort k i (place_of z x)))
      go (at_node x k i h a r) (at_node y l j h' a' r') =
          let t = node_same k l i j (place_of z x) (place_of z y) (index_small x k i h)
          (index_small y l j h') (sym r ∙ r') in
          let f = (place_same z x y 0 0 (events_in z w.words) (s.names x k i h) (s.names y l j h')
          (omega arith) (omega arith) (omega (arith, t.2))).0 in
          a ∙ ap (λ x. slot x 0) f ∙ sym a'
      go (at_node x k i h a r) (at_slot y l j c h' lt' a' r') = absurd
          (omega (arith, r, r', node_sort k i (place_of z x), slot_sort (place_of z y + c)))
      go (at_slot x k i b h lt a r) (at_port m lt' a' r') = absurd (omega (arith, r, r', slot_sort (place_of z x + b)))
      go (at_slot x k i b h lt a r) (at_node y l j h' a' r') = absurd
          (omega (arith, r, r', node_sort l j (place_of z y), slot_sort (place_of z x + b)))
      go (at_slot x k i b h lt a r) (at_slot y l j c h' lt' a' r') =
          let t = place_same z x y b c (events_in z w.words) (s.names x k i h) (s.names y l j h')
          (small k b lt) (small l c lt') (omega (arith, r, r')) in
          a ∙ ap (λ x. slot x (suc b)) t.0 ∙ ap (λ b. slot y (suc b)) t.1 ∙ sym a'

  -- a reference to a node that stands in an edge is that of a slot 0
  pub node_at : (r : ℕ) → 0 < ends nat_eq r (es w N reached s) → IsNodeRef r → (x : NodeName) × IsEnd z N (slot x 0) r
  node_at r some_end sort = go (s.stands.others r some_end)
    where
      of : (p : NamedPort NodeName) → IsEnd z N p r → EndView p r → (x : NodeName) × IsEnd z N (slot x 0) r
      of p h (at_port n lt q e) = absurd (omega (arith, e, sort, wire_sort (port_word n)))
      of p h (at_node x k i g q e) = (x, subst (λ p. IsEnd z N p r) q h)
      of p h (at_slot x k i c g lt q e) = absurd (omega (arith, e, sort, slot_sort (place_of z x + c)))

      go : ((p : NamedPort NodeName) × IsEnd z N p r) ⊎ IsWireEnd reached r → (x : NodeName) × IsEnd z N (slot x 0) r
      go (inl t) = of t.0 t.1 (view t.0 r t.1)
      go (inr t) = absurd (omega (arith, t.2, sort, wire_sort t.0))

  pub led_node : (e r : ℕ) → LeadsTo w N reached e r → IsNodeRef r → (x : NodeName) × IsEnd z N (slot x 0) r
  led_node e r g sort = node_at r (led_ends w N reached s e r g) sort

  -- what such a reference tells
  pub node_told : (x : NodeName) (r : ℕ) → IsEnd z N (slot x 0) r →
      HasNode N x (kind_in r) (index_in r) × (place_in r ≡ place_of z x)
  node_told x r h = go (view (slot x 0) r h)
    where
      go : EndView (slot x 0) r → HasNode N x (kind_in r) (index_in r) × (place_in r ≡ place_of z x)
      go (at_port n lt q e) = absurd (let bad : free n ≡ slot x 0 = sym q in cc)
      go (at_node y k i g q e) =
          let f : y ≡ x = (let same : slot y 0 ≡ slot x 0 = sym q in cc) in
          let low = index_small y k i g in (
            subst (λ y. HasNode N y (kind_in r) (index_in r)) f
                (subst (λ i. HasNode N y (kind_in r) i)
                (sym (ap index_in e ∙ index_of_ref k i (place_of z y) low))
                (subst (λ k. HasNode N y k i) (sym (ap kind_in e
                ∙ kind_of_ref k i (place_of z y))) g)),
            ap place_in e
                ∙ place_of_ref k i (place_of z y) low ∙ ap (place_of z) f,
          )
      go (at_slot y k i c g lt q e) = absurd
          (let bad : slot x 0 ≡ slot y (suc c) = q in let f : 0 ≡ suc c = cc in omega (arith, f))

  module _ (kinds : List (Kind × ℕ)) (partners : List ℕ) (before : IsPartial w N places kinds partners) where
    size_is : length partners ≡ z.free + 3 * length places
    size_is = before.partners_long

    -- ---- a link

    module _ (a b : ℕ) (lta : a < length partners) (ltb : b < length partners) (h : Linked N (port a) (port b)) where
      pub ends_apart : a ≢ b
      ends_apart e = s.is_net.apart (port a) (subst (λ c. Linked N (port a) (port c)) (sym e) h)

      -- a third place is no partner of either
      third : (c d k : ℕ) → d < length partners → Linked N (port c) (port d) → k ≢ c → k ≢ d → other partners k ≢ c
      third c d k ltd l nc nd e =
          let back : other partners c ≡ k = ap (other partners) (sym e) ∙ before.paired k in
          let m = subst (λ v. Linked N (port c) (port v)) back (before.linked c (λ q. nc (sym back ∙ q))) in
          let low = within_table partners k (λ q. nc (sym q ∙ e)) in
          nd (one_site w places numbers left k d (omega (arith, low, size_is))
          (omega (arith, ltd, size_is)) (s.is_net.one_link (port c) (port k) (port d) m l))

      pub linked_partial : IsKnown w N places kinds a → IsKnown w N places kinds b →
          IsPartial w N places kinds (linked partners a b)
      linked_partial ka kb = record {
        kinds_long = before.kinds_long;
        partners_long = length-linked partners a b ∙ before.partners_long;
        paired = pairs;
        linked = links;
        known = λ k n. knows k n;
      }
        where
          new : ℕ → ℕ
          new k = other (linked partners a b) k

          pairs : (k : ℕ) → other (linked partners a b) (other (linked partners a b) k) ≡ k
          pairs k = elim (cases_eq k a) [
            | inl q ↦ ap (λ k. other (linked partners a b) (other (linked partners a b) k)) q
                ∙ ap (other (linked partners a b)) (after_a partners a b lta ltb ends_apart)
                ∙ after_b partners a b lta ltb ∙ sym q
            | inr da ↦ elim (cases_eq k b) [
              | inl q ↦ ap (λ k. other (linked partners a b) (other (linked partners a b) k)) q
                  ∙ ap (other (linked partners a b)) (after_b partners a b lta ltb)
                  ∙ after_a partners a b lta ltb ends_apart ∙ sym q
              | inr db ↦
                  ap (other (linked partners a b)) (after_else partners a b lta ltb k da db)
                  ∙ after_else partners a b lta ltb (other partners k) (third a b k ltb h da db)
                  (third b a k lta (turned N (port a) (port b) h) db da) ∙ before.paired k
            ]
          ]

          links : (k : ℕ) → other (linked partners a b) k ≢ k → Linked N (port k) (port (other (linked partners a b) k))
          links k n = elim (cases_eq k a) [
            | inl q ↦ subst (λ k. Linked N (port k) (port (other (linked partners a b) k))) (sym q)
                (subst (λ v. Linked N (port a) (port v)) (sym (after_a partners a b lta ltb ends_apart)) h)
            | inr da ↦ elim (cases_eq k b) [
              | inl q ↦ subst (λ k. Linked N (port k) (port (other (linked partners a b) k)))
                  (sym q) (subst (λ v. Linked N (port b) (port v))
                  (sym (after_b partners a b lta ltb)) (turned N (port a) (port b) h))
              | inr db ↦
                  let e = after_else partners a b lta ltb k da db in
                  subst (λ v. Linked N (port k) (port v)) (sym e) (before.linked k (λ q. n (e ∙ q)))
            ]
          ]

          knows : (k : ℕ) → other (linked partners a b) k ≢ k → IsKnown w N places kinds k
          knows k n = elim (cases_eq k a) [
            | inl q ↦ subst (IsKnown w N places kinds) (sym q) ka
            | inr da ↦ elim (cases_eq k b) [
              | inl q ↦ subst (IsKnown w N places kinds) (sym q) kb
              | inr db ↦ before.known k (λ q. n (after_else partners a b lta ltb k da db ∙ q))
            ]
          ]

    -- ---- a node's kind

    module _ (r n : ℕ) (x : NodeName) (h : IsEnd z N (slot x 0) r) (lt : n < length places)
        (at : slice_index places n ≡ place_in r) where
      abbrev kinds' : List (Kind × ℕ)
      kinds' = slice_set kinds n (kind_in r, index_in r)

      is_x : name n ≡ x
      is_x =
          let i = numbered w places numbers left n lt in
          let t = node_told x r h in
          let p = s.names x (kind_in r) (index_in r) t.0 in
          (place_same z (name n) x 0 0 (events_in z w.words) i.placed p (omega arith) (omega arith)
          (omega (arith, i.place, at, t.1))).0

      set_here : kind_of kinds' n ≡ (kind_in r, index_in r)
      set_here = get_or-set_same kinds n (kind_in r, index_in r) (Eraser, 0) (omega (arith, lt, before.kinds_long))

      kind_here : HasNode N (name n) (kind_of kinds' n).0 (kind_of kinds' n).1
      kind_here = subst (λ (k : Kind × ℕ). HasNode N (name n) k.0 k.1) (sym set_here)
          (subst (λ x. HasNode N x (kind_in r) (index_in r)) (sym is_x) (node_told x r h).0)

      knows_more : (a : ℕ) → IsKnown w N places kinds a → IsKnown w N places kinds' a
      knows_more a k m ltm e = elim (cases_eq m n) [
        | inl q ↦ subst (λ m. HasNode N (name m) (kind_of kinds' m).0 (kind_of kinds' m).1) (sym q) kind_here
        | inr d ↦ subst (λ (k : Kind × ℕ). HasNode N (name m) k.0 k.1)
            (sym (get_or-set_other kinds n m (kind_in r, index_in r) (Eraser, 0) d)) (k m ltm e)
      ]

      pub set_partial : IsPartial w N places kinds' partners
      set_partial = record {
        kinds_long = length-set kinds n (kind_in r, index_in r)
            ∙ before.kinds_long;
        partners_long = before.partners_long;
        paired = before.paired;
        linked = before.linked;
        known = λ a d. knows_more a (before.known a d);
      }

      pub set_known : IsKnown w N places kinds' (z.free + 3 * n + 0)
      set_known m ltm e = let q : m ≡ n = omega (arith, e) in
          subst (λ m. HasNode N (name m) (kind_of kinds' m).0 (kind_of kinds' m).1) (sym q) kind_here

      pub set_keeps : (a : ℕ) → IsKnown w N places kinds a → IsKnown w N places kinds' a
      set_keeps = knows_more

      pub set_site : IsEnd z N (port (z.free + 3 * n + 0)) r
      set_site = subst (λ p. IsEnd z N p r)
          (sym (port_slot w places numbers left (z.free + 3 * n + 0) n 0 (omega arith) refl
          ∙ ap (λ y. slot y 0) is_x)) h
