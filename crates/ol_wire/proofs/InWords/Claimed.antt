-- What a cell holds that isn't empty: two nodes that face each other, whose fields are written.
-- Used in Closing, Credit, InWords, LinkSteps, Steps and Ticket.
use Rattle.std.proofs.Common.{◌≡◌, ◌≢◌, ℕ, suc, ◌+◌, ◌<◌, ◌≤◌, Bool, true, false, if◌then◌else◌, nat_eq, eq-eqb, ne_eqb}
use Rattle.std.proofs.Common.{List, [], ◌∷◌, length, get_or, ◌⊎◌, inl, inr, refl, sym, ap, ◌∙◌, subst, arith}
use Rattle.std.proofs.lemmas.Bool.{cases_eq}
use Rattle.ol_law_edges.specs.Edges.{IsIn, here, on, ends, bit}
use Rattle.ol_net.specs.declared.parts.Kind.{Kind}
use Rattle.ol_net.specs.Nets.{NamedPort, slot, NamedNet, HasNode, Linked}
use Rattle.ol_net.specs.Parts.{arity}
use Rattle.ol_rules.specs.declared.journal.NodeName.{NodeName}
use Rattle.ol_rules.specs.declared.journal.NodeName.TheVariants.{Init, Born}
use Rattle.ol_wire.specs.declared.layout.Parts.{Parts}
use Rattle.ol_wire.specs.declared.plan.Plan.{Plan}
use Rattle.ol_wire.specs.declared.view.Link.{Link}
use Rattle.ol_wire.specs.declared.view.View.{View}
use Rattle.ol_wire.specs.References.{node_ref, wire_ref, slot_ref, IsNodeRef, IsRef}
use Rattle.ol_wire.specs.Layout.{WordPart, ticket, live_word, port, field, wire, between, left}
use Rattle.ol_wire.specs.Layout.{right, entry, past, part_of_word, place_of, table_size, IsPlaced}
use Rattle.ol_wire.specs.Edges.{edge_to, edge_in, edges_in, edges_of, links_in, pending_in, is_reached, is_live}
use Rattle.ol_wire.specs.Stands.{IsEnd, of_port, principal, auxiliary, IsWireEnd}
use Rattle.ol_wire.specs.Rule.{Table, IsView, IsOwn, Kept}
use Rattle.ol_wire.proofs.InWords.References.{node_sort, wire_sort, slot_sort, slot_same}
use Rattle.ol_wire.proofs.InWords.Places.{part_field, is_left, place_before, place_same}
use Rattle.ol_wire.proofs.InWords.EdgeList.{edge_there, edge_found, pending_there, pending_found, live_there}
use Rattle.ol_wire.proofs.InWords.Held.{Holds, owner}
use Rattle.ol_law_edges.proofs.Lists.{in_left, in_cases}
use Rattle.ol_rules.proofs.EndCounts.{ends_append}
use Rattle.ol_rules.proofs.Born.{at_most_two}

pub same_bit : (u v : ℕ) → u ≡ v → bit (nat_eq u v) ≡ 1
same_bit u v e = ap bit (eq-eqb u v e)

pub other_bit : (u v : ℕ) → u ≢ v → bit (nat_eq u v) ≡ 0
other_bit u v n = ap bit (ne_eqb u v n)

pub ends_first : (u d : ℕ) (es : List (ℕ × ℕ)) → IsIn (u, d) es → 1 ≤ ends nat_eq u es
ends_first u d [] h = elim h [ ]
ends_first u d (e ∷ es) (inl q) = omega (arith, same_bit u e.0 (ap (λ (x : ℕ × ℕ). x.0) q))
ends_first u d (e ∷ es) (inr h) = omega (arith, ends_first u d es h)

pub ends_second : (u d : ℕ) (es : List (ℕ × ℕ)) → IsIn (d, u) es → 1 ≤ ends nat_eq u es
ends_second u d [] h = elim h [ ]
ends_second u d (e ∷ es) (inl q) = omega (arith, same_bit u e.1 (ap (λ (x : ℕ × ℕ). x.1) q))
ends_second u d (e ∷ es) (inr h) = omega (arith, ends_second u d es h)

-- an edge from an end to itself stands at it twice
pub ends_twice : (u d : ℕ) (es : List (ℕ × ℕ)) → u ≡ d → IsIn (u, d) es → 2 ≤ ends nat_eq u es
ends_twice u d [] same h = elim h [ ]
ends_twice u d (e ∷ es) same (inl q) = omega
    (arith, same_bit u e.0 (ap (λ (x : ℕ × ℕ). x.0) q), same_bit u e.1 (same ∙ ap (λ (x : ℕ × ℕ). x.1) q))
ends_twice u d (e ∷ es) same (inr h) = omega (arith, ends_twice u d es same h)

pub ends_found : (u : ℕ) (es : List (ℕ × ℕ)) → 1 ≤ ends nat_eq u es →
    (a : ℕ) × (b : ℕ) × IsIn (a, b) es × ((a ≡ u) ⊎ (b ≡ u))
ends_found u [] h = absurd (omega (arith, h))
ends_found u (e ∷ es) h = elim (cases_eq u e.0) [
  | inl q ↦ (e.0, e.1, inl refl, inl (sym q))
  | inr d ↦ elim (cases_eq u e.1) [
    | inl q ↦ (e.0, e.1, inl refl, inr (sym q))
    | inr d' ↦ let t = ends_found u es (omega (arith, h, other_bit u e.0 d, other_bit u e.1 d')) in
        (t.0, t.1, inr t.2, t.3)
  ]
]

-- where an edge of the words stands
pub data EdgeAt (at : WordPart) (n word next a b : ℕ) : Type 0 where
  at_wire : at ≢ ticket → at ≢ live_word → a ≡ wire_ref n → b ≡ word → word ≢ 0 → EdgeAt at n word next a b
  at_field : (x : NodeName) (s : ℕ) → at ≡ field x s → a ≡ slot_ref n → b ≡ word → word ≢ 0 → EdgeAt at n word next a b
  at_cell : at ≡ left → a ≡ word → b ≡ next → word ≢ 0 → EdgeAt at n word next a b

one_edge : (end word a b : ℕ) → IsIn (a, b) (edge_to end word) → (a ≡ end) × (b ≡ word) × (word ≢ 0)
one_edge end word a b h = elim (cases_eq word 0) [
  | inl e ↦ let q : IsIn {X = ℕ × ℕ} (a, b) [] = subst
      (λ c. IsIn {X = ℕ × ℕ} (a, b) (if c then [] else (end, word) ∷ [])) (eq-eqb word 0 e) h in elim q [ ]
  | inr n ↦ only (subst (λ c. IsIn {X = ℕ × ℕ} (a, b) (if c then [] else (end, word) ∷ [])) (ne_eqb word 0 n) h) n
]
  where
    only : IsIn {X = ℕ × ℕ} (a, b) ((end, word) ∷ []) → word ≢ 0 → (a ≡ end) × (b ≡ word) × (word ≢ 0)
    only (inl q) n = (ap (λ (x : ℕ × ℕ). x.0) q, ap (λ (x : ℕ × ℕ). x.1) q, n)
    only (inr t) n = elim t [ ]

pub edge_at : (net : NamedNet NodeName) (reached : Bool) (at : WordPart) (n word next a b : ℕ) →
    IsIn (a, b) (edge_in net reached at n word next) → EdgeAt at n word next a b
edge_at net r (port m) n word next a b h = let t = one_edge (wire_ref n) word a b h in
    at_wire (λ e. absurd (cc)) (λ e. absurd (cc)) t.0 t.1 t.2
edge_at net r (field x s) n word next a b h = go (is_live net x) h
  where
    go : (c : Bool) → IsIn {X = ℕ × ℕ} (a, b) (if c then edge_to (slot_ref n) word else []) →
        EdgeAt (field x s) n word next a b
    go true i = let t = one_edge (slot_ref n) word a b i in at_field x s refl t.0 t.1 t.2
    go false i = elim i [ ]
edge_at net true (wire j) n word next a b h = let t = one_edge (wire_ref n) word a b h in
    at_wire (λ e. absurd (cc)) (λ e. absurd (cc)) t.0 t.1 t.2
edge_at net false (wire j) n word next a b h = elim h [ ]
edge_at net true (between t q p) n word next a b h = let t = one_edge (wire_ref n) word a b h in
    at_wire (λ e. absurd (cc)) (λ e. absurd (cc)) t.0 t.1 t.2
edge_at net false (between t q p) n word next a b h = elim h [ ]
edge_at net r left n word next a b h = elim (cases_eq word 0) [
  | inl e ↦ let q : IsIn {X = ℕ × ℕ} (a, b) [] = subst
      (λ c. IsIn {X = ℕ × ℕ} (a, b) (if c then [] else (word, next) ∷ [])) (eq-eqb word 0 e) h in elim q [ ]
  | inr m ↦ only (subst (λ c. IsIn {X = ℕ × ℕ} (a, b) (if c then [] else (word, next) ∷ [])) (ne_eqb word 0 m) h) m
]
  where
    only : IsIn {X = ℕ × ℕ} (a, b) ((word, next) ∷ []) → word ≢ 0 → EdgeAt left n word next a b
    only (inl q) m = at_cell refl (ap (λ (x : ℕ × ℕ). x.0) q) (ap (λ (x : ℕ × ℕ). x.1) q) m
    only (inr t) m = elim t [ ]
edge_at net r right n word next a b h = elim h [ ]
edge_at net r entry n word next a b h = elim h [ ]
edge_at net r ticket n word next a b h = elim h [ ]
edge_at net r live_word n word next a b h = elim h [ ]
edge_at net r past n word next a b h = elim h [ ]

cell_edge : (net : NamedNet NodeName) (r : Bool) (at : WordPart) (n word next : ℕ) → at ≡ left →
    word ≢ 0 → IsIn (word, next) (edge_in net r at n word next)
cell_edge net r at n word next e m = subst
    (λ q. IsIn {X = ℕ × ℕ} (word, next) (edge_in net r q n word next)) (sym e)
    (subst (λ c. IsIn {X = ℕ × ℕ} (word, next) (if c then [] else (word, next) ∷ []))
    (sym (ne_eqb word 0 m)) (inl refl))

pub wider : (z : Parts) (x : NodeName) (m n : ℕ) → m ≤ n → IsPlaced z m x → IsPlaced z n x
wider z (Init j) m n le h = h
wider z (Born t i) m n le h = (omega (arith, le, h.0), h.1)

pub own_edge : (net : NamedNet NodeName) (r : Bool) (at : WordPart) (x : NodeName)
    (c n word next : ℕ) → at ≡ field x c → is_live net x ≡ true → word ≢ 0 →
    IsIn (slot_ref n, word) (edge_in net r at n word next)
own_edge net r at x c n word next e live m =
    subst (λ q. IsIn {X = ℕ × ℕ} (slot_ref n, word) (edge_in net r q n word next)) (sym e)
    (subst (λ b. IsIn {X = ℕ × ℕ} (slot_ref n, word) (if b then edge_to (slot_ref n) word else [])) (sym live)
    (subst (λ b. IsIn {X = ℕ × ℕ} (slot_ref n, word) (if b then [] else (slot_ref n, word) ∷ []))
    (sym (ne_eqb word 0 m)) (inl refl)))

-- a node whose reference this is
pub record IsNodeAt (z : Parts) (N : NamedNet NodeName) (r : ℕ) : Type 0 where
  pub x : NodeName
  pub k : Kind
  pub i : ℕ
  pub has : HasNode N x k i
  pub is : r ≡ node_ref k i (place_of z x)

module _ (p : Plan) (s : Table) (k : Kept p s) where
  abbrev z : Parts
  z = p.parts

  abbrev in_words : List (ℕ × ℕ)
  in_words = edges_in z k.net (is_reached z k.log s.views) k.full (table_size z)

  abbrev all : List (ℕ × ℕ)
  all = edges_of z k.net k.log k.full s.views

  -- a reference of a node that stands in an edge is that of a node of the net
  pub node_of : (r : ℕ) → IsNodeRef r → 1 ≤ ends nat_eq r all → IsNodeAt z k.net r
  node_of r sort some_end = of (k.stands.others r (omega (arith, some_end)))
    where
      of_end : (q : NamedPort NodeName) (e : ℕ) → IsEnd z k.net q e → e ≡ r → IsNodeAt z k.net r
      of_end q e (of_port {n = n} lt) same = absurd (omega (arith, same, sort, wire_sort (suc n)))
      of_end q e (principal {x = x} m i h) same = record { x = x; k = m; i = i; has = h; is = sym same }
      of_end q e (auxiliary {x = x} {s = c} m i h lt) same = absurd
          (omega (arith, same, sort, slot_sort (place_of z x + c)))

      of : ((q : NamedPort NodeName) × IsEnd z k.net q r)
          ⊎ IsWireEnd (is_reached z k.log s.views) r → IsNodeAt z k.net r
      of (inl t) = of_end t.0 r t.1 refl
      of (inr t) = absurd (omega (arith, t.2, sort, wire_sort t.0))

  -- the two nodes of a cell that isn't empty, and their link
  pub record IsCellPair (w : ℕ) : Type 0 where
    pub f : IsNodeAt z k.net (get_or k.full w 0)
    pub g : IsNodeAt z k.net (get_or k.full (suc w) 0)
    pub linked : Linked k.net (slot f.x 0) (slot g.x 0)

  pub cell_in : (w : ℕ) → part_of_word z w ≡ left → get_or k.full w 0 ≢ 0 →
      IsIn (get_or k.full w 0, get_or k.full (suc w) 0) in_words
  cell_in w is_cell some_pair =
      edge_there z k.net (is_reached z k.log s.views) k.full (table_size z) w _
      (omega (arith, (is_left z w is_cell).1))
      (cell_edge k.net _ (part_of_word z w) w (get_or k.full w 0) (get_or k.full (suc w) 0) is_cell some_pair)

  pub cell_pair : (w : ℕ) → part_of_word z w ≡ left → get_or k.full w 0 ≢ 0 → IsCellPair w
  cell_pair w is_cell some_pair = record { f = f; g = g; linked = linked }
    where
      edge : IsIn (get_or k.full w 0, get_or k.full (suc w) 0) all
      edge = in_left _ in_words (pending_in s.views) (cell_in w is_cell some_pair)

      f : IsNodeAt z k.net (get_or k.full w 0)
      f = node_of (get_or k.full w 0) (k.words.cells w is_cell some_pair).0 (ends_first _ _ all edge)

      g : IsNodeAt z k.net (get_or k.full (suc w) 0)
      g = node_of (get_or k.full (suc w) 0) (k.words.cells w is_cell some_pair).1 (ends_second _ _ all edge)

      f_end : IsEnd z k.net (slot f.x 0) (get_or k.full w 0)
      f_end = subst (λ r. IsEnd z k.net (slot f.x 0) r) (sym f.is) (principal f.k f.i f.has)

      g_end : IsEnd z k.net (slot g.x 0) (get_or k.full (suc w) 0)
      g_end = subst (λ r. IsEnd z k.net (slot g.x 0) r) (sym g.is) (principal g.k g.i g.has)

      no_wire : (r : ℕ) → IsNodeRef r → IsWireEnd (is_reached z k.log s.views) r → ⊥
      no_wire r sort t = omega (arith, t.2, sort, wire_sort t.0)

      linked : Linked k.net (slot f.x 0) (slot g.x 0)
      linked = (k.stands.links (slot f.x 0) (slot g.x 0) _ _ f_end g_end).1 (record {
        first = no_wire _ (k.words.cells w is_cell some_pair).0;
        second = no_wire _ (k.words.cells w is_cell some_pair).1;
        apart = λ e. omega (arith, ends_twice _ _ all e edge, k.stands.ports (slot f.x 0) _ f_end);
        joined = on here edge;
      })

  no_slot : (r n : ℕ) → IsRef r → r ≡ slot_ref n → ⊥
  no_slot r n (inl sort) e = omega (arith, e, sort, slot_sort n)
  no_slot r n (inr sort) e = omega (arith, e, sort, slot_sort n)

  -- the field of a slot that a node has isn't empty
  pub field_full : (x : NodeName) (m : Kind) (i c : ℕ) → HasNode k.net x m i → c < arity m →
      get_or k.full (place_of z x + c) 0 ≢ 0
  field_full x m i c h lt = of (ends_found (slot_ref (place_of z x + c)) all
      (omega (arith, k.stands.ports (slot x (suc c)) _ (auxiliary m i h lt))))
    where
      place : ℕ
      place = place_of z x + c

      value : (n : ℕ) → 1 < n → get_or k.full n 0 ≢ 0 → get_or k.full n 0 ≡ slot_ref place → ⊥
      value n lt' some_word e = no_slot (get_or k.full n 0) place (k.words.refs n lt' some_word).0 e

      behind : (n : ℕ) → part_of_word z n ≢ ticket → part_of_word z n ≢ live_word → 1 < n
      behind n d f = elim (cases_eq n 0) [
        | inl q ↦ absurd (d (ap (part_of_word z) q))
        | inr q ↦ elim (cases_eq n 1) [
          | inl r ↦ absurd (f (ap (part_of_word z) r))
          | inr r ↦ omega (arith, q, r)
        ]
      ]

      at : (n a b : ℕ) → EdgeAt (part_of_word z n) n (get_or k.full n 0)
          (get_or k.full (suc n) 0) a b → (a ≡ slot_ref place) ⊎ (b ≡ slot_ref place) → get_or k.full place 0 ≢ 0
      at n a b (at_wire d f ea eb some_word) (inl e) = absurd (omega (arith, ea, e, wire_sort n, slot_sort place))
      at n a b (at_wire d f ea eb some_word) (inr e) = absurd (value n (behind n d f) some_word (sym eb ∙ e))
      at n a b (at_field y u q ea eb some_word) (inl e) = let d : n ≡ place = slot_same n place
          (sym ea ∙ e) in subst (λ w. get_or k.full w 0 ≢ 0) d some_word
      at n a b (at_field y u q ea eb some_word) (inr e) = absurd
          (value n (behind n (λ t. let u : field y u ≡ ticket = sym q ∙ t in absurd (cc))
          (λ t. let u : field y u ≡ live_word = sym q ∙ t in absurd (cc))) some_word (sym eb ∙ e))
      at n a b (at_cell q ea eb some_word) (inl e) = absurd
          (omega (arith, sym ea ∙ e, (k.words.cells n q some_word).0, slot_sort place))
      at n a b (at_cell q ea eb some_word) (inr e) = absurd
          (omega (arith, sym eb ∙ e, (k.words.cells n q some_word).1, slot_sort place))

      of_link : (a b : ℕ) (v : View) → IsView s v → (ls : List Link) →
          ((l : Link) → IsIn l ls → IsIn l v.pending) → IsIn (a, b) (links_in ls) →
          (a ≡ slot_ref place) ⊎ (b ≡ slot_ref place) → ⊥
      of_link a b v is [] among i e = elim i [ ]
      of_link a b v is (l ∷ ls) among (inl q) (inl e) = no_slot l.one place
          (k.cells.link_refs v l is (among l (inl refl))).0.0 (sym (ap (λ (x : ℕ × ℕ). x.0) q) ∙ e)
      of_link a b v is (l ∷ ls) among (inl q) (inr e) = no_slot l.two place
          (k.cells.link_refs v l is (among l (inl refl))).1.0 (sym (ap (λ (x : ℕ × ℕ). x.1) q) ∙ e)
      of_link a b v is (l ∷ ls) among (inr i) e = of_link a b v is ls (λ l' i'. among l' (inr i')) i e

      of_either : (a b : ℕ) → IsIn (a, b) in_words ⊎ IsIn (a, b) (pending_in s.views) →
          (a ≡ slot_ref place) ⊎ (b ≡ slot_ref place) → get_or k.full place 0 ≢ 0
      of_either a b (inl i) e = let t = edge_found z k.net (is_reached z k.log s.views) k.full
          (table_size z) (a, b) i in at t.0 a b (edge_at k.net _ (part_of_word z t.0) t.0 _ _ a b t.2) e
      of_either a b (inr i) e = let t = pending_found s.views (a, b) i in
          absurd (of_link a b t.1 (t.0, t.2) t.1.pending (λ l h. h) t.3 e)

      of : (a : ℕ) × (b : ℕ) × IsIn (a, b) all × ((a ≡ slot_ref place) ⊎ (b ≡ slot_ref place)) →
          get_or k.full place 0 ≢ 0
      of t = of_either t.0 t.1 (in_cases (t.0, t.1) in_words (pending_in s.views) t.2) t.3

  pub is_placed : (x : NodeName) (m : Kind) (i : ℕ) → HasNode k.net x m i → IsPlaced z z.fuel x
  is_placed x m i h = wider z x (length k.log) z.fuel k.tickets.few (k.journal.names x m i h)

  pub field_within : (x : NodeName) (m : Kind) (i c : ℕ) → HasNode k.net x m i → c < 2 → place_of z x + c < table_size z
  field_within x m i c h lt = omega (arith, (place_before z x z.fuel (is_placed x m i h)).1)

  field_in : (x : NodeName) (m : Kind) (i c : ℕ) → HasNode k.net x m i → c < 2 →
      get_or k.full (place_of z x + c) 0 ≢ 0 →
      IsIn (slot_ref (place_of z x + c), get_or k.full (place_of z x + c) 0) in_words
  field_in x m i c h lt n =
      edge_there z k.net (is_reached z k.log s.views) k.full (table_size z) (place_of z x + c) _
      (field_within x m i c h lt)
      (own_edge k.net _ (part_of_word z (place_of z x + c)) x c (place_of z x + c) _ _
      (part_field z x c (is_placed x m i h) lt) (live_there k.net x m i h) n)

  -- and the field of a slot that it hasn't is
  pub field_none : (x : NodeName) (m : Kind) (i c : ℕ) → HasNode k.net x m i → arity m ≤ c → c < 2 →
      get_or k.full (place_of z x + c) 0 ≡ 0
  field_none x m i c h le lt = elim (cases_eq (get_or k.full (place_of z x + c) 0) 0) [
    | inl e ↦ e
    | inr n ↦ absurd (of (k.stands.others (slot_ref (place_of z x + c))
        (omega (
          arith,
          ends_first (slot_ref (place_of z x + c)) _ all
              (in_left _ in_words (pending_in s.views) (field_in x m i c h lt n)),
        ))))
  ]
    where
      of_end : (q : NamedPort NodeName) (e : ℕ) → IsEnd z k.net q e → e ≡ slot_ref (place_of z x + c) → ⊥
      of_end q e (of_port {n = n} b) same = omega (arith, same, wire_sort (suc n), slot_sort (place_of z x + c))
      of_end q e (principal {x = y} m' i' h') same = omega
          (arith, same, node_sort m' i' (place_of z y), slot_sort (place_of z x + c))
      of_end q e (auxiliary {x = y} {s = d} m' i' h' b) same =
          let t = place_same z y x d c z.fuel (is_placed y m' i' h') (is_placed x m i h)
          (omega (arith, b, at_most_two m')) lt (slot_same _ _ same) in
          let u = k.journal.is_net.one_node x m' m i' i (subst (λ y. HasNode k.net y m' i') t.0 h') h in
          omega (arith, b, le, t.1, ap arity u.0)

      of : ((q : NamedPort NodeName) × IsEnd z k.net q (slot_ref (place_of z x + c)))
          ⊎ IsWireEnd (is_reached z k.log s.views) (slot_ref (place_of z x + c)) → ⊥
      of (inl t) = of_end t.0 _ t.1 refl
      of (inr t) = omega (arith, t.2, wire_sort t.0, slot_sort (place_of z x + c))

  -- a node of a cell's pair stands in no pending link
  pub not_pending : (w : ℕ) → part_of_word z w ≡ left → get_or k.full w 0 ≢ 0 →
      (x : NodeName) (m : Kind) (i : ℕ) → HasNode k.net x m i →
      (get_or k.full w 0 ≡ node_ref m i (place_of z x))
      ⊎ (get_or k.full (suc w) 0 ≡ node_ref m i (place_of z x)) → (v : View) (d : ℕ) → IsView s v →
      IsIn (node_ref m i (place_of z x), d) (links_in v.pending) → ⊥
  not_pending w is_cell some_pair x m i h ref v d is there =
      omega (
        arith,
        k.stands.ports (slot x 0) r (principal m i h),
        ends_append nat_eq r in_words (pending_in s.views),
        in_cell ref,
        ends_first r d (pending_in s.views) (pending_there s.views is.0 v (r, d) is.1 there),
      )
    where
      r : ℕ
      r = node_ref m i (place_of z x)

      in_cell : (get_or k.full w 0 ≡ r) ⊎ (get_or k.full (suc w) 0 ≡ r) → 1 ≤ ends nat_eq r in_words
      in_cell (inl e) = subst (λ u. 1 ≤ ends nat_eq u in_words) e
          (ends_first _ _ in_words (cell_in w is_cell some_pair))
      in_cell (inr e) = subst (λ u. 1 ≤ ends nat_eq u in_words) e
          (ends_second _ _ in_words (cell_in w is_cell some_pair))

  -- the fields of a node of a cell's pair are written
  pub field_written : (w : ℕ) → part_of_word z w ≡ left → get_or k.full w 0 ≢ 0 →
      (x : NodeName) (m : Kind) (i c : ℕ) → HasNode k.net x m i →
      (get_or k.full w 0 ≡ node_ref m i (place_of z x))
      ⊎ (get_or k.full (suc w) 0 ≡ node_ref m i (place_of z x)) → c < arity m →
      get_or s.words (place_of z x + c) 0 ≡ get_or k.full (place_of z x + c) 0
  field_written w is_cell some_pair x m i c h ref lt = of
      (owner p s k place (field_within x m i c h (omega (arith, lt, at_most_two m))) (field_full x m i c h lt))
    where
      place : ℕ
      place = place_of z x + c

      is_field : part_of_word z place ≡ field x c
      is_field = part_field z x c (is_placed x m i h) (omega (arith, lt, at_most_two m))

      of : (get_or s.words place 0 ≡ get_or k.full place 0)
          ⊎ ((v : View) × IsView s v × Holds v place (get_or k.full place 0)) →
          get_or s.words place 0 ≡ get_or k.full place 0
      of (inl e) = e
      of (inr (v, is, inl due)) =
          let t = k.seats.due_fields v place (get_or k.full place 0) x c is due is_field in
          let u = k.journal.is_net.one_node x t.0 m t.1 i t.2 h in
          let e : node_ref t.0 t.1 (place_of z x) ≡ node_ref m i (place_of z x) = ap
          (λ n. node_ref n t.1 (place_of z x)) u.0 ∙ ap (λ n. node_ref m n (place_of z x)) u.1 in
          absurd (not_pending w is_cell some_pair x m i h ref v t.4 is
          (subst (λ r. IsIn {X = ℕ × ℕ} (r, t.4) (links_in v.pending)) e t.5))
      of (inr (v, is, inr taken)) = let e : field x c ≡ left = sym is_field
          ∙ (k.seats.taken v place _ is taken).0 in absurd (cc)

  -- and so is the right word of a cell
  pub right_written : (w : ℕ) → part_of_word z w ≡ left → get_or k.full w 0 ≢ 0 →
      get_or s.words (suc w) 0 ≡ get_or k.full (suc w) 0
  right_written w is_cell some_pair = of (owner p s k (suc w) (is_left z w is_cell).1 some_right)
    where
      some_right : get_or k.full (suc w) 0 ≢ 0
      some_right e = omega (arith, e, (k.words.cells w is_cell some_pair).1)

      own : (q : WordPart) → q ≡ right → IsOwn q → ⊥
      own q e o = subst (λ q. IsOwn q) e o

      of : (get_or s.words (suc w) 0 ≡ get_or k.full (suc w) 0)
          ⊎ ((v : View) × IsView s v × Holds v (suc w) (get_or k.full (suc w) 0)) →
          get_or s.words (suc w) 0 ≡ get_or k.full (suc w) 0
      of (inl e) = e
      of (inr (v, is, inl due)) = absurd (own (part_of_word z (suc w)) (is_left z w is_cell).0
          ((k.seats.due v (suc w) _ is due).1))
      of (inr (v, is, inr taken)) = let e : right ≡ left = sym (is_left z w is_cell).0
          ∙ (k.seats.taken v (suc w) _ is taken).0 in absurd (cc)
