-- Chains in the words of a closed table: from each end that owns a word they are followed forward,
-- and lead to the port that the net links it with.
use Rattle.std.proofs.Common.{◌≡◌, ◌≢◌, ℕ, suc, ◌+◌, ◌<◌, ◌≤◌, Bool, nat_eq, List, [], ◌∷◌, ◌++◌}
use Rattle.std.proofs.Common.{slice_index, ◌⊎◌, inl, inr, refl, sym, ap, ◌∙◌, subst, arith}
use Rattle.ol_law_edges.specs.Edges.{IsIn, EdgeOf, Joined, here, on, back, ends, bit, Contracted}
use Rattle.ol_law_edges.proofs.Joining.{joined_trans, joined_sym}
use Rattle.ol_net.specs.Nets.{NamedPort, NamedNet, Linked}
use Rattle.ol_rules.specs.declared.journal.NodeName.{NodeName}
use Rattle.ol_wire.specs.declared.layout.Parts.{Parts}
use Rattle.ol_wire.specs.References.{wire_ref, slot_ref, IsNodeRef}
use Rattle.ol_wire.specs.Layout.{left, part_of_word, table_size}
use Rattle.ol_wire.specs.Edges.{edges_in}
use Rattle.ol_wire.specs.Stands.{IsEnd, IsWireEnd}
use Rattle.ol_wire.specs.Closed.{ClosedTable}
use Rattle.ol_wire.specs.Standing.{WordsStandFor}
use Rattle.ol_reduce.specs.Following.{OwnsWord, LeadsTo, last, more}
use Rattle.ol_wire.proofs.InWords.EdgeList.{word_edge, edge_there, edge_found}
use Rattle.ol_wire.proofs.InWords.Claimed.{EdgeAt, at_wire, at_field, at_cell, edge_at, same_bit}

-- how often an end stands first in an edge, and how often second
abbrev pub firsts : ℕ → List (ℕ × ℕ) → ℕ
firsts e [] = 0
firsts e (d ∷ es) = bit (nat_eq e d.0) + firsts e es

abbrev pub seconds : ℕ → List (ℕ × ℕ) → ℕ
seconds e [] = 0
seconds e (d ∷ es) = bit (nat_eq e d.1) + seconds e es

pub ends_split : (e : ℕ) (es : List (ℕ × ℕ)) → ends nat_eq e es ≡ firsts e es + seconds e es
ends_split e [] = refl
ends_split e (d ∷ es) = omega (arith, ends_split e es)

pub first_counts : (e b : ℕ) (es : List (ℕ × ℕ)) → IsIn (e, b) es → 1 ≤ firsts e es
first_counts e b [] h = elim h [ ]
first_counts e b (d ∷ es) (inl q) = omega (arith, same_bit e d.0 (ap (λ (x : ℕ × ℕ). x.0) q))
first_counts e b (d ∷ es) (inr h) = omega (arith, first_counts e b es h)

pub second_counts : (e a : ℕ) (es : List (ℕ × ℕ)) → IsIn (a, e) es → 1 ≤ seconds e es
second_counts e a [] h = elim h [ ]
second_counts e a (d ∷ es) (inl q) = omega (arith, same_bit e d.1 (ap (λ (x : ℕ × ℕ). x.1) q))
second_counts e a (d ∷ es) (inr h) = omega (arith, second_counts e a es h)

pub seconds_append : (e : ℕ) (es fs : List (ℕ × ℕ)) → seconds e (es ++ fs) ≡ seconds e es + seconds e fs
seconds_append e [] fs = omega arith
seconds_append e (d ∷ es) fs = omega (arith, seconds_append e es fs)

module _ (w : ClosedTable) (N : NamedNet NodeName) (reached : ℕ → Bool) (s : WordsStandFor w N reached) where
  abbrev pub z : Parts
  z = w.plan.parts

  abbrev pub word : ℕ → ℕ
  word n = slice_index w.words n

  abbrev pub row : ℕ → List (ℕ × ℕ)
  row n = word_edge z N reached w.words n

  abbrev pub es : List (ℕ × ℕ)
  es = edges_in z N reached w.words (table_size z)

  abbrev pub Owns : ℕ → ℕ → Type 0
  Owns n e = OwnsWord w N reached n e

  abbrev pub Goes : ℕ → ℕ → Type 0
  Goes e t = LeadsTo w N reached e t

  pub own_edge : (n e : ℕ) → Owns n e → IsIn {X = ℕ × ℕ} (e, word n) es
  own_edge n e o = edge_there z N reached w.words (table_size z) n (e, word n) o.within o.edge

  pub one_owned : (n m e : ℕ) → Owns n e → Owns m e → n ≡ m
  one_owned n m e o p = go o.end p.end
    where
      go : (e ≡ wire_ref n) ⊎ (e ≡ slot_ref n) → (e ≡ wire_ref m) ⊎ (e ≡ slot_ref m) → n ≡ m
      go (inl a) (inl b) = omega (arith, a, b)
      go (inl a) (inr b) = absurd (omega (arith, a, b))
      go (inr a) (inl b) = absurd (omega (arith, a, b))
      go (inr a) (inr b) = omega (arith, a, b)

  pub owner_no_node : (n e : ℕ) → Owns n e → IsNodeRef e → ⊥
  owner_no_node n e o sort = go o.end
    where
      go : (e ≡ wire_ref n) ⊎ (e ≡ slot_ref n) → ⊥
      go (inl a) = omega (arith, a, sort)
      go (inr a) = omega (arith, a, sort)

  -- an edge is that of an owner, or that of a cell
  pub data EdgeIs (a b : ℕ) : Type 0 where
    owned : (n : ℕ) → Owns n a → b ≡ word n → EdgeIs a b
    celled : (n : ℕ) → part_of_word z n ≡ left → word n ≢ 0 → a ≡ word n → b ≡ word (suc n) → EdgeIs a b

  pub edge_is : (a b : ℕ) → IsIn {X = ℕ × ℕ} (a, b) es → EdgeIs a b
  edge_is a b h =
      let t = edge_found z N reached w.words (table_size z) (a, b) h in
      go t.0 t.1 t.2 (edge_at N (reached t.0) (part_of_word z t.0) t.0 (word t.0) (word (suc t.0)) a b t.2)
    where
      go : (n : ℕ) → n < table_size z → IsIn {X = ℕ × ℕ} (a, b) (row n) →
          EdgeAt (part_of_word z n) n (word n) (word (suc n)) a b → EdgeIs a b
      go n lt i (at_wire p l e q f) = owned n
          (record { within = lt; filled = f; end = inl e; edge = subst (λ y. IsIn {X = ℕ × ℕ} (a, y) (row n)) q i }) q
      go n lt i (at_field x c p e q f) = owned n
          (record { within = lt; filled = f; end = inr e; edge = subst (λ y. IsIn {X = ℕ × ℕ} (a, y) (row n)) q i }) q
      go n lt i (at_cell p e q f) = celled n p f e q

  pub goes_on : (e u t : ℕ) → Goes e u → (n : ℕ) → Owns n u → word n ≡ t → Goes e t
  goes_on e u t (last m o q) n p r = more m o (last n (subst (λ u. Owns n u) (sym q) p) r)
  goes_on e u t (more m o g) n p r = more m o (goes_on (word m) u t g n p r)

  pub goes_joined : (e t : ℕ) → Goes e t → Joined (EdgeOf es) e t
  goes_joined e t (last n o q) = subst (λ t. Joined (EdgeOf es) e t) q (on here (own_edge n e o))
  goes_joined e t (more n o g) = joined_trans (on here (own_edge n e o)) (goes_joined (word n) t g)

  -- where chains end: t owns no word and stands in no cell
  pub record IsSink (t : ℕ) : Type 0 where
    pub owns_none : (n : ℕ) → Owns n t → ⊥
    pub no_cell : (n : ℕ) → part_of_word z n ≡ left → word n ≢ 0 → (word n ≢ t) × (word (suc n) ≢ t)

  -- what is joined to such an end goes there
  pub basin : (t v : ℕ) → IsSink t → Joined (EdgeOf es) t v → (v ≡ t) ⊎ Goes v t
  basin t v k here = inl refl
  basin t v k (on {v = u} j h) = go (basin t u k j) (edge_is u v h)
    where
      along : Goes u t → (n : ℕ) → Owns n u → v ≡ word n → (v ≡ t) ⊎ Goes v t
      along (last m p q) n o e = inl (e ∙ ap word (one_owned n m u o p) ∙ q)
      along (more m p g) n o e = inr (subst (λ v. Goes v t) (sym (e ∙ ap word (one_owned n m u o p))) g)

      no_node : Goes u t → IsNodeRef u → ⊥
      no_node (last m p q) sort = owner_no_node m u p sort
      no_node (more m p g) sort = owner_no_node m u p sort

      go : (u ≡ t) ⊎ Goes u t → EdgeIs u v → (v ≡ t) ⊎ Goes v t
      go (inl e) (owned n o q) = absurd (k.owns_none n (subst (λ u. Owns n u) e o))
      go (inl e) (celled n p f a b) = absurd ((k.no_cell n p f).0 (sym a ∙ e))
      go (inr g) (owned n o q) = along g n o q
      go (inr g) (celled n p f a b) = absurd (no_node g (subst IsNodeRef (sym a) (s.cells n p f).0))
  basin t v k (back {v = u} j h) = go (basin t u k j) (edge_is v u h)
    where
      no_node : Goes u t → IsNodeRef u → ⊥
      no_node (last m p q) sort = owner_no_node m u p sort
      no_node (more m p g) sort = owner_no_node m u p sort

      go : (u ≡ t) ⊎ Goes u t → EdgeIs v u → (v ≡ t) ⊎ Goes v t
      go (inl e) (owned n o q) = inr (last n o (sym q ∙ e))
      go (inl e) (celled n p f a b) = absurd ((k.no_cell n p f).1 (sym b ∙ e))
      go (inr g) (owned n o q) = inr (more n o (subst (λ u. Goes u t) q g))
      go (inr g) (celled n p f a b) = absurd (no_node g (subst IsNodeRef (sym b) (s.cells n p f).1))

  -- a chain has one end
  pub one_sink : (e t u : ℕ) → IsSink t → IsSink u → Goes e t → Goes e u → t ≡ u
  one_sink e t u k l (last n o q) (last m p r) = sym q ∙ ap word (one_owned n m e o p) ∙ r
  one_sink e t u k l (last n o q) (more m p g) = absurd
      (starts (subst (λ v. Goes v u) (sym (ap word (one_owned n m e o p)) ∙ q) g))
    where
      starts : Goes t u → ⊥
      starts (last i a b) = k.owns_none i a
      starts (more i a b) = k.owns_none i a
  one_sink e t u k l (more n o g) (last m p r) = absurd
      (starts (subst (λ v. Goes v t) (ap word (one_owned n m e o p) ∙ r) g))
    where
      starts : Goes u t → ⊥
      starts (last i a b) = l.owns_none i a
      starts (more i a b) = l.owns_none i a
  one_sink e t u k l (more n o g) (more m p h) = one_sink (word n) t u k l g
      (subst (λ v. Goes v u) (sym (ap word (one_owned n m e o p))) h)

  -- ---- ends of ports

  pub port_no_wire : (p : NamedPort NodeName) (e : ℕ) → IsEnd z N p e → IsWireEnd reached e → ⊥
  port_no_wire p e h t = omega (arith, s.stands.ports p e h, s.stands.wires e t)

  -- a port's own edge is its only one
  pub nothing_leads : (p : NamedPort NodeName) (e n a : ℕ) → IsEnd z N p e → Owns n e → IsIn {X = ℕ × ℕ} (a, e) es → ⊥
  nothing_leads p e n a h o i = omega (
    arith,
    s.stands.ports p e h,
    ends_split e es,
    first_counts e (word n) es (own_edge n e o),
    second_counts e a es i,
  )

  last_edge : (e t : ℕ) → Goes e t → (a : ℕ) × IsIn {X = ℕ × ℕ} (a, t) es
  last_edge e t (last n o q) = (e, subst (λ t. IsIn {X = ℕ × ℕ} (e, t) es) q (own_edge n e o))
  last_edge e t (more n o g) = last_edge (word n) t g

  pub owner_of : (e t : ℕ) → Goes e t → (n : ℕ) × Owns n e
  owner_of e t (last n o q) = (n, o)
  owner_of e t (more n o g) = (n, o)

  -- where a chain leads to a port, the net links the two
  pub goes_linked : (p q : NamedPort NodeName) (d e : ℕ) → IsEnd z N p d → IsEnd z N q e → Goes d e → Linked N p q
  goes_linked p q d e hp hq g = (s.stands.links p q d e hp hq).1 (record {
    first = port_no_wire p d hp;
    second = port_no_wire q e hq;
    apart = λ same.
        let o = owner_of d e g in
        let l = last_edge d e g in
        nothing_leads q e o.0 l.0 hq (subst (λ v. Owns o.0 v) same o.1) l.1;
    joined = goes_joined d e g;
  })

  -- where two chains meet, the net links the two
  pub meet_linked : (p q : NamedPort NodeName) (d e u : ℕ) → IsEnd z N p d → IsEnd z N q e → d ≢ e →
      Goes d u → Goes e u → Linked N p q
  meet_linked p q d e u hp hq ne g f = (s.stands.links p q d e hp hq).1 (record {
    first = port_no_wire p d hp;
    second = port_no_wire q e hq;
    apart = ne;
    joined = joined_trans (goes_joined d u g) (joined_sym (goes_joined e u f));
  })

  -- the port that is linked to one without a word leads to it
  pub linked_goes : (p q : NamedPort NodeName) (d e : ℕ) → IsEnd z N p d → IsEnd z N q e →
      Linked N p q → IsSink d → Goes e d
  linked_goes p q d e hp hq l k = go (basin d e k t.joined)
    where
      t : Contracted (EdgeOf es) (IsWireEnd reached) d e
      t = (s.stands.links p q d e hp hq).0 l

      go : (e ≡ d) ⊎ Goes e d → Goes e d
      go (inl same) = absurd (t.apart (sym same))
      go (inr g) = g

  -- the port that is linked to one whose chain leads to an empty wire leads there too
  pub linked_meets : (p q : NamedPort NodeName) (d e u : ℕ) → IsEnd z N p d → IsEnd z N q e →
      Linked N p q → IsSink u → IsWireEnd reached u → Goes d u → Goes e u
  linked_meets p q d e u hp hq l k is_wire g = go (basin u e k (joined_trans (joined_sym (goes_joined d u g)) t.joined))
    where
      t : Contracted (EdgeOf es) (IsWireEnd reached) d e
      t = (s.stands.links p q d e hp hq).0 l

      go : (e ≡ u) ⊎ Goes e u → Goes e u
      go (inl same) = absurd (port_no_wire q e hq (subst (IsWireEnd reached) (sym same) is_wire))
      go (inr f) = f
