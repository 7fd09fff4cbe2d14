-- The wires and the cells of the start by their numbers.
-- Used in Refs, Sites and Stands.
use Rattle.std.proofs.Common.{◌≡◌, ◌≢◌, ℕ, zero, suc, ◌+◌, ◌*◌, ◌<◌, nat_eq, nat_lt, if◌then◌else◌}
use Rattle.std.proofs.Common.{true, false, List, [], ◌∷◌, ◌++◌, length, slice_get, Option, Some}
use Rattle.std.proofs.Common.{None, refl, sym, ap, ◌∙◌, arith, inl, inr, lt-ltb, ltb-true, ne_eqb}
use Rattle.std.proofs.lemmas.Bool.{cases_lt, cases_Bool}
use Rattle.std.proofs.lemmas.Bool.Decides.{nat_tests}
use Rattle.ol_net.specs.declared.parts.NodeId.{NodeId}
use Rattle.ol_net.specs.declared.parts.Port.{Port}
use Rattle.ol_net.specs.declared.parts.Port.TheVariants.{Free, Of}
use Rattle.ol_net.specs.Graph.{Graph, partner_of}
use Rattle.ol_rules.specs.Listed.{each}
use Rattle.ol_wire.specs.Starts.{wire_with, pair_with, facing_pairs, aux_links, wire_at, pair_at}
use Rattle.ol_wire.specs.Laid.{wires_before}
use Rattle.std.proofs.lemmas.Option.{none-some, same_Some}
use Rattle.ol_law_edges.proofs.Lists.{got_append, got_left, get_there}

get_right : {X : Type 0} (xs ys : List X) (i : ℕ) (x : X) → slice_get ys i ≡ Some x →
    slice_get (xs ++ ys) (length xs + i) ≡ Some x
get_right [] ys i x e = let q : 0 + i ≡ i = omega arith in ap (slice_get ys) q ∙ e
get_right (y ∷ xs) ys i x e = let q : length (y ∷ xs) + i ≡ suc (length xs + i) = omega arith in
    ap (slice_get (y ∷ (xs ++ ys))) q ∙ get_right xs ys i x e

each_at : {X : Type 0} (rows : ℕ → List X) (n m i : ℕ) (x : X) → m < n →
    slice_get (rows m) i ≡ Some x → slice_get (each n rows) (length (each m rows) + i) ≡ Some x
each_at rows zero m i x lt e = absurd (omega (arith, lt))
each_at rows (suc n) m i x lt e = elim (cases_lt m n) [
  | inl less ↦ got_left (each n rows) (rows n) (length (each m rows) + i) x (each_at rows n m i x less e)
  | inr le ↦
      let q : m ≡ n = omega (arith, le, lt) in
      ap (λ k. slice_get (each n rows ++ rows n) (length (each k rows) + i)) q
      ∙ get_right (each n rows) (rows n) i x (ap (λ k. slice_get (rows k) i) (sym q) ∙ e)
]

pub record EachFrom {X : Type 0} (rows : ℕ → List X) (n j : ℕ) (x : X) : Type 0 where
  pub row : ℕ
  pub at : ℕ
  pub inside : row < n
  pub holds : slice_get (rows row) at ≡ Some x
  pub place : j ≡ length (each row rows) + at

each_from : {X : Type 0} (rows : ℕ → List X) (n j : ℕ) (x : X) →
    slice_get (each n rows) j ≡ Some x → EachFrom rows n j x
each_from rows zero j x e = absurd (none-some x e)
each_from rows (suc n) j x e = elim (got_append (each n rows) (rows n) j x e) [
  | inl h ↦ let r = each_from rows n j x h in
      record { row = r.row; at = r.at; inside = omega (arith, r.inside); holds = r.holds; place = r.place }
  | inr h ↦ record { row = n; at = h.0; inside = omega arith; holds = h.2; place = h.1 }
]

-- What a wire that comes first is: `s` is the slot - 1.
pub record IsFirst (net : Graph) (n s : ℕ) (m : NodeId) (u : ℕ) : Type 0 where
  pub linked : partner_of net (Of (record { 0 = n }) (suc s)) ≡ Some (Of m u)
  pub auxiliary : u ≢ 0
  pub sooner : 3 * n + suc s < 3 * m.0 + u

pub record FirstWith (n s : ℕ) (o : Option Port) (i : ℕ) (x : ℕ × ℕ) : Type 0 where
  pub m : NodeId
  pub u : ℕ
  pub is : o ≡ Some (Of m u)
  pub auxiliary : u ≢ 0
  pub sooner : 3 * n + s < 3 * m.0 + u
  pub only : i ≡ 0

only_one : {X : Type 0} (x y : X) (i : ℕ) → slice_get (x ∷ []) i ≡ Some y → (i ≡ 0) × (x ≡ y)
only_one x y zero e = (refl, same_Some x y e)
only_one x y (suc i) e = absurd (none-some y e)

first_with : (n s : ℕ) (o : Option Port) (i : ℕ) (x : ℕ × ℕ) →
    slice_get (wire_with n s o) i ≡ Some x → FirstWith n s o i x
first_with n s None i x e = absurd (none-some x e)
first_with n s (Some (Free m)) i x e = absurd (none-some x e)
first_with n s (Some (Of m u)) i x e = elim (cases_Bool (nat_eq u 0)) [
  | inl a ↦ absurd (none-some x (ap (λ b.
      slice_get (if b then [] else (if nat_lt (3 * n + s) (3 * m.0 + u) then (n, s) ∷ [] else [])) i) (sym a) ∙ e))
  | inr a ↦
      let f : slice_get (if nat_lt (3 * n + s) (3 * m.0 + u) then
      (n, s) ∷ [] else []) i ≡ Some x = ap
      (λ b. slice_get (if b then [] else (if nat_lt (3 * n + s) (3 * m.0 + u) then
      (n, s) ∷ [] else [])) i) (sym a) ∙ e in
      elim (cases_Bool (nat_lt (3 * n + s) (3 * m.0 + u))) [
        | inl b ↦
            let g : slice_get ((n, s) ∷ []) i ≡ Some x = ap
            (λ b. slice_get (if b then (n, s) ∷ [] else []) i) (sym b) ∙ f in
            record {
              m = m;
              u = u;
              is = refl;
              auxiliary = λ z.
                  (let t : nat_eq u 0 ≡ true = grind (arith, nat_tests) in
                  let bad : true ≡ false = sym t ∙ a in absurd (cc));
              sooner = ltb-true (3 * n + s) (3 * m.0 + u) b;
              only = (only_one {X = ℕ × ℕ} (n, s) x i g).0;
            }
        | inr b ↦ absurd (none-some x (ap (λ b. slice_get (if b then (n, s) ∷ [] else []) i) (sym b) ∙ f))
      ]
]

-- the wire's pair stands in the list under the number of the wire
pub wire_get : (net : Graph) (n s : ℕ) (m : NodeId) (u : ℕ) → IsFirst net n s m u →
    n < length net.nodes → s < 2 → slice_get (aux_links net) (wires_before net n s) ≡ Some (n, suc s)
wire_get net n s m u f lt small =
    let own : wire_at net n s ≡ (n, suc s) ∷ [] = ap (wire_with n (suc s)) f.linked
    ∙ ap (λ b. if b then [] else (if nat_lt (3 * n + suc s) (3 * m.0 + u) then
    (n, suc s) ∷ [] else [])) (ne_eqb u 0 f.auxiliary)
    ∙ ap (λ b. if b then (n, suc s) ∷ [] else []) (lt-ltb (3 * n + suc s) (3 * m.0 + u) f.sooner) in
    let inner : slice_get (each 2 (wire_at net n)) (length (each s (wire_at net n)) + 0) ≡ Some
    (n, suc s) = each_at (wire_at net n) 2 s 0 (n, suc s) small (ap (λ xs. slice_get xs 0) own) in
    let outer = each_at (λ k. each 2 (wire_at net k)) (length net.nodes) n
    (length (each s (wire_at net n)) + 0) (n, suc s) lt inner in
    let place : wires_before net n s ≡ length (each n (λ k. each 2 (wire_at net k))) +
    (length (each s (wire_at net n)) + 0) = omega arith in
    ap (slice_get (aux_links net)) place ∙ outer

pub record WireOf (net : Graph) (j : ℕ) : Type 0 where
  pub n : ℕ
  pub s : ℕ
  pub m : NodeId
  pub u : ℕ
  pub inside : n < length net.nodes
  pub small : s < 2
  pub first : IsFirst net n s m u
  pub number : j ≡ wires_before net n s

pub wire_of : (net : Graph) (j : ℕ) → j < length (aux_links net) → WireOf net j
wire_of net j lt =
    let x = get_there (aux_links net) j lt in
    let outer = each_from (λ k. each 2 (wire_at net k)) (length net.nodes) j x.0 x.1 in
    let inner = each_from (wire_at net outer.row) 2 outer.at x.0 outer.holds in
    let f = first_with outer.row (suc inner.row)
    (partner_of net (Of (record { 0 = outer.row }) (suc inner.row))) inner.at x.0 inner.holds in
    record {
      n = outer.row;
      s = inner.row;
      m = f.m;
      u = f.u;
      inside = outer.inside;
      small = inner.inside;
      first = record {
        linked = f.is;
        auxiliary = f.auxiliary;
        sooner = f.sooner;
      };
      number = omega (arith, outer.place, inner.place, f.only);
    }

pub wire_one : (net : Graph) (n s : ℕ) (m : NodeId) (u : ℕ) (n' s' : ℕ) (m' : NodeId) (u' : ℕ) →
    IsFirst net n s m u → n < length net.nodes → s < 2 → IsFirst net n' s' m' u' → n' < length net.nodes → s' < 2
    → wires_before net n s ≡ wires_before net n' s' → (n ≡ n') × (s ≡ s')
wire_one net n s m u n' s' m' u' f lt small f' lt' small' e =
    let both : ◌≡◌ {A = Option (ℕ × ℕ)} (Some (n, suc s)) (Some (n', suc s')) = sym
    (wire_get net n s m u f lt small) ∙ ap (slice_get (aux_links net)) e ∙ wire_get net n' s' m' u' f' lt' small' in
    let pair : ◌≡◌ {A = ℕ × ℕ} (n, suc s) (n', suc s') = same_Some {A = ℕ × ℕ} (n, suc s) (n', suc s') both in
    let slots : suc s ≡ suc s' = ap (λ (w : ℕ × ℕ). w.1) pair in
    (ap (λ (w : ℕ × ℕ). w.0) pair, omega (arith, slots))

-- the number of the cell of node n, where it faces a node of a greater number
abbrev pub cell_number : Graph → ℕ → ℕ
cell_number net n = length (each n (pair_at net))

pub pair_get : (net : Graph) (n : ℕ) (m : NodeId) →
    partner_of net (Of (record { 0 = n }) 0) ≡ Some (Of m 0) → n < m.0 → n < length net.nodes →
    slice_get (facing_pairs net) (cell_number net n) ≡ Some (n, m.0)
pair_get net n m e less lt =
    let own : pair_at net n ≡ (n, m.0) ∷ [] = ap (pair_with n) e
    ∙ ap (λ b. if b then (n, m.0) ∷ [] else []) (lt-ltb n m.0 less) in
    let h = each_at (pair_at net) (length net.nodes) n 0 (n, m.0) lt (ap (λ xs. slice_get xs 0) own) in
    let place : cell_number net n ≡ length (each n (pair_at net)) + 0 = omega arith in
    ap (slice_get (facing_pairs net)) place ∙ h

pub record PairOf (net : Graph) (c : ℕ) (p : ℕ × ℕ) : Type 0 where
  pub n : ℕ
  pub m : NodeId
  pub inside : n < length net.nodes
  pub linked : partner_of net (Of (record { 0 = n }) 0) ≡ Some (Of m 0)
  pub less : n < m.0
  pub is : ◌≡◌ {A = ℕ × ℕ} (n, m.0) p
  pub number : c ≡ cell_number net n

record PairWith (n : ℕ) (o : Option Port) (i : ℕ) (p : ℕ × ℕ) : Type 0 where
  m : NodeId
  linked : o ≡ Some (Of m 0)
  less : n < m.0
  is : ◌≡◌ {A = ℕ × ℕ} (n, m.0) p
  only : i ≡ 0

pair_of_slot : (n : ℕ) (m : NodeId) (s i : ℕ) (p : ℕ × ℕ) →
    slice_get (pair_with n (Some (Of m s))) i ≡ Some p → PairWith n (Some (Of m s)) i p
pair_of_slot n m zero i p e = elim (cases_Bool (nat_lt n m.0)) [
  | inl b ↦
      let g : slice_get ((n, m.0) ∷ []) i ≡ Some p = ap
      (λ b. slice_get (if b then (n, m.0) ∷ [] else []) i) (sym b) ∙ e in
      let o = only_one {X = ℕ × ℕ} (n, m.0) p i g in
      record { m = m; linked = refl; less = ltb-true n m.0 b; is = o.1; only = o.0 }
  | inr b ↦ absurd (none-some p (ap (λ b. slice_get (if b then (n, m.0) ∷ [] else []) i) (sym b) ∙ e))
]
pair_of_slot n m (suc s) i p e =
    absurd (none-some p (ap (λ b. slice_get
    (if b then (if nat_lt n m.0 then (n, m.0) ∷ [] else []) else []) i)
    (sym (ne_eqb (suc s) 0 (λ q. omega (arith, q)))) ∙ e))

pair_found : (n : ℕ) (o : Option Port) (i : ℕ) (p : ℕ × ℕ) → slice_get (pair_with n o) i ≡ Some p → PairWith n o i p
pair_found n None i p e = absurd (none-some p e)
pair_found n (Some (Free m)) i p e = absurd (none-some p e)
pair_found n (Some (Of m s)) i p e = pair_of_slot n m s i p e

pub pair_of : (net : Graph) (c : ℕ) (p : ℕ × ℕ) → slice_get (facing_pairs net) c ≡ Some p → PairOf net c p
pair_of net c p e =
    let r = each_from (pair_at net) (length net.nodes) c p e in
    let f = pair_found r.row (partner_of net (Of (record { 0 = r.row }) 0)) r.at p r.holds in
    record {
      n = r.row;
      m = f.m;
      inside = r.inside;
      linked = f.linked;
      less = f.less;
      is = f.is;
      number = omega (arith, r.place, f.only);
    }
