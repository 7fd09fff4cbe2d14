-- What the code needs while it lays a net out.
-- Used in Lists, Refs, Sites, Stands, `field_of`, `put_cells`, `put_node` and `put_nodes`.
use Rattle.std.proofs.Common.{◌≡◌, ◌≢◌, ℕ, zero, suc, ◌+◌, ◌-◌, ◌*◌, ◌<◌, ◌≤◌, ◌==◌, nat_eq, nat_lt, if◌then◌else◌}
use Rattle.std.proofs.Common.{true, false, Bool, List, [], ◌∷◌, ◌++◌, length, slice_index, Option, Some, None, inl, inr}
use Rattle.std.proofs.Common.{refl, sym, ap, ◌∙◌, subst, arith, lt-ltb, ne_eqb}
use Rattle.std.proofs.lemmas.Bool.{cases_eq, cases_lt}
use Rattle.std.proofs.lemmas.Bool.Decides.{nat_tests}
use Rattle.std.proofs.lemmas.List.{append_assoc, length-append, get_or_append_left, get_or_push, length_push}
use Rattle.ol_net.specs.declared.parts.NodeId.{NodeId}
use Rattle.ol_net.specs.declared.parts.Port.{Port}
use Rattle.ol_net.specs.declared.parts.Port.TheVariants.{Free, Of}
use Rattle.ol_net.specs.Graph.{Graph, partner_of}
use Rattle.ol_rules.specs.Listed.{each}
use Rattle.ol_wire.specs.declared.layout.Parts.{Parts}
use Rattle.ol_wire.specs.References.{wire_ref}
use Rattle.ol_wire.specs.Layout.{start_node, start_wire}
use Rattle.ol_wire.specs.Starts.{wire_with, wire_at}
use Rattle.ol_wire.specs.Laid.{wires_before, field_to, field_of}
use Rattle.ol_wire.specs.LaidWords.{cell_words, HasFields}
use Rattle.ol_wire.proofs.Opening.Ports.{partner_node}

pub each_more : {X : Type 0} (rows : ℕ → List X) (n m : ℕ) → m ≡ suc n → each m rows ≡ each n rows ++ rows n
each_more rows n m e = rw e refl

pub added_more : {X : Type 0} (rows : ℕ → List X) (old words new : List X) (n m : ℕ) → m ≡ suc n →
    words ≡ old ++ each n rows → new ≡ words ++ rows n → new ≡ old ++ each m rows
added_more rows old words new n m e a b = b ∙ ap (λ xs. xs ++ rows n) a
    ∙ append_assoc old (each n rows) (rows n) ∙ ap (λ xs. old ++ xs) (sym (each_more rows n m e))

one_each : {X : Type 0} (rows : ℕ → List X) (n : ℕ) → ((k : ℕ) → length (rows k) ≤ 1) → length (each n rows) ≤ n
one_each rows zero h = omega arith
one_each rows (suc n) h = omega (arith, length-append (each n rows) (rows n), h n, one_each rows n h)

two_each : {X : Type 0} (rows : ℕ → List X) (n : ℕ) → ((k : ℕ) → length (rows k) ≤ 2) → length (each n rows) ≤ 2 * n
two_each rows zero h = omega arith
two_each rows (suc n) h = omega (arith, length-append (each n rows) (rows n), h n, two_each rows n h)

one_or_none : {X : Type 0} (a b : Bool) (x : X) → length (if a then [] else (if b then x ∷ [] else [])) ≤ 1
one_or_none true b x = omega arith
one_or_none false true x = omega arith
one_or_none false false x = omega arith

few_wire : (n s : ℕ) (o : Option Port) → length (wire_with n s o) ≤ 1
few_wire n s None = omega arith
few_wire n s (Some (Free m)) = omega arith
few_wire n s (Some (Of m u)) = one_or_none (nat_eq u 0) (nat_lt (3 * n + s) (3 * m.0 + u)) (n, s)

few_at : (net : Graph) (n s : ℕ) → length (wire_at net n s) ≤ 1
few_at net n s = few_wire n (suc s) (partner_of net (Of (record { 0 = n }) (suc s)))

pub wires_few : (net : Graph) (n s : ℕ) → wires_before net n s ≤ 2 * n + s
wires_few net n s =
    let a = two_each (λ m. each 2 (wire_at net m)) n (λ m. one_each (wire_at net m) 2 (few_at net m)) in
    let b = one_each (wire_at net n) s (few_at net n) in
    omega (arith, a, b)

-- the slot that comes first has a wire of its own
own_wire : (n s m u : ℕ) → u ≢ 0 → 3 * n + s < 3 * m + u → wire_with n s (Some (Of (record { 0 = m }) u)) ≡ (n, s) ∷ []
own_wire n s m u some lt =
    ap (λ b. if b then [] else (if nat_lt (3 * n + s) (3 * m + u) then (n, s) ∷ [] else []))
    (ne_eqb u 0 some) ∙ ap (λ b. if b then (n, s) ∷ [] else []) (lt-ltb (3 * n + s) (3 * m + u) lt)

pub wires_more : (net : Graph) (n s : ℕ) → wires_before net n (suc s) ≡ wires_before net n s + length (wire_at net n s)
wires_more net n s = omega (arith, length-append (each s (wire_at net n)) (wire_at net n s))

pub wire_comes : (net : Graph) (n s : ℕ) (m : NodeId) (u : ℕ) →
    partner_of net (Of (record { 0 = n }) (suc s)) ≡ Some (Of m u) → u ≢ 0 →
    3 * n + suc s < 3 * m.0 + u → wires_before net n s + 1 ≡ wires_before net n (suc s)
wire_comes net n s m u e some lt =
    let a : length (wire_at net n s) ≡ 1 = ap (λ o. length (wire_with n (suc s) o)) e
    ∙ ap length (own_wire n (suc s) m.0 u some lt) in
    omega (arith, a, wires_more net n s)

same_port : (m : NodeId) (n u v : ℕ) → m.0 ≡ n → u ≡ v → Of m u ≡ Of (record { 0 = n }) v
same_port m n u v a b = ap (λ (k : ℕ). Of (record { 0 = k }) u) a ∙ ap (Of (record { 0 = n })) b

pub sooner : {A : Type 0} (a b : ℕ) → a < b → (x y : A) → (if nat_lt a b then x else y) ≡ x
sooner a b lt x y = ap (λ t. if t then x else y) (lt-ltb a b lt)

pub not_sooner : {A : Type 0} (a b : ℕ) → b ≤ a → (x y : A) → (if nat_lt a b then x else y) ≡ y
not_sooner a b le x y = let e : nat_lt a b ≡ false = grind (arith, nat_tests) in ap (λ t. if t then x else y) e

pub not_zero : {A : Type 0} (u : ℕ) → u ≢ 0 → (x y : A) → (if u == 0 then x else y) ≡ y
not_zero u some x y = ap (λ t. if t then x else y) (ne_eqb u 0 some)

-- the field of the slot that comes second has the wire already
pub field_again : (net : Graph) (z : Parts) (words : List ℕ) (n s : ℕ) (m : NodeId) (u place : ℕ) →
    HasFields net z words n s
    → partner_of net (Of (record { 0 = n }) (suc s)) ≡ Some (Of m u) →
    partner_of net (Of m u) ≡ Some (Of (record { 0 = n }) (suc s)) →
    Of m u ≢ Of (record { 0 = n }) (suc s) → u ≢ 0 → 3 * m.0 + u ≤ 3 * n + suc s → s < 2 →
    place ≡ start_node z m.0 + (u - 1)
    → slice_index words place ≡ field_of net z n s
field_again net z words n s m u place h e back other some le small at =
    let below = partner_node net (Of (record { 0 = n }) (suc s)) m u back in
    let lt : 3 * m.0 + u < 3 * n + suc s = elim (cases_eq (3 * m.0 + u) (3 * n + suc s)) [
      | inl q ↦ absurd (other (same_port m n u (suc s) (omega (arith, q, below.1, small))
          (omega (arith, q, below.1, small))))
      | inr d ↦ omega (arith, d, le)
    ] in
    let down : suc (u - 1) ≡ u = omega (arith, some) in
    let there : partner_of net (Of (record { 0 = m.0 }) (suc (u - 1))) ≡ Some
    (Of (record { 0 = n }) (suc s)) = ap (λ k. partner_of net (Of m k)) down ∙ back in
    let first : field_to net z m.0 (u - 1) (Some (Of (record { 0 = n }) (suc s))) ≡ wire_ref
    (start_wire z (wires_before net m.0 (u - 1))) =
    not_zero (suc s) (λ q. omega (arith, q)) _ _
    ∙ ap (λ k. wire_ref (start_wire z k))
    (sooner (3 * m.0 + suc (u - 1)) (3 * n + suc s) (omega (arith, down, lt)) _ _) in
    let second : field_to net z n s (Some (Of m u)) ≡ wire_ref (start_wire z (wires_before net m.0 (u - 1))) =
    not_zero u some _ _ ∙ ap (λ k. wire_ref (start_wire z k)) (not_sooner (3 * n + suc s) (3 * m.0 + u) le _ _) in
    ap (slice_index words) at ∙ h.before m.0 (u - 1) (omega (arith, below.1, some))
    (omega (arith, below.1, some, lt, small)) ∙ ap (field_to net z m.0 (u - 1)) there
    ∙ first ∙ sym (ap (field_to net z n s) e ∙ second)

pub fields_put : (net : Graph) (z : Parts) (words : List ℕ) (n s : ℕ) → s < 2 →
    HasFields net z words n s → HasFields net z (words ++ field_of net z n s ∷ []) n (suc s)
fields_put net z words n s small h = record {
  long = omega (arith, h.long, length_push words (field_of net z n s));
  before = λ m u less lt. elim (cases_lt (2 * m + u) (2 * n + s)) [
    | inl sooner ↦ get_or_append_left words (field_of net z n s ∷ []) 0 (start_node z m + u)
        (omega (arith, h.long, sooner)) ∙ h.before m u less sooner
    | inr le ↦
        let a : m ≡ n = omega (arith, le, lt, less, small) in
        let b : u ≡ s = omega (arith, le, lt, less, small) in
        get_or_push words (field_of net z n s) 0 (start_node z m + u) (omega (arith, h.long, a, b))
        ∙ ap (λ k. field_of net z k s) (sym a) ∙ ap (field_of net z m) (sym b)
  ];
}

pub fields_next : (net : Graph) (z : Parts) (words : List ℕ) (n m : ℕ) → m ≡ suc n →
    HasFields net z words n 2 → HasFields net z words m 0
fields_next net z words n m e h = record {
  long = omega (arith, h.long, e);
  before = λ k u less lt. h.before k u less (omega (arith, lt, e));
}

pub fields_none : (net : Graph) (z : Parts) (words : List ℕ) → length words ≡ start_node z 0 → HasFields net z words 0 0
fields_none net z words e = record { long = omega (arith, e); before = λ m u less lt. absurd (omega (arith, lt)) }

pub cells_append : (net : Graph) (z : Parts) (ps qs : List (ℕ × ℕ)) →
    cell_words net z (ps ++ qs) ≡ cell_words net z ps ++ cell_words net z qs
cells_append net z [] qs = refl
cells_append net z (p ∷ ps) qs = rw (cells_append net z ps qs) refl

pub cells_more : (net : Graph) (z : Parts) (rows : ℕ → List (ℕ × ℕ)) (old words new : List ℕ)
    (n m : ℕ) → m ≡ suc n → words ≡ old ++ cell_words net z (each n rows) → new ≡ words ++ cell_words net z (rows n)
    → new ≡ old ++ cell_words net z (each m rows)
cells_more net z rows old words new n m e a b =
    b ∙ ap (λ xs. xs ++ cell_words net z (rows n)) a
    ∙ append_assoc old (cell_words net z (each n rows)) (cell_words net z (rows n))
    ∙ ap (λ xs. old ++ xs) (sym (ap (cell_words net z) (each_more rows n m e)
    ∙ cells_append net z (each n rows) (rows n)))

pub count_more : (rows : ℕ → List (ℕ × ℕ)) (n m k j : ℕ) → m ≡ suc n → k ≡ length (each n rows) →
    j ≡ length (rows n) → k + j ≡ length (each m rows)
count_more rows n m k j e a b = omega
    (arith, a, b, ap length (each_more rows n m e), length-append (each n rows) (rows n))

module _ (net : Graph) (n s v : ℕ) (m : NodeId) (u : ℕ) (up : v ≡ suc s) (some : u ≢ 0)
    (e : partner_of net (Of (record { 0 = n }) v) ≡ Some (Of m u)) where
  forth : partner_of net (Of (record { 0 = n }) (suc s)) ≡ Some (Of m u)
  forth = ap (λ k. partner_of net (Of (record { 0 = n }) k)) (sym up) ∙ e

  pub wire_comes_up : 3 * n + v < 3 * m.0 + u → wires_before net n s + 1 ≡ wires_before net n (suc s)
  wire_comes_up lt = wire_comes net n s m u forth some (omega (arith, lt, up))

  pub field_again_up : (z : Parts) (words : List ℕ) (place : ℕ) → HasFields net z words n s →
      partner_of net (Of m u) ≡ Some (Of (record { 0 = n }) v) → Of m u ≢ Of (record { 0 = n }) v →
      3 * m.0 + u ≤ 3 * n + v → s < 2 → place ≡ start_node z m.0 + (u - 1)
      → slice_index words place ≡ field_of net z n s
  field_again_up z words place h back other le small at =
      field_again net z words n s m u place h forth
      (back ∙ ap (λ k. Some (Of (record { 0 = n }) k)) up)
      (λ q. other (q ∙ ap (λ k. Of (record { 0 = n }) k) (sym up))) some (omega (arith, le, up)) small at

pub fields_twice : (net : Graph) (z : Parts) (words one two : List ℕ) (n a b : ℕ) →
    HasFields net z words n 0 → one ≡ words ++ a ∷ [] → two ≡ one ++ b ∷ [] →
    a ≡ field_of net z n 0 → b ≡ field_of net z n 1 → HasFields net z two (suc n) 0
fields_twice net z words one two n a b h p q ea eb =
    let f : HasFields net z one n 1 = rw (p, ea) (fields_put net z words n 0 (omega arith) h) in
    let g : HasFields net z two n 2 = rw (q, eb) (fields_put net z one n 1 (omega arith) f) in
    fields_next net z two n (suc n) refl g

pub fields_step : (net : Graph) (z : Parts) (words : List ℕ) (n m : ℕ) → m ≡ suc n →
    HasFields net z words (suc n) 0 → HasFields net z words m 0
fields_step net z words n m e h = subst (λ k. HasFields net z words k 0) (sym e) h

pub wires_step : (net : Graph) (n m w : ℕ) → m ≡ suc n → w ≡ wires_before net (suc n) 0 → w ≡ wires_before net m 0
wires_step net n m w e h = h ∙ ap (λ k. wires_before net k 0) (sym e)
