-- A table in which each port has a partner makes links that fit a net.
use Rattle.std.proofs.Common.{◌≡◌, ◌≢◌, ℕ, zero, suc, ◌+◌, ◌<◌, ◌≤◌, ◌==◌, Bool, true, false, not}
use Rattle.std.proofs.Common.{nat_lt, eq-eqb, lt-ltb, if◌then◌else◌, List, [], ◌∷◌, ◌++◌, length}
use Rattle.std.proofs.Common.{get_or, Option, ◌⊎◌, inl, inr, refl, sym, ap, ◌∙◌, subst, arith}
use Rattle.std.proofs.lemmas.Bool.{cases_eq, cases_lt, false≢true}
use Rattle.std.proofs.lemmas.Bool.Decides.{nat_tests}
use Rattle.std.proofs.lemmas.List.{length-append, get_or_default}
use Rattle.ol_law_edges.specs.Edges.{IsIn}
use Rattle.ol_net.specs.declared.parts.Kind.{Kind}
use Rattle.ol_net.specs.declared.parts.Port.{Port}
use Rattle.ol_net.specs.declared.parts.BuildFault.{BuildFault}
use Rattle.ol_net.specs.declared.parts.BuildFault.TheVariants.{BadIndex, BadPort, Twice, Loose, NoMemory}
use Rattle.ol_net.specs.Pairing.{other}
use Rattle.ol_net.specs.Graph.{has_port, place, port_at, IsTabled}
use Rattle.ol_net.specs.Build.{BadPortAt, TwiceAt, HasEnd, link_at, IsLoose, FaultIs}
use Rattle.ol_net.specs.Numbered.{all_live}
use Rattle.ol_net.proofs.Places.{place-port_at, port_at-place, place-within}
use Rattle.ol_rules.specs.Listed.{each}
use Rattle.ol_reduce.specs.Drafts.{frozen_top, link_row, IsFullDraft}

-- ---- where an element of a list stands

at_left : (xs ys : List (Port × Port)) (j : ℕ) → j < length xs → link_at (xs ++ ys) j ≡ link_at xs j
at_left [] ys j lt = absurd (omega arith)
at_left (x ∷ xs) ys zero lt = refl
at_left (x ∷ xs) ys (suc j) lt = at_left xs ys j (omega arith)

at_right : (xs ys : List (Port × Port)) (j i : ℕ) → j ≡ length xs + i → link_at (xs ++ ys) j ≡ link_at ys i
at_right [] ys j i e = let q : j ≡ i = omega (arith, e) in ap (link_at ys) q
at_right (x ∷ xs) ys zero i e = absurd (omega (arith, e))
at_right (x ∷ xs) ys (suc j) i e = at_right xs ys j i (omega (arith, e))

pub in_at : (xs : List (Port × Port)) (l : Port × Port) → IsIn l xs → (j : ℕ) × (j < length xs) × (link_at xs j ≡ l)
in_at [] l h = elim h [ ]
in_at (x ∷ xs) l (inl e) = (0, omega arith, sym e)
in_at (x ∷ xs) l (inr h) = let t = in_at xs l h in (suc t.0, omega (arith, t.1), t.2)

module _ (free : ℕ) (partners : List ℕ) where
  abbrev pub link_of : ℕ → Port × Port
  link_of k = (port_at free k, port_at free (other partners k))

  abbrev links : ℕ → List (Port × Port)
  links n = each n (link_row free partners)

  row_yes : (k : ℕ) → k < other partners k → link_row free partners k ≡ link_of k ∷ []
  row_yes k lt = ap (λ b. if b then link_of k ∷ [] else []) (lt-ltb k (other partners k) lt)

  row_no : (k : ℕ) → other partners k ≤ k → link_row free partners k ≡ []
  row_no k ge = let e : nat_lt k (other partners k) ≡ false = grind (arith, nat_tests) in
      ap (λ b. if b then link_of k ∷ [] else []) e

  -- the place that link j is of
  pub record LinkAt (n j : ℕ) : Type 0 where
    pub k : ℕ
    pub below : k < n
    pub lower : k < other partners k
    pub is : link_at (links n) j ≡ link_of k

  abbrev later : (n j : ℕ) → j < length (links n) → LinkAt n j → LinkAt (suc n) j
  later n j lt l = record {
    k = l.k;
    below = omega (arith, l.below);
    lower = l.lower;
    is = at_left (links n) (link_row free partners n) j lt ∙ l.is;
  }

  newest : (n j : ℕ) → length (links n) ≤ j → j < length (links (suc n)) →
      (j ≡ length (links n)) × (n < other partners n)
  newest n j ge lt = elim (cases_lt n (other partners n)) [
    | inl a ↦ (
      let e = ap length (row_yes n a) in
          omega (arith, ge, lt, length-append (links n) (link_row free partners n), e),
      a,
    )
    | inr a ↦ let e = ap length (row_no n a) in
        absurd (omega (arith, ge, lt, length-append (links n) (link_row free partners n), e))
  ]

  abbrev at_new : (n j : ℕ) → j ≡ length (links n) → n < other partners n → LinkAt (suc n) j
  at_new n j e a = record {
    k = n;
    below = omega arith;
    lower = a;
    is = at_right (links n) (link_row free partners n) j 0 (omega (arith, e)) ∙ ap (λ ys. link_at ys 0) (row_yes n a);
  }

  pub located : (n j : ℕ) → j < length (links n) → LinkAt n j
  located zero j lt = absurd (omega arith)
  located (suc n) j lt = elim (cases_lt j (length (links n))) [
    | inl a ↦ later n j a (located n j a)
    | inr a ↦ let t = newest n j a lt in at_new n j t.0 t.1
  ]

  pub two_located : (n i j : ℕ) → i < j → j < length (links n) → (a : LinkAt n i) × (b : LinkAt n j) × (a.k < b.k)
  two_located zero i j lt ltj = absurd (omega arith)
  two_located (suc n) i j lt ltj = elim (cases_lt j (length (links n))) [
    | inl a ↦ let t = two_located n i j lt a in (later n i (omega (arith, lt, a)) t.0, later n j a t.1, t.2)
    | inr a ↦
        let t = newest n j a ltj in
        let low : i < length (links n) = omega (arith, lt, t.0) in
        let l = located n i low in
        (later n i low l, at_new n j t.0 t.1, l.below)
  ]

  pub count_links : (n : ℕ) → length (links n) ≤ n
  count_links zero = omega arith
  count_links (suc n) = elim (cases_lt n (other partners n)) [
    | inl a ↦ let e = ap length (row_yes n a) in
        omega (arith, count_links n, length-append (links n) (link_row free partners n), e)
    | inr a ↦ let e = ap length (row_no n a) in
        omega (arith, count_links n, length-append (links n) (link_row free partners n), e)
  ]

  pub link_in : (n k : ℕ) → k < n → k < other partners k → IsIn (link_of k) (links n)
  link_in zero k lt low = absurd (omega arith)
  link_in (suc n) k lt low = elim (cases_eq k n) [
    | inl e ↦ right (links n) (link_row free partners n)
        (subst (λ m. IsIn (link_of k) (link_row free partners m)) e
        (subst (λ ys. IsIn (link_of k) ys) (sym (row_yes k low)) (inl refl)))
    | inr d ↦ left (links n) (link_row free partners n) (link_in n k (omega (arith, lt, d)) low)
  ]
    where
      left : (xs ys : List (Port × Port)) → IsIn (link_of k) xs → IsIn (link_of k) (xs ++ ys)
      left [] ys h = elim h [ ]
      left (x ∷ xs) ys (inl e) = inl e
      left (x ∷ xs) ys (inr h) = inr (left xs ys h)

      right : (xs ys : List (Port × Port)) → IsIn (link_of k) ys → IsIn (link_of k) (xs ++ ys)
      right [] ys h = h
      right (x ∷ xs) ys h = inr (right xs ys h)

  same_place : (a b : ℕ) → port_at free a ≡ port_at free b → a ≡ b
  same_place a b e = sym (place-port_at free a) ∙ ap (place free) e ∙ place-port_at free b

  module _ (kinds : List (Kind × ℕ)) (whole : IsFullDraft free kinds partners) where
    abbrev size : ℕ
    size = length partners

    abbrev live : List (Option (Kind × ℕ))
    live = all_live kinds

    t : IsTabled free live partners
    t = whole.tabled

    back : (k : ℕ) → other partners (other partners k) ≡ k
    back k = t.paired k

    pub there : (k : ℕ) → k ≢ other partners k → has_port free live (port_at free k) ≡ true
    there k d = let e = t.ports k in let f : (other partners k == k) ≡ false = grind
        (arith, nat_tests) in go (has_port free live (port_at free k)) (sym f ∙ e)
      where
        go : (b : Bool) → false ≡ not b → b ≡ true
        go true h = refl
        go false h = absurd (false≢true h)

    no_bad_port : (j : ℕ) → BadPortAt free live (links size) j → ⊥
    no_bad_port j h = go (located size j h.0) h.1
      where
        go : (l : LinkAt size j) → (has_port free live (link_at (links size) j).0 ≡ false)
            ⊎ (has_port free live (link_at (links size) j).1 ≡ false) → ⊥
        go l (inl f) =
            let q = ap (λ (p : Port × Port). has_port free live p.0) l.is in
            let y = there l.k (omega (arith, l.lower)) in
            false≢true (sym f ∙ q ∙ y)
        go l (inr f) =
            let q = ap (λ (p : Port × Port). has_port free live p.1) l.is in
            let y = there (other partners l.k) (λ e. omega (arith, e, back l.k, l.lower)) in
            false≢true (sym f ∙ q ∙ y)

    end_of : (n j : ℕ) (l : LinkAt n j) (p : Port) → HasEnd (link_at (links n) j) p →
        (p ≡ port_at free l.k) ⊎ (p ≡ port_at free (other partners l.k))
    end_of n j l p (inl e) = inl (sym e ∙ ap (λ (p : Port × Port). p.0) l.is)
    end_of n j l p (inr e) = inr (sym e ∙ ap (λ (p : Port × Port). p.1) l.is)

    no_twice : (j : ℕ) → TwiceAt (links size) j → ⊥
    no_twice j h = go h.1
      where
        two : (i : ℕ) (p : Port) (a : LinkAt size i) (b : LinkAt size j) → a.k < b.k →
            (p ≡ port_at free a.k) ⊎ (p ≡ port_at free (other partners a.k)) →
            (p ≡ port_at free b.k) ⊎ (p ≡ port_at free (other partners b.k)) → ⊥
        two i p a b lt (inl x) (inl y) = omega (arith, lt, same_place a.k b.k (sym x ∙ y))
        two i p a b lt (inl x) (inr y) = omega (arith, lt, b.lower, same_place a.k (other partners b.k) (sym x ∙ y))
        two i p a b lt (inr x) (inl y) = omega
            (arith, lt, b.lower, back a.k, ap (other partners) (same_place (other partners a.k) b.k (sym x ∙ y)))
        two i p a b lt (inr x) (inr y) = omega (
          arith,
          lt,
          back a.k,
          back b.k,
          ap (other partners)
              (same_place (other partners a.k) (other partners b.k) (sym x ∙ y)),
        )

        go : ((link_at (links size) j).0 ≡ (link_at (links size) j).1)
            ⊎ ((i : ℕ) × (p : Port) × (i < j) × HasEnd (link_at (links size) i) p
            × HasEnd (link_at (links size) j) p) → ⊥
        go (inl e) =
            let l = located size j h.0 in
            omega (
              arith,
              l.lower,
              same_place l.k (other partners l.k)
                  (ap (λ (p : Port × Port). p.0) (sym l.is) ∙ e ∙ ap (λ (p : Port × Port). p.1) l.is),
            )
        go (inr u) =
            let l = two_located size u.0 j u.2 h.0 in
            two u.0 u.1 l.0 l.1 l.2 (end_of size u.0 l.0 u.1 u.3) (end_of size j l.1 u.1 u.4)

    no_loose : (p : Port) → IsLoose free live (links size) p → ⊥
    no_loose p h = elim (cases_lt k (other partners k)) [
      | inl a ↦ let i = in_at (links size) (link_of k) (link_in size k within a) in
          h.1 i.0 i.1 (inl (ap (λ (p : Port × Port). p.0) i.2 ∙ at_k))
      | inr a ↦
          let below : other partners k < k = omega (arith, a, moved) in
          let up : other partners k < other partners (other partners k) = omega (arith, back k, below) in
          let i = in_at (links size) (link_of (other partners k))
          (link_in size (other partners k) (omega (arith, below, within)) up) in
          h.1 i.0 i.1 (inr (ap (λ (p : Port × Port). p.1) i.2 ∙ ap (port_at free) (back k) ∙ at_k))
    ]
      where
        k : ℕ
        k = place free p

        at_k : port_at free (place free p) ≡ p
        at_k = port_at-place free live p h.0

        moved : other partners (place free p) ≢ place free p
        moved e = go (has_port free live (port_at free (place free p)))
            (ap (has_port free live) at_k ∙ h.0)
            (let f : (other partners (place free p) == place free p) ≡ true = eq-eqb
            (other partners (place free p)) (place free p) e in sym f ∙ t.ports (place free p))
          where
            go : (b : Bool) → b ≡ true → true ≡ not b → ⊥
            go true a b = false≢true (sym b)
            go false a b = false≢true a

        within : place free p < length partners
        within = let q = place-within free live p h.0 in omega (arith, q, t.size)

    -- so only want of memory refuses it
    pub no_fault : (f : BuildFault) → FaultIs frozen_top free kinds (links size) f → f ≡ NoMemory
    no_fault (BadIndex n) h = absurd (whole.indexes n h.0)
    no_fault (BadPort j) h = absurd (no_bad_port j h.1.0)
    no_fault (Twice j) h = absurd (no_twice j h.2.0)
    no_fault (Loose p) h = absurd (no_loose p h.3.0)
    no_fault NoMemory h = refl

-- what was read at a place is its partner
pub read_other : (xs : List ℕ) (n v : ℕ) → n < length xs → v ≡ get_or xs n v → v ≡ other xs n
read_other xs n v lt e = e ∙ get_or_default xs n v n lt
