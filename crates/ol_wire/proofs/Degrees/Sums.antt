-- Sums over the numbers below n, and how often a number stands among those that a function gives.
-- Used in After, Born, Counts and Weights.
use Rattle.std.proofs.Common.{◌≡◌, ◌≢◌, ℕ, zero, suc, ◌+◌, ◌*◌, ◌<◌, nat_eq, eq-eqb, ne_eqb, List}
use Rattle.std.proofs.Common.{inl, inr, refl, sym, ap, ◌∙◌, arith}
use Rattle.std.proofs.lemmas.Bool.{cases_eq}
use Rattle.ol_law_edges.specs.Edges.{bit}
use Rattle.ol_rules.specs.Listed.{each}
use Rattle.ol_wire.specs.Weights.{pairs}
use Rattle.ol_wire.proofs.InWords.Alike.{pairs_append}

-- f 0 + .. + f (n - 1)
abbrev pub sum_to : ℕ → (ℕ → ℕ) → ℕ
sum_to zero f = 0
sum_to (suc n) f = sum_to n f + f n

pub pairs_each : {A B : Type 0} (h : A → B → ℕ) (n : ℕ) (rows : ℕ → List (A × B)) →
    pairs h (each n rows) ≡ sum_to n (λ s. pairs h (rows s))
pairs_each h zero rows = refl
pairs_each h (suc n) rows = pairs_append h (each n rows) (rows n) ∙ ap (λ m. m + pairs h (rows n)) (pairs_each h n rows)

pub sum_same : (n : ℕ) (f g : ℕ → ℕ) → ((s : ℕ) → s < n → f s ≡ g s) → sum_to n f ≡ sum_to n g
sum_same zero f g h = refl
sum_same (suc n) f g h = let a = sum_same n f g (λ s b. h s (omega arith)) in let b = h n (omega arith) in omega arith

pub sum_add : (n : ℕ) (f g : ℕ → ℕ) → sum_to n (λ s. f s + g s) ≡ sum_to n f + sum_to n g
sum_add zero f g = refl
sum_add (suc n) f g = let a = sum_add n f g in omega arith

-- the first m, and the n behind them
pub sum_split : (m n : ℕ) (f : ℕ → ℕ) → sum_to (m + n) f ≡ sum_to m f + sum_to n (λ s. f (m + s))
sum_split m zero f = let e : m + 0 ≡ m = omega arith in ap (λ k. sum_to k f) e ∙ (omega arith)
sum_split m (suc n) f = let e : m + suc n ≡ suc (m + n) = omega arith in let a = sum_split m n f in
    ap (λ k. sum_to k f) e ∙ (omega arith)

pub sum_none : (n : ℕ) (f : ℕ → ℕ) → ((s : ℕ) → s < n → f s ≡ 0) → sum_to n f ≡ 0
sum_none zero f h = refl
sum_none (suc n) f h = let a = sum_none n f (λ s b. h s (omega arith)) in let b = h n (omega arith) in omega arith

pub sum_one : (n s : ℕ) (f : ℕ → ℕ) → s < n → ((t : ℕ) → t < n → t ≢ s → f t ≡ 0) → sum_to n f ≡ f s
sum_one zero s f b h = absurd (omega arith)
sum_one (suc n) s f b h = elim (cases_eq s n) [
  | inl e ↦
      let a = sum_none n f (λ t l. h t (omega arith) (λ q. omega arith)) in
      let c : f s ≡ f n = ap f e in
      omega arith
  | inr d ↦
      let a = sum_one n s f (omega (arith, b, d)) (λ t l. h t (omega arith)) in
      let c = h n (omega arith) (λ q. d (sym q)) in
      omega arith
]

pub sum_some : (n : ℕ) (f : ℕ → ℕ) → 0 < sum_to n f → (s : ℕ) × (s < n) × (0 < f s)
sum_some zero f h = absurd (omega arith)
sum_some (suc n) f h = elim (cases_eq (f n) 0) [
  | inl z ↦ let t = sum_some n f (omega (arith, h, z)) in (t.0, omega (arith, t.1), t.2)
  | inr d ↦ (n, omega arith, omega (arith, d))
]

-- whether u is v, as a number
abbrev pub is_at : ℕ → ℕ → ℕ
is_at u v = bit (nat_eq u v)

pub at_same : (u v : ℕ) → u ≡ v → is_at u v ≡ 1
at_same u v e = ap (λ b. bit b) (eq-eqb u v e)

pub at_other : (u v : ℕ) → u ≢ v → is_at u v ≡ 0
at_other u v d = ap (λ b. bit b) (ne_eqb u v d)

pub at_some : (u v : ℕ) → 0 < is_at u v → u ≡ v
at_some u v h = elim (cases_eq u v) [
  | inl e ↦ e
  | inr d ↦ absurd (omega (arith, h, at_other u v d))
]

-- how often u stands among f 0 .. f (n - 1)
abbrev pub among : ℕ → (ℕ → ℕ) → ℕ → ℕ
among n f u = sum_to n (λ s. is_at u (f s))

pub among_none : (n : ℕ) (f : ℕ → ℕ) (u : ℕ) → ((s : ℕ) → s < n → u ≢ f s) → among n f u ≡ 0
among_none n f u h = sum_none n (λ s. is_at u (f s)) (λ s b. at_other u (f s) (h s b))

pub among_one : (n s : ℕ) (f : ℕ → ℕ) (u : ℕ) → s < n → u ≡ f s → ((t : ℕ) → t < n → u ≡ f t → t ≡ s) → among n f u ≡ 1
among_one n s f u b e h = sum_one n s (λ t. is_at u (f t)) b
    (λ t l d. at_other u (f t) (λ q. d (h t l q))) ∙ at_same u (f s) e

pub among_some : (n : ℕ) (f : ℕ → ℕ) (u : ℕ) → 0 < among n f u → (s : ℕ) × (s < n) × (u ≡ f s)
among_some n f u h = let t = sum_some n (λ s. is_at u (f s)) h in (t.0, t.1, at_some u (f t.0) t.2)

pub among_in : (n s : ℕ) (f : ℕ → ℕ) (u : ℕ) → s < n → u ≡ f s → 0 < among n f u
among_in zero s f u b e = absurd (omega arith)
among_in (suc n) s f u b e = elim (cases_eq s n) [
  | inl q ↦ let c : is_at u (f n) ≡ 1 = at_same u (f n) (e ∙ ap f q) in omega arith
  | inr d ↦ let a = among_in n s f u (omega (arith, b, d)) e in omega arith
]

-- how often u stands among f q p, q below n and p below m
abbrev pub within : ℕ → ℕ → (ℕ → ℕ → ℕ) → ℕ → ℕ
within n m f u = sum_to n (λ q. among m (f q) u)

pub within_none : (n m : ℕ) (f : ℕ → ℕ → ℕ) (u : ℕ) → ((q p : ℕ) → q < n → p < m → u ≢ f q p) → within n m f u ≡ 0
within_none n m f u h = sum_none n (λ q. among m (f q) u) (λ q b. among_none m (f q) u (λ p c. h q p b c))

pub within_one : (n m q p : ℕ) (f : ℕ → ℕ → ℕ) (u : ℕ) → q < n → p < m → u ≡ f q p →
    ((r s : ℕ) → r < n → s < m → u ≡ f r s → (r ≡ q) × (s ≡ p)) → within n m f u ≡ 1
within_one n m q p f u b c e h =
    sum_one n q (λ r. among m (f r) u) b (λ r l d. among_none m (f r) u (λ s k w. d (h r s l k w).0))
    ∙ among_one m p (f q) u c e (λ s k w. (h q s b k w).1)

pub within_some : (n m : ℕ) (f : ℕ → ℕ → ℕ) (u : ℕ) → 0 < within n m f u →
    (q : ℕ) × (p : ℕ) × (q < n) × (p < m) × (u ≡ f q p)
within_some n m f u h =
    let t = sum_some n (λ q. among m (f q) u) h in
    let v = among_some m (f t.0) u t.2 in
    (t.0, v.0, t.1, v.1, v.2)

-- the ends at u of edges {f q p, w q p} and {g q p, w q p}
ends_in_row : (m : ℕ) (f g w : ℕ → ℕ) (u : ℕ) →
    sum_to m (λ p. is_at u (f p) + is_at u (w p) +
    (is_at u (g p) + is_at u (w p))) ≡ among m f u + among m g u + 2 * among m w u
ends_in_row zero f g w u = omega arith
ends_in_row (suc m) f g w u = omega (arith, ends_in_row m f g w u)

pub ends_in_grid : (n m : ℕ) (f g w : ℕ → ℕ → ℕ) (u : ℕ) →
    sum_to n (λ q. sum_to m (λ p. is_at u (f q p) + is_at u (w q p) +
    (is_at u (g q p) + is_at u (w q p)))) ≡ within n m f u + within n m g u + 2 * within n m w u
ends_in_grid zero m f g w u = omega arith
ends_in_grid (suc n) m f g w u = omega (arith, ends_in_grid n m f g w u, ends_in_row m (f n) (g n) (w n) u)
