-- Levels put before a context, and what a crossing of a lower index does to them.
use Rattle.std.proofs.Common.{◌≡◌, ℕ, zero, suc, ◌+◌, List, [], ◌∷◌, length, refl, ap, arith}
use Rattle.ol_context.proofs.Contexts.{head_eq, tail_eq}
use Rattle.ol_context.specs.Contexts.{Level, empty, pair, Context, cons, tail, at_level, marked}
use Rattle.ol_context.specs.Contexts.{mark, change, up, shift, IsCrosser}
use Rattle.ol_net.specs.declared.parts.Kind.{Kind}
use Rattle.ol_net.specs.declared.parts.Kind.TheVariants as kind
use Rattle.ol_law_optimality.specs.Redexes.{put}

-- the levels before a crossing and those after it
pub record Lifts (k : Kind) (i s : ℕ) (vs ws : List Level) : Type 0 where
  pub all : (c : Context) → up k i s (put vs c) ≡ put ws c

lift_0 : (k : Kind) (s : ℕ) → IsCrosser k → (n : ℕ) (vs : List Level) → length vs ≡ shift k n →
    (ws : List Level) × (length ws ≡ suc n) × Lifts k 0 s vs ws
lift_0 kind.Fan s h n [] e = absurd (omega arith)
lift_0 kind.Fan s h n (v ∷ vs) e = (marked s v ∷ vs, e, record { all = λ c. refl })
lift_0 kind.Croissant s h n vs e = (empty ∷ vs, ap suc e, record { all = λ c. refl })
lift_0 kind.Bracket s h n [] e = absurd (omega arith)
lift_0 kind.Bracket s h n (v ∷ []) e = absurd (omega arith)
lift_0 kind.Bracket s h n (v ∷ u ∷ vs) e =
    (pair u v ∷ vs, (let q = e in omega arith), record { all = λ c. refl })
lift_0 kind.Lam s h n vs e = absurd h
lift_0 kind.App s h n vs e = absurd h
lift_0 kind.Eraser s h n vs e = absurd h

pub lift : (k : Kind) (i s : ℕ) → IsCrosser k → (n : ℕ) (vs : List Level) →
    length vs ≡ i + shift k n → (ws : List Level) × (length ws ≡ i + suc n) × Lifts k i s vs ws
lift k zero s h n vs e =
    let t = lift_0 k s h n vs (omega (arith, e)) in (t.0, (let q = t.1 in omega arith), t.2)
lift k (suc i) s h n [] e = absurd (omega arith)
lift k (suc i) s h n (v ∷ vs) e =
    let t = lift k i s h n vs (omega (arith, e)) in (
      v ∷ t.0,
      (let q = t.1 in omega arith),
      record { all = λ c. ap (cons v) (t.2.all c) },
    )

lower_0 : (k : Kind) (s : ℕ) → IsCrosser k → (n : ℕ) (ws : List Level) → length ws ≡ suc n →
    (b c : Context) → up k 0 s b ≡ put ws c →
    (vs : List Level) × (length vs ≡ shift k n) × Lifts k 0 s vs ws
lower_0 k s h n [] e b c q = absurd (omega arith)
lower_0 kind.Fan s h n (w ∷ ws) e b c q =
    let z = head_eq (marked s (b 0)) w (tail b) (put ws c) q in
    (b 0 ∷ ws, e, record { all = λ c. ap (λ w. cons w (put ws c)) z })
lower_0 kind.Croissant s h n (w ∷ ws) e b c q =
    let z = head_eq empty w b (put ws c) q in
    (ws, (omega (arith, e)), record { all = λ c. ap (λ w. cons w (put ws c)) z })
lower_0 kind.Bracket s h n (w ∷ ws) e b c q =
    let z = head_eq (pair (b 1) (b 0)) w (tail (tail b)) (put ws c) q in
    (b 0 ∷ b 1 ∷ ws, (omega (arith, e)), record { all = λ c. ap (λ w. cons w (put ws c)) z })
lower_0 kind.Lam s h n (w ∷ ws) e b c q = absurd h
lower_0 kind.App s h n (w ∷ ws) e b c q = absurd h
lower_0 kind.Eraser s h n (w ∷ ws) e b c q = absurd h

pub lower : (k : Kind) (i s : ℕ) → IsCrosser k → (n : ℕ) (ws : List Level) →
    length ws ≡ i + suc n → (b c : Context) → up k i s b ≡ put ws c →
    (vs : List Level) × (length vs ≡ i + shift k n) × Lifts k i s vs ws
lower k zero s h n ws e b c q =
    let t = lower_0 k s h n ws (omega (arith, e)) b c q in
    (t.0, (let z = t.1 in omega arith), t.2)
lower k (suc i) s h n [] e b c q = absurd (omega arith)
lower k (suc i) s h n (w ∷ ws) e b c q =
    let z = head_eq (b 0) w (at_level i (change k s) (tail b)) (put ws c) q in
    let t = lower k i s h n ws (omega (arith, e)) (tail b) c
    (tail_eq (b 0) w (at_level i (change k s) (tail b)) (put ws c) q) in (
      w ∷ t.0,
      (let z = t.1 in omega arith),
      record { all = λ c. ap (cons w) (t.2.all c) },
    )

-- what stands above the levels
pub above : (vs : List Level) (c : Context) (n : ℕ) → length vs ≡ n → put vs c n ≡ c 0
above [] c n e = ap c (omega (arith, e))
above (v ∷ vs) c zero e = absurd (omega arith)
above (v ∷ vs) c (suc n) e = above vs c n (omega (arith, e))
