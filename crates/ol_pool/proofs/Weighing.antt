-- The weight of what parts gave, after one gave a cell, and after none did.
use Rattle.std.proofs.Common.{◌≡◌, ◌≢◌, ℕ, zero, suc, ◌+◌, List, [], ◌∷◌, ◌++◌, refl, sym, ap, arith}
use Rattle.ol_pool.specs.Looks.{Part, part_at, GaveNone, OneGave}
use Rattle.ol_pool.specs.Weights.{weigh, weigh_parts}
use Rattle.ol_pool.proofs.Balances.{weigh_append}

no_cell : (xs : List ℕ) (cell : ℕ) → ◌≡◌ {A = List ℕ} [] (xs ++ cell ∷ []) → ⊥
no_cell [] cell e = absurd (cc)
no_cell (x ∷ xs) cell e = absurd (cc)

pub none_weigh : (h : ℕ → ℕ) (old new : List Part) →
    ((q : ℕ) → (part_at new q).given ≡ (part_at old q).given) → weigh_parts h new ≡ weigh_parts h old
none_weigh h [] [] same = refl
none_weigh h [] (y ∷ new) same = let e = ap (weigh h) (same 0) in
    let r = none_weigh h [] new (λ q. same (suc q)) in omega arith
none_weigh h (x ∷ old) [] same = let e = ap (weigh h) (same 0) in
    let r = none_weigh h old [] (λ q. same (suc q)) in omega arith
none_weigh h (x ∷ old) (y ∷ new) same = let e = ap (weigh h) (same 0) in
    let r = none_weigh h old new (λ q. same (suc q)) in omega arith

one_more : (h : ℕ → ℕ) (xs ys : List ℕ) (cell : ℕ) → ys ≡ xs ++ cell ∷ [] → weigh h ys ≡ weigh h xs + h cell
one_more h xs ys cell e = let a = ap (weigh h) e in let b = weigh_append h xs (cell ∷ []) in omega arith

past : (p : ℕ) → suc p ≢ 0
past p e = omega arith

pub one_weighs : (h : ℕ → ℕ) (old new : List Part) (p cell : ℕ) →
    (part_at new p).given ≡ (part_at old p).given ++ cell ∷ []
    → ((q : ℕ) → q ≢ p → (part_at new q).given ≡ (part_at old q).given) → weigh_parts h new ≡ weigh_parts h old + h cell
one_weighs h [] [] p cell gave same = absurd (no_cell [] cell gave)
one_weighs h [] (y ∷ new) zero cell gave same =
    let e = one_more h [] y.given cell gave in let r = none_weigh h [] new (λ q. same (suc q) (past q)) in omega arith
one_weighs h [] (y ∷ new) (suc p) cell gave same =
    let e = ap (weigh h) (same 0 (λ n. past p (sym n))) in
    let r = one_weighs h [] new p cell gave (λ q n. same (suc q) (λ m. n (omega arith))) in omega arith
one_weighs h (x ∷ old) [] zero cell gave same = absurd (no_cell x.given cell gave)
one_weighs h (x ∷ old) [] (suc p) cell gave same =
    let e = ap (weigh h) (same 0 (λ n. past p (sym n))) in
    let r = one_weighs h old [] p cell gave (λ q n. same (suc q) (λ m. n (omega arith))) in omega arith
one_weighs h (x ∷ old) (y ∷ new) zero cell gave same =
    let e = one_more h x.given y.given cell gave in
    let r = none_weigh h old new (λ q. same (suc q) (past q)) in omega arith
one_weighs h (x ∷ old) (y ∷ new) (suc p) cell gave same =
    let e = ap (weigh h) (same 0 (λ n. past p (sym n))) in
    let r = one_weighs h old new p cell gave (λ q n. same (suc q) (λ m. n (omega arith))) in omega arith

-- of a hand's take
pub taken_weighs : (h : ℕ → ℕ) (old new : List Part) (parts cell : ℕ) →
    OneGave parts (part_at old) (part_at new) cell → weigh_parts h new ≡ weigh_parts h old + h cell
taken_weighs h old new parts cell gave = one_weighs h old new gave.0 cell gave.2.0 (λ q n. (gave.3 q n).0)

pub missed_weighs : (h : ℕ → ℕ) (old new : List Part) →
    ((p : ℕ) → GaveNone (part_at old p) (part_at new p)) → weigh_parts h new ≡ weigh_parts h old
missed_weighs h old new none = none_weigh h old new (λ q. (none q).0)
