use Rattle.std.proofs.Common.{◌≡◌, ℕ, ◌+◌, ◌<◌, ◌≤◌, ◌⊎◌, inl, inr, arith, refl, sym, ◌∙◌, subst}
use Rattle.ol_context.specs.Contexts.{empty}
use Rattle.ol_context.specs.Shapes.{context_of}
use Rattle.ol_context.proofs.ValueLists.{past_level}
use Rattle.ol_readback.proofs.fitting.all_empty.Goals as goal

pub returns-then-not-is_empty : goal.returns-then-not-is_empty
returns-then-not-is_empty c = (
  λ t. absurd (cc),
  λ h. (c.if-not-is_empty.ensures).1 (c.level-v.ensures.is ∙ h c.loop-i.i c.loop-i.auto.i),
)

pub loop-i-preserved : goal.loop-i-preserved
loop-i-preserved c = λ k a b. go k a (cases k c.loop-i.i b)
  where
    cases : (k i : ℕ) → k < i + 1 → (k < i) ⊎ (i ≡ k)
    cases k i b = grind arith

    go : (k : ℕ) → c.args.from ≤ k → (k < c.loop-i.i) ⊎ (c.loop-i.i ≡ k) →
        context_of c.args.values.now c.args.context.now k ≡ empty
    go k a (inl b) = c.loop-i.invariant k a b
    go k a (inr e) = subst (λ k. context_of c.args.values.now c.args.context.now k ≡ empty) e
        (sym c.level-v.ensures.is ∙ (c.if-not-is_empty.ensures).0 refl)

pub returns : goal.returns
returns c = (λ t. λ i a. go i a (cases i c.loop-i.i), λ h. refl)
  where
    cases : (i n : ℕ) → (i < n) ⊎ (n ≤ i)
    cases i n = grind arith

    go : (i : ℕ) → c.args.from ≤ i → (i < c.loop-i.i) ⊎ (c.loop-i.i ≤ i) →
        context_of c.args.values.now c.args.context.now i ≡ empty
    go i a (inl b) = c.loop-i.invariant i a b
    go i a (inr b) = past_level c.args.values.now c.args.context.now i (omega (arith, c.len-i-end.ensures))
