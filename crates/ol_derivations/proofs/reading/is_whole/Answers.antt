use Rattle.std.proofs.Common.{◌≡◌, ℕ, suc, ◌+◌, take, Some, refl, sym, ap, ◌∙◌, subst, arith}
use Rattle.ol_readback.specs.Terms.{HasAllHeads}
use Rattle.ol_readback.specs.declared.answers.ReadNode.{ReadNode}
use Rattle.ol_readback.specs.declared.answers.ReadNode.TheVariants as node
use Rattle.ol_beta.proofs.Passing.{heads_more}
use Rattle.ol_derivations.proofs.Wholes.{clash, each_head, all_heads}
use Rattle.ol_derivations.proofs.reading.is_whole.Goals as goal

pub returns-in-NoHead : goal.returns-in-NoHead
returns-in-NoHead c = (
  λ e. absurd (clash e),
  λ h. absurd (each_head c.args.tree.now c.loop-place.place node.NoHead
      (sym c.in-Some.ensures.place ∙ ap (λ (n : ReadNode). Some n) c.in-NoHead.is) h),
)

pub returns-in-Cut : goal.returns-in-Cut
returns-in-Cut c = (
  λ e. absurd (clash e),
  λ h. absurd (each_head c.args.tree.now c.loop-place.place node.Cut
      (sym c.in-Some.ensures.place ∙ ap (λ (n : ReadNode). Some n) c.in-Cut.is) h),
)

pub loop-place-preserved : goal.loop-place-preserved
loop-place-preserved c =
    let n : suc c.loop-place.place ≡ c.loop-place.place + 1 = omega arith in
    subst (λ (k : ℕ). HasAllHeads (take k c.args.tree.now)) n
    (heads_more c.args.tree.now c.loop-place.place c.in-Head.lams c.in-Head.var c.in-Head.args
    c.loop-place.invariant (sym c.in-Some.ensures.place ∙ ap (λ (n : ReadNode). Some n) c.in-Head.is))

pub returns : goal.returns
returns c = (
  λ e. all_heads c.args.tree.now c.loop-place.place
      (omega (arith, c.loop-place-test.false, c.len-place-end.ensures)) c.loop-place.invariant,
  λ h. refl,
)
