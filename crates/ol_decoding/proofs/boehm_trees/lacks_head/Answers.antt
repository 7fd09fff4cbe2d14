use Rattle.std.proofs.Common.{◌≡◌, ◌≤◌, length, true, false, Some, refl, sym, ap, ◌∙◌, arith}
use Rattle.ol_decoding.proofs.Lacking.{at_lacks, none_yet, none_more, none_at_all}
use Rattle.ol_decoding.proofs.boehm_trees.lacks_head.Goals as goal

pub loop-k-init : goal.loop-k-init
loop-k-init c = none_yet c.args.tree.now

pub loop-k-preserved : goal.loop-k-preserved
loop-k-preserved c =
    none_more c.loop-k.k c.args.tree.now c.in-Some.node (sym c.get.ensures.place ∙ c.in-Some.is)
    (λ e. let z : true ≡ false = sym (c.is_lost.ensures.1 e) ∙ c.if-is_lost.false in absurd (cc)) c.loop-k.invariant

pub returns-then-is_lost : goal.returns-then-is_lost
returns-then-is_lost c = (
  λ e. at_lacks c.args.tree.now c.loop-k.k
      (sym c.get.ensures.place ∙ c.in-Some.is ∙ ap Some (c.is_lost.ensures.0 c.if-is_lost.true)),
  λ l. refl,
)

pub returns : goal.returns
returns c =
    let b : length c.args.tree.now ≤ c.loop-k.k = omega (arith, c.loop-k-test.false, c.len-k-end.ensures) in
    (λ e. absurd (cc), λ l. absurd (none_at_all c.loop-k.k c.args.tree.now b c.loop-k.invariant l))
