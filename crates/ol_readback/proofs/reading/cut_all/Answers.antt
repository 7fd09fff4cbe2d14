use Rattle.std.proofs.Common.{ℕ, ◌++◌, replicate, ap, ◌∙◌}
use Rattle.ol_readback.specs.declared.answers.ReadNode.TheVariants.{Cut}
use Rattle.ol_readback.proofs.Onward.{cut_on}
use Rattle.ol_readback.proofs.reading.cut_all.Goals as goal

pub loop-group-preserved : goal.loop-group-preserved
loop-group-preserved c = (
  λ vs. cut_on vs c.args.nodes.now.items c.loop-group.nodes.items c.cut.new.nodes.items
      c.args.pending.now.items c.loop-group.pending.items c.pop.new.self.items c.in-Some.group c.in-Some.ensures.items
      (c.in_ok-cut.ensures.cut ∙ ap (λ (n : ℕ).
      c.loop-group.nodes.items ++ replicate n Cut) c.saturating_sub.ensures) (c.loop-group.invariant.0 vs),
  c.in_ok-cut.ensures.few,
)
