use Rattle.std.proofs.Common.{◌+◌, ◌-◌, ◌++◌, ap, ◌∙◌}
use Rattle.ol_readback.specs.Texts.{spaced}
use Rattle.ol_readback.proofs.Layers.{spaced_on}
use Rattle.ol_readback.proofs.printing.put_spaced.Goals as goal

pub loop-k-preserved : goal.loop-k-preserved
loop-k-preserved c =
    let same = c.put-in-loop-k.ensures.names in (
      ap (λ names. c.put-in-loop-k.new.text.items ++ spaced names (c.args.t + (c.loop-k.k + 1))
          (c.args.l - (c.loop-k.k + 1))) same
          ∙ spaced_on c.loop-k.binders c.loop-k.text.items c.put.new.text.items
          c.put-in-loop-k.new.text.items c.args.t c.loop-k.k c.args.l c.in_ok-binder.binder
          c.loop-k-test.true c.in_ok-put.ensures c.in_ok-binder.ensures c.in_ok-put-2.ensures.text
          ∙ c.loop-k.invariant.0,
      same ∙ c.loop-k.invariant.1,
    )
