use Rattle.std.proofs.Common.{map, ap, ◌++◌, ◌∙◌, arith}
use Rattle.ol_context.specs.Contexts.{levels}
use Rattle.ol_context.specs.Shapes.{value}
use Rattle.ol_decoding.specs.Lines.{level_text}
use Rattle.ol_decoding.proofs.Levelled.{level_first, level_put, some_levels}
use Rattle.ol_decoding.proofs.writing.put_levels.Goals as goal

pub loop-k-init : goal.loop-k-init
loop-k-init c = (
  omega arith,
  level_first (map (value c.args.values.now) c.args.context.now) c.args.text.now.items c.put_value.new.text.items
      (value c.args.values.now c.level.result)
      (some_levels c.args.values.now c.args.context.now 0 c.args.len (omega (arith, c.if-len-eq0.false)) c.requires.within)
      c.level.ensures.is c.in_ok-put_value.ensures,
)

pub loop-k-preserved : goal.loop-k-preserved
loop-k-preserved c =
    let b = c.loop-k.invariant.0 in (
      omega arith,
      level_put (map (value c.args.values.now) c.args.context.now) c.loop-k.k c.args.text.now.items c.loop-k.text.items
          c.put-in-loop-k.new.text.items c.put_value-in-loop-k.new.text.items b
          (some_levels c.args.values.now c.args.context.now c.loop-k.k c.args.len c.loop-k-test.true c.requires.within)
          c.loop-k.invariant.1 c.in_ok-put.ensures
          (c.in_ok-put_value-2.ensures
          ∙ ap (λ v. c.put-in-loop-k.new.text.items ++ level_text v) c.level-in-loop-k.ensures.is),
    )
