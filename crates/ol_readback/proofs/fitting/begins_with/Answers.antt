use Rattle.std.proofs.Common.{◌∙◌, arith}
use Rattle.std.proofs.lemmas.List.{length-map}
use Rattle.ol_context.specs.Shapes.{value, context_of}
use Rattle.ol_context.proofs.ValueLists.{held_in}
use Rattle.ol_readback.proofs.Fits.{level_more, wanted_is}
use Rattle.ol_readback.proofs.fitting.begins_with.Goals as goal

pub equal-same-requires-clause-second : goal.equal-same-requires-clause-second
equal-same-requires-clause-second c = rw c.index-wanted.ensures
    (held_in c.args.values.now c.args.levels.now.items c.loop-i.i c.index-wanted.result.now
    c.requires.levels (omega (arith, c.args.levels.now.ok.0, c.len-i-end.ensures)))

pub loop-i-preserved : goal.loop-i-preserved
loop-i-preserved c =
    let q = c.equal-same.ensures.trees in
    level_more c.args.values.now c.args.levels.now.items
    (context_of c.args.values.now c.args.context.now) c.loop-i.i c.level-there.result
    c.index-wanted.result.now c.loop-i.invariant
    (omega (
      arith,
      c.args.levels.now.ok.0,
      c.len-i-end.ensures,
    )) c.level-there.ensures.is c.index-wanted.ensures (q.0 c.if-not-same.false)

pub returns-then-not-same : goal.returns-then-not-same
returns-then-not-same c = λ b.
    let q = c.equal-same.ensures.trees in
    let l = length-map c.args.levels.now.items (value c.args.values.now) in
    let e = b c.loop-i.i (omega (arith, c.args.levels.now.ok.0, c.len-i-end.ensures)) in
    let f = q.1 (c.level-there.ensures.is ∙ e
    ∙ wanted_is c.args.values.now c.args.levels.now.items
    (context_of c.args.values.now c.args.context.now) c.loop-i.i c.index-wanted.result.now
    (omega (arith, c.args.levels.now.ok.0, c.len-i-end.ensures)) c.index-wanted.ensures) in
    let z = c.if-not-same.true in absurd (cc)

pub returns : goal.returns
returns c = λ i b.
    let l = length-map c.args.levels.now.items (value c.args.values.now) in
    c.loop-i.invariant i (omega (arith, c.args.levels.now.ok.0, c.len-i-end.ensures))
