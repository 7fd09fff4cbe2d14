use Rattle.std.proofs.Common.{◌<◌, List, length, take, sym, ap, ◌∙◌, subst, arith}
use Rattle.std.proofs.lemmas.List.{take_all, length-set}
use Rattle.ol_rules.specs.declared.journal.Counts.{Counts}
use Rattle.ol_rules.specs.Counted.{counted}
use Rattle.ol_counts.specs.CountsOfWaves.{tally_at, AreTallied}
use Rattle.ol_counts.proofs.Tallying.{tallied_on, room_at, within_last}
use Rattle.ol_counts.proofs.wave_counts.tally.Goals as goal

pub add-requires-clause-within : goal.add-requires-clause-within
add-requires-clause-within c =
    let b = within_last c.args.waves.now c.loop-k.k c.in-Some-get.wave
    (sym c.get-in-loop-k.ensures.wave ∙ c.in-Some-get.is) in
    let s = c.loop-k.invariant.0 in
    let l = c.requires.last in
    omega arith

pub add-requires-clause-room : goal.add-requires-clause-room
add-requires-clause-room c =
    let l = c.len-k-end.ensures in
    let f = c.len-k-end.type_inv in
    let b = c.loop-k-test.true in
    let w = within_last c.args.waves.now c.loop-k.k c.in-Some-get.wave
    (sym c.get-in-loop-k.ensures.wave ∙ c.in-Some-get.is) in
    let s = c.loop-k.invariant.0 in
    let r = c.requires.last in
    room_at c.loop-k.tallies.items c.args.journal.now c.args.waves.now c.loop-k.k c.in-Some.entry
    c.in-Some-get.wave (omega arith) (omega arith) (omega arith) c.loop-k.invariant.1

pub loop-k-preserved : goal.loop-k-preserved
loop-k-preserved c =
    let b = within_last c.args.waves.now c.loop-k.k c.in-Some-get.wave
    (sym c.get-in-loop-k.ensures.wave ∙ c.in-Some-get.is) in
    let s = c.loop-k.invariant.0 in
    let l = c.requires.last in
    let lt : c.in-Some-get.wave < length c.loop-k.tallies.items = omega arith in (
      ap (λ (t : List Counts). length t) c.add.ensures
          ∙ length-set c.loop-k.tallies.items c.in-Some-get.wave
          (counted (tally_at c.loop-k.tallies.items c.in-Some-get.wave) c.in-Some.entry.rule)
          ∙ c.loop-k.invariant.0,
      tallied_on c.loop-k.tallies.items c.add.new.tallies.items c.args.journal.now c.args.waves.now
          c.loop-k.k c.in-Some.entry c.in-Some-get.wave (sym c.get.ensures ∙ c.in-Some.is)
          (sym c.get-in-loop-k.ensures.wave ∙ c.in-Some-get.is)
          lt c.loop-k.invariant.1 c.add.ensures,
    )

pub returns-clause-each : goal.returns-clause-each
returns-clause-each c =
    let l = c.len-k-end.ensures in
    let t = c.loop-k-test.false in
    let n = c.requires.count in
    subst (λ es. AreTallied c.loop-k.tallies.items es c.args.waves.now)
    (take_all c.loop-k.k c.args.journal.now (omega arith))
    (subst (λ ws. AreTallied c.loop-k.tallies.items (take c.loop-k.k c.args.journal.now) ws)
    (take_all c.loop-k.k c.args.waves.now (omega arith)) c.loop-k.invariant.1)
