use Rattle.std.proofs.Common.{Option, Some, false, refl, ap, ◌∙◌, subst}
use Rattle.ol_reduce.specs.declared.answers.End.{End}
use Rattle.ol_reduce.specs.Worked.{rested}
use Rattle.ol_reduce.specs.Working.{PutsPublished, is_spent}
use Rattle.ol_reduce.specs.Works.{GoesOn}
use Rattle.ol_reduce.proofs.Worked.{kept_first, kept_on, worked_on, ended_on}
use Rattle.ol_reduce.proofs.working.worker.Goals as goal

pub loop-init : goal.loop-init
loop-init g c = (
  kept_first c.args.shared.now c.args.pool.now c.args.own.now c.requires.seat
      c.requires.hand,
  rested refl,
)

pub returns-in-Some-go_on-clause-quiet : goal.returns-in-Some-go_on-clause-quiet
returns-in-Some-go_on-clause-quiet g c = λ e.
    (subst (λ (r : Option End). GoesOn c.args.shared.now c.args.own.now.seat r c.go_on.new.own)
    (c.in-Some-go_on.is ∙ ap Some e)
    (ended_on c.args.shared.now c.args.own.now.seat c.loop.own.seat c.go_on.new.own c.go_on.result
    c.loop.invariant.1 c.go_on.ensures.goes)).0

pub returns-in-Some-go_on-clause-spent : goal.returns-in-Some-go_on-clause-spent
returns-in-Some-go_on-clause-spent g c = λ e.
    subst (λ (r : Option End). GoesOn c.args.shared.now c.args.own.now.seat r c.go_on.new.own)
    (c.in-Some-go_on.is ∙ ap Some e)
    (ended_on c.args.shared.now c.args.own.now.seat c.loop.own.seat c.go_on.new.own c.go_on.result
    c.loop.invariant.1 c.go_on.ensures.goes)

pub returns-in-Some-go_on-clause-claimed : goal.returns-in-Some-go_on-clause-claimed
returns-in-Some-go_on-clause-claimed g
    c = (kept_on c.args.shared.now c.args.pool.now c.args.own.now c.loop.own c.go_on.new.own
    (is_spent c.go_on.result) c.loop.invariant.0 c.go_on.ensures.kept).claimed

pub returns-in-Some-go_on-clause-put : goal.returns-in-Some-go_on-clause-put
returns-in-Some-go_on-clause-put g c =
    subst (λ (r : Option End). PutsPublished c.args.own.now.seat c.args.own.now.hand (is_spent r) c.go_on.new.own.seat
    c.go_on.new.own.hand) c.in-Some-go_on.is
    (kept_on c.args.shared.now c.args.pool.now c.args.own.now c.loop.own c.go_on.new.own (is_spent c.go_on.result)
    c.loop.invariant.0 c.go_on.ensures.kept).put

pub loop-preserved : goal.loop-preserved
loop-preserved g c = (
  kept_on c.args.shared.now c.args.pool.now c.args.own.now c.loop.own c.go_on.new.own false
      c.loop.invariant.0 c.in_default.ensures.kept,
  worked_on c.args.shared.now.plan.parts c.args.own.now.seat.view c.loop.own.seat.view
      c.go_on.new.own.seat.view c.loop.invariant.1 c.in_default.ensures.goes,
)
