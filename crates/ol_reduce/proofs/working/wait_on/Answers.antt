use Rattle.std.proofs.Common.{ap, ◌∙◌}
use Rattle.ol_pool.specs.Pools.{HandState}
use Rattle.ol_reduce.specs.Working.{is_spent}
use Rattle.ol_reduce.proofs.Worked.{kept_on, kept_asked, asked_on}
use Rattle.ol_reduce.proofs.working.wait_on.Goals as goal

pub returns-clause-kept : goal.returns-clause-kept
returns-clause-kept g c =
    let b = c.args.shared.now in
    let p = c.args.pool.now in
    let kept = c.if-go_round_if_due.ensures.kept in
    kept_on b p c.args.own.now c.go_round_if_due.new.own c.ask-end.new.own (is_spent c.ask-end.result) kept
    (kept_asked b p c.go_round_if_due.new.own c.ask-end.new.own c.ask-end.result c.ask-end.ensures.seat
    kept.hand c.ask-end.ensures.hand c.ask-end.ensures.number c.ask-end.ensures.asked)

pub returns-clause-goes : goal.returns-clause-goes
returns-clause-goes g c = asked_on c.args.shared.now c.args.own.now.seat c.go_round_if_due.new.own.seat
    c.ask-end.new.own c.ask-end.result c.if-go_round_if_due.ensures.goes c.ask-end.ensures.asked
    (ap (λ (h : HandState). h.missed) c.ask-end.ensures.hand ∙ c.go_round_if_due.ensures.missed ∙ c.requires.missed)
