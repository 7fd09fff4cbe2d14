use Rattle.std.proofs.Common.{subst}
use Rattle.ol_subjects.specs.Readied.{IsTermRead}
use Rattle.ol_decoding.specs.WalkAnswers.{refused, answered}
use Rattle.ol_decoding.proofs.frame_walks.frame_walk.Goals as goal

pub returns-in-Refused : goal.returns-in-Refused
returns-in-Refused c = refused
    (subst (IsTermRead c.args.wanted.now.translation c.args.bytes.now) c.in-Refused.is c.in_ok-text.ensures)

pub returns-in_ok-answer-in-Term : goal.returns-in_ok-answer-in-Term
returns-in_ok-answer-in-Term c =
    let r = subst (IsTermRead c.args.wanted.now.translation c.args.bytes.now) c.in-Term.is c.in_ok-text.ensures in
    let a = c.in_ok-answer-in-Term.ensures in
    answered r.term r.ready a.1 a.2
