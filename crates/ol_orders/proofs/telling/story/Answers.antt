use Rattle.std.proofs.Common.{subst}
use Rattle.ol_subjects.specs.Readied.{IsSubjectRead}
use Rattle.ol_orders.specs.Stories.{refused, answered}
use Rattle.ol_orders.proofs.telling.story.Goals as goal

pub returns-in-Refused : goal.returns-in-Refused
returns-in-Refused c = refused (subst
    (IsSubjectRead c.args.subject c.args.bytes.now) c.in-Refused.is c.in_ok-net.ensures)

pub returns-in_ok-answer-in-Net : goal.returns-in_ok-answer-in-Net
returns-in_ok-answer-in-Net c =
    let r = subst (IsSubjectRead c.args.subject c.args.bytes.now) c.in-Net.is c.in_ok-net.ensures in
    answered r.0 c.in_ok-answer-in-Net.ensures
