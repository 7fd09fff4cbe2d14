use Rattle.std.proofs.Common.{subst}
use Rattle.ol_subjects.specs.Readied.{IsTermRead}
use Rattle.ol_subjects.specs.Subjects.{of_term}
use Rattle.ol_subjects.proofs.subjects.read_net_of_term.Goals as goal

pub returns-in-Term : goal.returns-in-Term
returns-in-Term c =
    let r = subst (IsTermRead c.args.translation c.args.bytes.now) c.in-Term.is c.in_ok-net.ensures in
    (of_term r.term r.ready, r.few)

pub returns : goal.returns
returns c = subst (IsTermRead c.args.translation c.args.bytes.now) c.in-Refused.is c.in_ok-net.ensures
