use Rattle.std.proofs.Common.{subst}
use Rattle.ol_subjects.specs.Readied.{IsSubjectRead}
use Rattle.ol_explain.specs.Tallies as of
use Rattle.ol_explain.proofs.tallying.tallied.Goals as goal

pub returns-in-Refused : goal.returns-in-Refused
returns-in-Refused c = of.IsTallied.refused c.in-Refused.field-0.items (subst
    (IsSubjectRead c.args.subject c.args.bytes.now) c.in-Refused.is c.in_ok-read_subject.ensures)

pub returns : goal.returns
returns c =
    let r = subst (IsSubjectRead c.args.subject c.args.bytes.now) c.in-Net.is c.in_ok-read_subject.ensures in
    of.IsTallied.found r.0 c.in_ok-found-in-Net.ensures.exact c.in_ok-counts-in-Net.ensures
