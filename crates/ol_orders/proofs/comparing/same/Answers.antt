use Rattle.std.proofs.Common.{subst}
use Rattle.ol_subjects.specs.declared.subjects.Subject.TheVariants.{Net}
use Rattle.ol_subjects.specs.Readied.{IsSubjectRead}
use Rattle.ol_orders.specs.Same.{refused_first, refused_second, compared}
use Rattle.ol_orders.proofs.comparing.same.Goals as goal

pub returns-in-Refused : goal.returns-in-Refused
returns-in-Refused c =
    let p = c.in_ok-net.ensures in
    refused_first p.1 (subst (IsSubjectRead Net p.0) c.in-Refused.is p.2)

pub returns-in-Refused-2 : goal.returns-in-Refused-2
returns-in-Refused-2 c =
    let p = c.in_ok-net.ensures in
    let q = c.in_ok-net-2.ensures in
    let r = subst (IsSubjectRead Net p.0) c.in-Net.is p.2 in
    refused_second p.1 q.1 r.0 (subst (IsSubjectRead Net q.0) c.in-Refused-2.is q.2)

pub returns : goal.returns
returns c =
    let p = c.in_ok-net.ensures in
    let q = c.in_ok-net-2.ensures in
    let r = subst (IsSubjectRead Net p.0) c.in-Net.is p.2 in
    let s = subst (IsSubjectRead Net q.0) c.in-Net-2.is q.2 in
    compared p.1 q.1 c.is_tabled.ensures.tables c.is_tabled-2.ensures.tables r.0 s.0 c.in_ok-answer.ensures
