use Rattle.std.proofs.Common.{sym, subst}
use Rattle.ol_subjects.specs.Readied.{IsSubjectRead}
use Rattle.ol_explain.specs.Explained.{IsExplained, refused, answered}
use Rattle.ol_explain.proofs.explaining.explained.Goals as goal

pub returns-in-Refused : goal.returns-in-Refused
returns-in-Refused c = refused (subst
    (IsSubjectRead c.args.subject c.args.bytes.now) c.in-Refused.is c.in_ok-text.ensures)

pub returns-in_ok-put_other-in-Net : goal.returns-in_ok-put_other-in-Net
returns-in_ok-put_other-in-Net c =
    let r = subst (IsSubjectRead c.args.subject c.args.bytes.now) c.in-Net.is c.in_ok-text.ensures in
    let o = c.in_ok-put_other-in-Net.ensures in
    subst (λ e. IsExplained c.args.bytes.now c.args.journal.now c.put_other.new.answer.text.items c.args.subject e)
    (sym o.end) (answered r.0 c.in_ok-explanation-in-Net.ensures.explained o.text.1 o.text.2)
