use Rattle.std.proofs.Common.{sym, subst}
use Rattle.ol_subjects.specs.Readied.{IsSubjectRead}
use Rattle.ol_explain.specs.Objects.{IsJudgedObject}
use Rattle.ol_explain.proofs.objects.judged_object.Goals as goal

pub returns-in-Refused : goal.returns-in-Refused
returns-in-Refused c = IsJudgedObject.refused (subst
    (IsSubjectRead c.args.subject c.args.bytes.now) c.in-Refused.is c.in_ok-text.ensures)

pub returns-in_ok-answer-in-Net : goal.returns-in_ok-answer-in-Net
returns-in_ok-answer-in-Net c =
    let r = subst (IsSubjectRead c.args.subject c.args.bytes.now) c.in-Net.is c.in_ok-text.ensures in
    let a = c.in_ok-answer-in-Net in
    subst (λ e. IsJudgedObject c.args.bytes.now c.args.journal.now a.answer.text.items c.args.subject e)
    (sym a.ensures.end)
    (IsJudgedObject.found c.in_ok-found-in-Net.found r.0 c.in_ok-found-in-Net.ensures.exact a.ensures.text)
