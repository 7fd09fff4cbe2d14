use Rattle.std.proofs.Common.{sym, subst}
use Rattle.ol_subjects.specs.declared.answers.End.{End}
use Rattle.ol_subjects.specs.declared.subjects.Subject.TheVariants as subject
use Rattle.ol_subjects.specs.Readied.{IsSubjectRead}
use Rattle.ol_counts.specs.Counted.{IsCounted, refused, of_net}
use Rattle.ol_counts.proofs.OneSubject.{read_of}
use Rattle.ol_counts.proofs.counting.of_net_file.Goals as goal

pub returns-in-Refused : goal.returns-in-Refused
returns-in-Refused c = refused (subst (IsSubjectRead subject.Net c.args.bytes.now) c.in-Refused.is c.in_ok-text.ensures)

pub returns-in_ok-answer-in-Net : goal.returns-in_ok-answer-in-Net
returns-in_ok-answer-in-Net c =
    let r = subst (IsSubjectRead subject.Net c.args.bytes.now) c.in-Net.is c.in_ok-text.ensures in
    let a = c.in_ok-answer-in-Net.ensures in
    subst (λ (e : End). IsCounted c.args.bytes.now c.args.bounds c.args.columns c.args.layout c.in_ok-answer-in-Net.answer.text.items
    subject.Net e) (sym a.end_is)
    (of_net (read_of c.args.bytes.now c.in-Net.net r.0) a.are a.text_is)
