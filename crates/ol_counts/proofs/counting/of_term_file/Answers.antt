use Rattle.std.proofs.Common.{sym, subst}
use Rattle.ol_subjects.specs.declared.answers.End.{End}
use Rattle.ol_subjects.specs.declared.subjects.Subject.TheVariants as subject
use Rattle.ol_subjects.specs.Readied.{IsTermRead}
use Rattle.ol_counts.specs.Counted.{IsCounted, refused, of_term}
use Rattle.ol_counts.proofs.counting.of_term_file.Goals as goal

pub returns-in-Refused : goal.returns-in-Refused
returns-in-Refused c = refused (subst
    (IsTermRead c.args.translation c.args.bytes.now) c.in-Refused.is c.in_ok-text.ensures)

pub returns-in_ok-answer-in-Term : goal.returns-in_ok-answer-in-Term
returns-in_ok-answer-in-Term c =
    let r = subst (IsTermRead c.args.translation c.args.bytes.now) c.in-Term.is c.in_ok-text.ensures in
    let a = c.in_ok-answer-in-Term.ensures in
    subst (λ (e : End). IsCounted c.args.bytes.now c.args.bounds c.args.columns c.args.layout c.in_ok-answer-in-Term.answer.text.items
    (subject.Term c.args.translation) e) (sym a.end_is)
    (of_term r.term r.ready a.are a.text_is)
