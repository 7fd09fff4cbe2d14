use Rattle.std.proofs.Common.{[], refl, sym, subst}
use Rattle.std.proofs.lemmas.List.{append-nil}
use Rattle.ol_explain.specs.Others.{run_line, TellsOther, needless}
use Rattle.ol_explain.proofs.Unasked.{no_term, tells}
use Rattle.ol_explain.proofs.others.put_other.Goals as goal

pub returns-in_default-clause-text : goal.returns-in_default-clause-text
returns-in_default-clause-text c = (
  [],
  no_term c.args.bytes.now c.args.journal.now c.args.answer.now.end c.args.subject c.in_default.not-Term,
  sym (append-nil c.args.answer.now.text.items),
)

pub returns-then-not-is_off-clause-text : goal.returns-then-not-is_off-clause-text
returns-then-not-is_off-clause-text c = (
  [],
  subst (λ s. TellsOther c.args.bytes.now c.args.journal.now s c.args.answer.now.end []) (sym c.in-Term.is)
      (needless (c.if-not-is_off.ensures.good refl)),
  sym (append-nil c.args.answer.now.text.items),
)

pub returns-clause-text : goal.returns-clause-text
returns-clause-text c = (
  run_line c.other-other.result c.in_ok-finding.finding,
  tells c.args.bytes.now c.args.journal.now c.args.answer.now.end c.args.subject c.in-Term.translation
      c.other-other.result c.in_ok-finding.finding c.in-Term.is c.other-other.ensures
      (c.if-not-is_off.ensures.off refl) c.in_ok-finding.ensures,
  c.in_ok-put_run.ensures,
)
