use Rattle.std.proofs.Common.{sym, subst}
use Rattle.ol_places.specs.Places.{IsWhere, place, past}
use Rattle.ol_subjects.specs.declared.answers.End.TheVariants.{Yes, No}
use Rattle.ol_places.proofs.placing.whereabouts.Goals as goal

pub returns-then-at-bytes : goal.returns-then-at-bytes
returns-then-at-bytes c =
    subst (λ text. IsWhere c.args.bytes.now c.args.at text No) (sym c.in_ok-text.ensures)
    (past c.if-at-bytes.true)

pub returns : goal.returns
returns c =
    subst (λ text. IsWhere c.args.bytes.now c.args.at text Yes) (sym c.in_ok-text-2.ensures)
    (place c.line_of-start.ensures)
