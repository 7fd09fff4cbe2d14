use Rattle.std.proofs.Common.{◌==◌, ℕ, List, length, eqb-true, sym, ap, ◌∙◌, subst}
use Rattle.std.proofs.lemmas.List.{nil_from_length}
use Rattle.ol_explain.specs.declared.wanting.Field.TheVariants as field
use Rattle.ol_explain.specs.Fields.{Begins}
use Rattle.ol_explain.proofs.Breaks.{number_begins_only}
use Rattle.ol_explain.proofs.Cuts.{begins_empty}
use Rattle.ol_explain.proofs.wanting.number_begins.Goals as goal

pub returns-then-is_empty-clause-so : goal.returns-then-is_empty-clause-so
returns-then-is_empty-clause-so c t = subst (λ s. Begins field.Number s) (sym (nil_from_length c.args.read.now
    (eqb-true (length c.args.read.now) 0 (sym c.is_empty.ensures ∙ t)))) (begins_empty field.Number)

pub returns-else-is_empty-clause-not : goal.returns-else-is_empty-clause-not
returns-else-is_empty-clause-not c f h = c.is_number.ensures.not f (number_begins_only c.args.read.now
    (λ z. let y = c.is_empty.ensures ∙ ap (λ (s : List ℕ). length s == 0) z in let x = c.if-is_empty.false in cc) h)
