use Rattle.std.proofs.Common.{sym, subst}
use Rattle.ol_view.specs.declared.forms.Form.TheVariants.{One}
use Rattle.ol_explain.specs.Fields.{IsFault}
use Rattle.ol_explain.proofs.Cuts.{names_of_one}
use Rattle.ol_explain.proofs.wanting.fault_of.Goals as goal

pub returns-in-One : goal.returns-in-One
returns-in-One c = subst (λ f. IsFault f c.args.text.now c.args.at c.fault_of_names.result) (sym c.in-One.is)
    (c.fault_of_names.ensures One c.args.at (names_of_one c.args.text.now c.args.at))

pub returns-in-Two : goal.returns-in-Two
returns-in-Two c = subst (λ f. IsFault f c.args.text.now c.args.at c.fault_of_two.result) (sym c.in-Two.is) c.fault_of_two.ensures
