use Rattle.std.proofs.Common.{◌∷◌, inr, refl}
use Rattle.ol_view.specs.declared.forms.Form.TheVariants.{Two}
use Rattle.ol_explain.specs.declared.wanting.Field.TheVariants as field
use Rattle.ol_explain.specs.Fields.{pair}
use Rattle.ol_explain.proofs.Cuts.{cut_first, wave_cut, names_of_two, four_fields}
use Rattle.ol_explain.proofs.wanting.fault_of_two.Goals as goal

pub returns-in_default : goal.returns-in_default
returns-in_default c = cut_first Two c.args.text.now c.args.at c.requires field.Rule 32 ((field.Number, 32) ∷ pair)
    four_fields (inr refl) c.in_default.ensures.none

pub returns-in_default-behind_number : goal.returns-in_default-behind_number
returns-in_default-behind_number c = wave_cut c.args.text.now c.args.at c.in-Some.wave 0 c.in-Some._rule 0 c.requires
    c.in-Some.ensures.place.1 c.in-Some.ensures.some c.in_default-behind_number.ensures.none

pub returns : goal.returns
returns c =
    let s = c.in-Some-behind_number.ensures.some in
    c.fault_of_names.ensures Two c.args.at (names_of_two c.args.text.now c.args.at c.in-Some.wave
    c.in-Some-behind_number.names c.in-Some._rule c.in-Some-behind_number._number c.requires
    c.in-Some.ensures.place.1 c.in-Some.ensures.some c.in-Some-behind_number.ensures.place.1 s.0 s.1)
