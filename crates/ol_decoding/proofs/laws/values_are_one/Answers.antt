use Rattle.ol_decoding.proofs.OneValue.{numeral_is_one, value_is_one, told_is_one}
use Rattle.ol_decoding.proofs.laws.values_are_one.Goals as goal

pub returns-clause-numeral : goal.returns-clause-numeral
returns-clause-numeral c = numeral_is_one

pub returns-clause-value : goal.returns-clause-value
returns-clause-value c = value_is_one

pub returns-clause-told : goal.returns-clause-told
returns-clause-told c = told_is_one
