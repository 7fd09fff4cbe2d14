-- Names with their values, whatever boxes hold them.
use Rattle.std.specs.Prelude.{List, map}
use Rattle.ol_term.specs.Trees.{tree_of}
use Rattle.ol_steps.specs.declared.lets.NamedValue.{NamedValue}
use Rattle.ol_steps.specs.Trees.{binders_in}
use Rattle.ol_steps.specs.Lets.{LetRow}

abbrev pub row_of : NamedValue → LetRow
row_of v = record { name = v.name.items; value = tree_of v.value; binders = binders_in v.binders }

abbrev pub rows_of : List NamedValue → List LetRow
rows_of values = map row_of values
