-- Each term can have its labels, and leftmost reduction goes on with them: what the laws on
-- families ask of labels can always be had.
use Rattle.std.specs.Prelude.{◌≡◌, List, length}
use Rattle.ol_law_optimality.specs.Steps.{steps_of}
use Rattle.ol_law_meaning.specs.Shows.{LeftmostReduces}
use Rattle.ol_law_optimality.specs.Labels.{Label, Labelled, erased, LeftmostContracts}
use Rattle.ol_term.specs.Trees.{Tree}
use Rattle.ol_law_optimality.specs.Families.{HaveOwnLetters}

-- Each term can be labelled so that each of its subterms has a letter of its own.
abbrev pub EachTermHasLetters : Type 0
EachTermHasLetters = (t : Tree) → (T : Labelled) × (erased T ≡ t) × HaveOwnLetters T

-- Whatever the labels of a term are, each leftmost reduction of the term without them is one of the
-- labelled term, which has as many degrees as the reduction has steps.
abbrev pub LeftmostIsLabelled : Type 0
LeftmostIsLabelled = (T : Labelled) (v : Tree) (r : LeftmostReduces (erased T) v) →
    (V : Labelled) × (ws : List Label) × LeftmostContracts T ws V × (erased V ≡ v)
    × (length ws ≡ steps_of r)

-- And each leftmost reduction of a labelled term is one of the term without its labels.
abbrev pub LabelledIsLeftmost : Type 0
LabelledIsLeftmost = (T V : Labelled) (ws : List Label) → LeftmostContracts T ws V →
    (r : LeftmostReduces (erased T) (erased V)) × (steps_of r ≡ length ws)
