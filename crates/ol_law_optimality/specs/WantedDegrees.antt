-- The words of redexes that the questions after a term's places come to are the degrees of leftmost
-- reduction.
use Rattle.std.specs.Prelude.{◌≡◌, List, None}
use Rattle.ol_beta.specs.Leftmost.{leftmost}
use Rattle.ol_law_edges.specs.Edges.{IsIn}
use Rattle.ol_law_optimality.specs.Wanted.{IsWanted}
use Rattle.ol_law_optimality.specs.Labels.{Label, Labelled, erased, LeftmostContracts}
use Rattle.ol_law_meaning.specs.Sites.{Site}
use Rattle.ol_term.specs.declared.translations.Translation.{Translation}
use Rattle.ol_law_optimality.specs.Signs.{signs_of}
use Rattle.ol_law_optimality.specs.Readings.{AreAlike, word_of}

-- Each degree that leftmost reduction contracts, on the way too, is the word of a redex of the
-- first term, there or to come, to which a question comes: where neighbours that cancel are left
-- out.
abbrev pub DegreesAreWanted : Type 0
DegreesAreWanted = (τ : Translation) (T v : Labelled) (ws : List Label) →
    LeftmostContracts T ws v → (w : Label) → IsIn w ws →
    (p : Site) × (m : IsWanted τ (erased T) p)
    × AreAlike (word_of T p m.comes.matched) (signs_of w)

-- And where leftmost reduction leads to a normal form, each such redex has the word of a degree.
abbrev pub WantedAreDegrees : Type 0
WantedAreDegrees = (τ : Translation) (T v : Labelled) (ws : List Label) →
    LeftmostContracts T ws v → leftmost (erased v) ≡ None →
    (p : Site) (m : IsWanted τ (erased T) p) →
    (w : Label) × IsIn w ws × AreAlike (word_of T p m.comes.matched) (signs_of w)
