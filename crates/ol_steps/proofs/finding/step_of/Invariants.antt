use Rattle.std.proofs.Common.{◌≡◌, ℕ, ◌<◌, Some}
use Rattle.std.specs.Prelude.{slice_get}
use Rattle.ol_term.specs.Trees.{tree_of}
use Rattle.ol_steps.specs.EarlierTerms.{terms_of}
use Rattle.ol_steps.proofs.finding.step_of.Given as goal

abbrev pub invariant-loop-k : goal.invariant-loop-k
invariant-loop-k l = (j : ℕ) → j < l.k → slice_get (terms_of l.kept) j ≡ Some (tree_of l.term) → ⊥
