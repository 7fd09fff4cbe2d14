-- A verdict that no step leads on says that no number of steps within the bound does.
use Rattle.std.proofs.Common.{ℕ, ◌≤◌, ◌⊎◌, inl, inr}
use Rattle.ol_term.specs.Trees.{Tree}
use Rattle.ol_derivations.specs.Reductions.{LeadsBy, IsSeen, most_told_steps}
use Rattle.ol_derivations.specs.Verdicts.{IsVerdict}
use Rattle.ol_derivations.specs.declared.judging.Verdict.TheVariants.{Apart, NoStep}
use Rattle.ol_derivations.proofs.Seeking.{none_missed}
use Rattle.ol_derivations.proofs.laws.none_is_missed.Goals as goal

missed : (t u : Tree) → IsSeen most_told_steps t → IsVerdict t u NoStep ⊎ IsVerdict t u Apart → (k : ℕ) → k ≤ most_told_steps →
    LeadsBy k t u → ⊥
missed t u seen (inl v) = none_missed t u seen v.0 v.1 v.2
missed t u seen (inr v) = none_missed t u seen v.0 v.1 v.2

pub returns : goal.returns
returns c = missed
