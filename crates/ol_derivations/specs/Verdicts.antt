-- What is said of a term of a derivation, by the term before it.
use Rattle.std.specs.Prelude.{◌≡◌, ◌≢◌, ℕ, Bool, true, false, ◌↔◌, if◌then◌else◌, List, [], ◌++◌, Some, codes}
use Rattle.std.specs.Fmt.{decimal}
use Rattle.ol_term.specs.Trees.{Tree}
use Rattle.ol_beta.specs.AddressTexts.{address_text}
use Rattle.ol_beta.specs.Leftmost.{leftmost}
use Rattle.ol_derivations.specs.Steps.{IsFirstStep, IsNoStep}
use Rattle.ol_derivations.specs.NormalForms.{most_leftmost, DifferInNormalForm}
use Rattle.ol_derivations.specs.Reductions.{AreSteps, AreNoSteps}
use Rattle.ol_derivations.specs.declared.judging.Verdict.{Verdict}
use Rattle.ol_derivations.specs.declared.judging.Verdict.TheVariants.{Step, Same, Steps, Apart, NoStep}

-- The verdict on u behind t. No two of these fit at once.
abbrev pub IsVerdict : (t u : Tree) → Verdict → Type 0
IsVerdict t u (Step at is_leftmost) = IsFirstStep t u at.items
    × ((is_leftmost ≡ true) ↔ (leftmost t ≡ Some at.items))
IsVerdict t u Same = IsNoStep t u × (t ≡ u)
IsVerdict t u (Steps k) = AreSteps t u k
IsVerdict t u Apart = IsNoStep t u × (t ≢ u) × AreNoSteps t u × DifferInNormalForm most_leftmost t u
IsVerdict t u NoStep = IsNoStep t u × (t ≢ u) × AreNoSteps t u
    × (DifferInNormalForm most_leftmost t u → ⊥)

-- a derivation may go on so
abbrev pub is_fine : Verdict → Bool
is_fine (Step at is_leftmost) = true
is_fine Same = true
is_fine (Steps k) = false
is_fine Apart = false
is_fine NoStep = false

-- the words of a verdict, where the term before stands on line m
abbrev pub verdict_words : ℕ → Verdict → List ℕ
verdict_words m (Step at is_leftmost) = codes "one beta step, at " ++ address_text at.items
    ++ (if is_leftmost then codes ", leftmost" else [])
verdict_words m Same = codes "the same term"
verdict_words m (Steps k) = decimal k ++ codes " steps"
verdict_words m Apart = codes "not convertible"
verdict_words m NoStep = codes "no beta step of line " ++ decimal m
