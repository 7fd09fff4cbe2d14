-- What holds of derivations.
use Rattle.std.specs.Prelude.{◌≡◌, ℕ, ◌≤◌, true, false, List, [], ◌∷◌, ◌⊎◌, Some}
use Rattle.ol_term.specs.Trees.{Tree}
use Rattle.ol_beta.specs.Beta.{contracted}
use Rattle.ol_subjects.specs.declared.answers.End.{End}
use Rattle.ol_subjects.specs.declared.answers.End.TheVariants.{Yes}
use Rattle.ol_derivations.specs.Lines.{lines_of, is_left_out}
use Rattle.ol_term.specs.NameLists.{with_names, in_table}
use Rattle.ol_derivations.specs.Reductions.{LeadsBy, IsSeen, most_told_steps}
use Rattle.ol_derivations.specs.Verdicts.{IsVerdict, is_fine, verdict_words}
use Rattle.ol_derivations.specs.Derivations.{IsTermLine, IsDerivation}
use Rattle.ol_derivations.specs.declared.judging.Verdict.{Verdict}
use Rattle.ol_derivations.specs.declared.judging.Verdict.TheVariants.{Apart, NoStep}

-- the terms of some lines, of which each has one or is left out; each in the table of the names up to its line
pub data AreTerms : List (List ℕ) → List (List ℕ) → List Tree → Type 0 where
  no_line : {table : List (List ℕ)} → AreTerms table [] []
  passed : {table : List (List ℕ)} {line : List ℕ} {lines : List (List ℕ)} {ts : List Tree} →
      is_left_out line ≡ true → AreTerms table lines ts → AreTerms table (line ∷ lines) ts
  one_more : {table : List (List ℕ)} {line : List ℕ} {lines : List (List ℕ)} {t : Tree} {names : List (List ℕ)}
      {ts : List Tree} → is_left_out line ≡ false → IsTermLine line t names →
      AreTerms (with_names table names) lines ts →
      AreTerms table (line ∷ lines) (in_table (with_names table names) names t ∷ ts)

-- each term comes from the one before it by one beta step, or is it
abbrev pub IsRightBehind : Tree → List Tree → Type 0
IsRightBehind t [] = Unit {0}
IsRightBehind t (u ∷ ts) = (((at : List ℕ) × (contracted t at ≡ Some u)) ⊎ (t ≡ u)) × IsRightBehind u ts

-- if the answer is Yes, the file has a first term, and each further one comes from the one before it by one beta step,
-- or is it
abbrev pub YesIsRight : Type 0
YesIsRight = (bytes text : List ℕ) → IsDerivation bytes text Yes →
    (t : Tree) × (ts : List Tree) × AreTerms [] (lines_of bytes) (t ∷ ts) × IsRightBehind t ts

-- a term has one verdict by the term before it: in words, and whether a derivation may go on so
abbrev pub OneVerdict : Type 0
OneVerdict = (t u : Tree) (v w : Verdict) → IsVerdict t u v → IsVerdict t u w →
    ((m : ℕ) → verdict_words m v ≡ verdict_words m w) × (is_fine v ≡ is_fine w)

-- If all reductions of fewer steps than the most are looked at, and neither a step nor steps are told,
-- no reduction of at most so many steps leads to the term.
abbrev pub NoneIsMissed : Type 0
NoneIsMissed = (t u : Tree) → IsSeen most_told_steps t →
    IsVerdict t u NoStep ⊎ IsVerdict t u Apart → (k : ℕ) → k ≤ most_told_steps → LeadsBy k t u → ⊥

-- a file has one answer
abbrev pub OneAnswer : Type 0
OneAnswer = (bytes text other : List ℕ) (e f : End) → IsDerivation bytes text e → IsDerivation bytes other f →
    (text ≡ other) × (e ≡ f)
