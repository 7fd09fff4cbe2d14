-- The numbers by which C is told what a journal is found to be.
use Rattle.std.specs.Prelude.{ℕ, Option, None, Some}
use Rattle.ol_rules.specs.declared.journal.Counts.{Counts}
use Rattle.ol_view.specs.declared.answers.Check.TheVariants.{Complete, Run, NotARun, BadText}
use Rattle.ol_explain.specs.declared.tallying.Finding.{Finding}
use Rattle.ol_explain.specs.declared.tallying.Finding.TheVariants.{Found, Refused}
use Rattle.ol_check_c.specs.declared.answers.Verdict.{Verdict}
use Rattle.ol_check_c.specs.declared.answers.RuleCounts.{RuleCounts}

abbrev pub verdict : ℕ → ℕ → Verdict
verdict word number = record { word = word; number = number }

-- complete; run K; not a run at line L; bad text at line L; the file with the term or the net is refused
abbrev pub verdict_of : Finding → Verdict
verdict_of (Found Complete) = verdict 0 0
verdict_of (Found (Run k)) = verdict 1 k
verdict_of (Found (NotARun line)) = verdict 2 line
verdict_of (Found (BadText line)) = verdict 3 line
verdict_of Refused = verdict 4 0

-- a file has more bytes than this
abbrev pub too_long : ℕ → Verdict
too_long most = verdict 5 most

-- no memory was found
abbrev pub no_memory : Verdict
no_memory = verdict 6 0

-- no translation has this number
abbrev pub no_translation : ℕ → Verdict
no_translation number = verdict 7 number

abbrev pub no_counts : RuleCounts
no_counts = record {
  beta = 0;
  fan = 0;
  croissant = 0;
  bracket = 0;
  cross_fan = 0;
  cross_croissant = 0;
  cross_bracket = 0;
  erase = 0;
}

abbrev pub counts_told : Option Counts → RuleCounts
counts_told None = no_counts
counts_told (Some c) = record {
  beta = c.beta;
  fan = c.fan;
  croissant = c.croissant;
  bracket = c.bracket;
  cross_fan = c.cross_fan;
  cross_croissant = c.cross_croissant;
  cross_bracket = c.cross_bracket;
  erase = c.erase;
}
