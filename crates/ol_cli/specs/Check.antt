-- `check`: what a journal file is found to be against a term.
use Rattle.std.specs.Prelude.{List, codes, length, ℕ, ◌≡◌, ◌≤◌}
use Rattle.ol_term.specs.Trees.{Tree}
use Rattle.ol_term.specs.declared.translations.Translation.{Translation}
use Rattle.ol_view.specs.Checks.{OnlyIsFound}
use Rattle.ol_view.specs.declared.answers.Check.{Check}
use Rattle.ol_cli.specs.Run.{start_net_of_term}
use Rattle.ol_cli.specs.Texts.{Exceeds, count_line, line}
use Rattle.ol_cli.specs.declared.status.Status.{Status}
use Rattle.ol_view.specs.declared.answers.Check.TheVariants as check
use Rattle.ol_cli.specs.declared.status.Status.TheVariants as status
use Rattle.ol_limits.specs.Limits.{most_journal_bytes}

-- what is found of a journal
abbrev pub found_text : Check → List ℕ
found_text check.Complete = line (codes "complete")
found_text (check.Run k) = count_line (codes "run") k
found_text (check.BadText l) = count_line (codes "bad text at line") l
found_text (check.NotARun l) = count_line (codes "not a run at line") l

-- What `check` answers to the bytes of a journal file, against a term: a limit that they pass, or
-- the one thing that they are found to be.
abbrev pub JournalAnswer : Translation → Tree → List (List ℕ) → List ℕ → Status → List ℕ → Type 0
JournalAnswer translation t names journal status.Limit text =
    Exceeds (length journal) most_journal_bytes (codes "limit journal") text
JournalAnswer translation t names journal status.Done text = (length journal ≤ most_journal_bytes)
    × ((found : Check) × OnlyIsFound (start_net_of_term translation t names) journal found
    × (text ≡ found_text found))
JournalAnswer translation t names journal _ text = ⊥
