-- The shapes of answers to a term: done, with a text; or where fuel can be spent, that too, with another.
use Rattle.std.specs.Prelude.{◌≡◌, ℕ, List, codes}
use Rattle.ol_cli.specs.declared.status.Status.{Status}
use Rattle.ol_cli.specs.declared.status.Status.TheVariants as status
use Rattle.ol_cli.specs.Texts.{count_line}

abbrev pub OnlyDone : (List ℕ → Type 0) → Status → List ℕ → Type 0
OnlyDone IsDone status.Done text = IsDone text
OnlyDone IsDone _ text = ⊥

abbrev pub DoneOrSpent : (IsDone IsSpent : List ℕ → Type 0) → Status → List ℕ → Type 0
DoneOrSpent IsDone IsSpent status.Spent text = IsSpent text
DoneOrSpent IsDone IsSpent st text = OnlyDone IsDone st text

-- the run is longer than the fuel, and the text says so
abbrev pub TellsFuel : Type 0 → (fuel : ℕ) → List ℕ → Type 0
TellsFuel RunsOut fuel text = RunsOut × (text ≡ count_line (codes "fuel") fuel)
