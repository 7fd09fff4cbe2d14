-- `gen`: the text that is made, or what `run` answers to it and hands back.
use Rattle.std.specs.Prelude.{Bool, List, None, Option, codes, false, true, ℕ, ◌≡◌}
use Rattle.ol_term.specs.Generated.{doubled_text}
use Rattle.ol_term.specs.declared.translations.Translation.{Translation}
use Rattle.ol_wire.specs.Closed.{ClosedTable}
use Rattle.ol_words.specs.declared.jobs.Job.{Job}
use Rattle.ol_words.specs.declared.jobs.Job.TheVariants as jobs
use Rattle.ol_limits.specs.Limits.{plain_fuel, plain_heads, plain_workers}
use Rattle.ol_cli.specs.Run.{RunAnswer}
use Rattle.ol_cli.specs.TermFiles.{FileHands, TermFileAnswer}
use Rattle.ol_cli.specs.declared.status.Status.{Status}
use Rattle.ol_cli.specs.declared.status.Status.TheVariants as status

-- `run` without options but the translation
abbrev pub plain_run : Translation → Job
plain_run translation = jobs.Run translation plain_workers plain_fuel plain_heads (codes "-")

-- What `gen` answers: the text that it makes, or the answer of `run` to that.
abbrev pub Makes : Translation → (runs : Bool) → (k : ℕ) → Status → List ℕ → Type 0
Makes translation false k st text = (st ≡ status.Done) × (text ≡ doubled_text k)
Makes translation true k st text = TermFileAnswer translation
    (RunAnswer translation plain_fuel plain_heads) (doubled_text k) st text

-- what `gen` hands back: what `run` does of the text that is made
abbrev pub MakingHands : Translation → (runs : Bool) → (k : ℕ) → Status → List ℕ → Option ClosedTable → Type 0
MakingHands translation false k st text closed = closed ≡ None
MakingHands translation true k st text closed = FileHands (plain_run translation) (doubled_text k) st text closed
