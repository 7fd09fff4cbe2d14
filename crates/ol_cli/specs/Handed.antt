-- What the call hands back beside its status: the closed words of the table on which the workers rewrote.
use Rattle.std.specs.Prelude.{List, None, Option, String, false, ℕ, ◌≡◌}
use Rattle.std.specs.declared.alloc.Global.{Global}
use Rattle.ol_io.specs.Outside.{Appended}
use Rattle.ol_wire.specs.Closed.{ClosedTable}
use Rattle.ol_words.specs.declared.jobs.Job.{Job}
use Rattle.ol_cli.specs.Answers.{Gave, Seen}
use Rattle.ol_limits.specs.Limits.{most_term_bytes}
use Rattle.ol_cli.specs.Generate.{MakingHands}
use Rattle.ol_cli.specs.Jobs.{AskFor, file_name}
use Rattle.ol_cli.specs.TermFiles.{FileHands}
use Rattle.ol_cli.specs.declared.status.Status.{Status}
use Rattle.ol_words.specs.declared.jobs.Job.TheVariants as jobs
use Rattle.ol_cli.specs.declared.status.Status.TheVariants as status

-- these are the file's bytes, no more than are read and all of which the source gave
abbrev pub ReadHands : Job → Seen → Status → List ℕ → Option ClosedTable → Type 0
ReadHands job s st text closed = (bytes : List ℕ)
    × Gave s 0 (file_name job) most_term_bytes bytes × FileHands job bytes st text closed

-- what a job hands back; `check` has no workers, and `net` and `equal` keep the words of theirs
abbrev pub JobHands : Job → Seen → Status → List ℕ → Option ClosedTable → Type 0
JobHands (jobs.Check translation term journal) s st text closed = closed ≡ None
JobHands (jobs.Gen translation runs k) s st text closed = MakingHands translation runs k st text closed
JobHands (jobs.Net translation false workers fuel name) s st text closed = closed ≡ None
JobHands (jobs.Equal translation workers fuel heads first second) s st text closed = closed ≡ None
JobHands job s st text closed = ReadHands job s st text closed

-- where the job was done or its fuel was spent, this; in every other case nothing is handed back
abbrev pub WhereEnded : Status → Option ClosedTable → Type 0 → Type 0
WhereEnded status.Done closed P = P
WhereEnded status.Spent closed P = P
WhereEnded _ closed P = closed ≡ None

-- the job is the one that the words ask for
abbrev pub WordsHand : List (String Global) → Seen → Status → List ℕ → Option ClosedTable → Type 0
WordsHand words s st text closed = (job : Job) × AskFor words job × JobHands job s st text closed

-- What the call hands back, and that this is told by the text that was appended.
abbrev pub Hands : List (String Global) → Seen → Status → Option ClosedTable → Option (List ℕ) →
    Option (List ℕ) → Type 0
Hands words s st closed old new = WhereEnded st closed
    ((text : List ℕ) × WordsHand words s st text closed × Appended old text new)
