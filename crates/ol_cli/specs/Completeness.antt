-- When a job can be done: where its files are within the limits and in the grammar, and its run ends within the fuel.
use Rattle.std.specs.Prelude.{◌≡◌, ◌⊎◌, ℕ, ◌≤◌, false, List, length, Option, Some, String}
use Rattle.std.specs.declared.alloc.Global.{Global}
use Rattle.ol_io.specs.Outside.{Appended}
use Rattle.ol_term.specs.Trees.{Tree}
use Rattle.ol_net.specs.Graph.{Graph}
use Rattle.ol_readback.specs.Heads.{live}
use Rattle.ol_words.specs.Texts.{Text}
use Rattle.ol_words.specs.declared.jobs.Job.{Job}
use Rattle.ol_words.specs.declared.jobs.Job.TheVariants as jobs
use Rattle.ol_cli.specs.declared.status.Status.{Status}
use Rattle.ol_cli.specs.declared.status.Status.TheVariants as status
use Rattle.ol_cli.specs.Jobs.{AskFor, EndsWithinFuel, Files, term_bytes, translation_in}
use Rattle.ol_cli.specs.Answers.{IsAnswer}
use Rattle.ol_cli.specs.TermFiles.{IsTermFile}
use Rattle.ol_cli.specs.Net.{IsNetFile, NetRunEnds}
use Rattle.ol_limits.specs.Limits.{most_journal_bytes, most_nodes}

-- the bytes of the job's term are told, in the grammar and within the limits, and its run ends within the fuel
pub record HasTermWithin (files : Text → Option (List ℕ)) (job : Job) : Type 0 where
  pub bytes : List ℕ
  pub term : Tree
  pub names : List (List ℕ)
  pub told : term_bytes files job ≡ Some bytes
  pub file : IsTermFile (translation_in job) bytes term names
  pub ends : EndsWithinFuel job term names

-- the bytes of a journal file are told, and no more than are read
abbrev pub HasJournalWithin : (Text → Option (List ℕ)) → Text → Type 0
HasJournalWithin files name = (journal : List ℕ) × (files name ≡ Some journal) × (length journal ≤ most_journal_bytes)

-- the bytes of a file with a net are told, no more than are read, and they are the text of a net
-- whose run ends within the fuel, with few nodes left
pub record HasNetWithin (files : Text → Option (List ℕ)) (name : Text) (fuel : ℕ) : Type 0 where
  pub bytes : List ℕ
  pub net : Graph
  pub told : files name ≡ Some bytes
  pub file : IsNetFile bytes net
  pub ends : NetRunEnds net fuel
  pub few : live ends.ends.net ≤ most_nodes

-- The job can be done, its files having these bytes. A term that is only made can always be. Two
-- terms can be compared where `run` can be done on both.
abbrev pub CanDo : Files → Job → Type 0
CanDo files (jobs.Gen translation false k) = Unit {0}
CanDo files (jobs.Check translation term journal) =
    HasTermWithin (files 0) (jobs.Check translation term journal) × HasJournalWithin (files 1) journal
CanDo files (jobs.Net translation false workers fuel name) = HasNetWithin (files 0) name fuel
CanDo files (jobs.Equal translation workers fuel heads first second) =
    HasTermWithin (files 0) (jobs.Run translation workers fuel heads first)
    × HasTermWithin (files 1) (jobs.Run translation workers fuel heads second)
CanDo files job = HasTermWithin (files 0) job

-- the words ask for a job that can be done
abbrev pub AskForWhatCanBeDone : List (String Global) → Files → Type 0
AskForWhatCanBeDone words files = (job : Job) × AskFor words job × CanDo files job

-- The job was done and its answer's text was written whole, or no memory was found and nothing was written.
abbrev pub IsDoneOrNothing : List (String Global) → Files → Status → Option (List ℕ) → Option (List ℕ) → Type 0
IsDoneOrNothing words files st old new =
    ((st ≡ status.Done) × ((text : List ℕ) × IsAnswer words files status.Done text × Appended old text new))
    ⊎ ((st ≡ status.NoMemory) × (new ≡ old))
