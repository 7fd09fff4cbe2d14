-- Private: words of private contracts alone, which no clause of a public call needs: what is asked
-- of a job within the call, and what is kept of it there.
use Rattle.std.specs.Prelude.{◌≡◌, ℕ, ◌≤◌, ◌⊎◌, List, [], length, take, Option, None, Some, Result, Ok, Err, String}
use Rattle.std.specs.declared.alloc.Global.{Global}
use Rattle.ol_io.specs.Outside.{Rose, Appended}
use Rattle.ol_limits.specs.declared.NoMemory.{NoMemory}
use Rattle.ol_term.specs.declared.translations.Translation.{Translation}
use Rattle.ol_term.specs.Trees.{Tree, tree_of}
use Rattle.ol_term.specs.declared.term_file.TermFile.{TermFile}
use Rattle.ol_wire.specs.Closed.{ClosedTable}
use Rattle.ol_readback.specs.declared.answers.ReadNode.{ReadNode}
use Rattle.ol_words.specs.Texts.{Text}
use Rattle.ol_words.specs.declared.jobs.Job.{Job}
use Rattle.ol_words.specs.declared.jobs.Job.TheVariants as jobs
use Rattle.ol_cli.specs.declared.numbers.RunNumbers.{RunNumbers}
use Rattle.ol_cli.specs.declared.answer.Answer.{Answer}
use Rattle.ol_cli.specs.declared.top.Outcome.{Outcome}
use Rattle.ol_cli.specs.declared.status.Status.{Status}
use Rattle.ol_cli.specs.declared.status.Status.TheVariants as status
use Rattle.ol_cli.specs.Jobs.{TermHands}
use Rattle.ol_cli.specs.Run.{RunsOut, ReadsLast, start_net_of_term}
use Rattle.ol_cli.specs.Answers.{Seen}
use Rattle.ol_cli.specs.Cases.{JobCause, Cause, TermAnswer}
use Rattle.ol_cli.specs.Handed.{JobHands, WhereEnded, WordsHand}

-- the jobs of these numbers, on files of these names
abbrev pub run_on : RunNumbers → Text → Job
run_on n name = jobs.Run n.translation n.workers.count n.fuel.most n.heads.most name

abbrev pub certify_on : RunNumbers → (steps : ℕ) → Text → Job
certify_on n steps name = jobs.Certify n.translation steps n.workers.count n.fuel.most n.heads.most name

abbrev pub equal_on : RunNumbers → (first second : Text) → Job
equal_on n first second = jobs.Equal n.translation n.workers.count n.fuel.most n.heads.most first second

-- the same of jobs on a term, where the name doesn't matter
abbrev pub run_by : RunNumbers → Job
run_by n = run_on n []

abbrev pub certify_by : RunNumbers → (steps : ℕ) → Job
certify_by n steps = certify_on n steps []

abbrev pub walk_by : Translation → (edges heads : ℕ) → Job
walk_by translation edges heads = jobs.Walk translation edges heads []

abbrev pub demand_by : Translation → (fuel heads : ℕ) → Job
demand_by translation fuel heads = jobs.Demand translation fuel heads []

-- what a job answers to the term of a file,
abbrev pub AnswersTerm : Job → TermFile → Status → List ℕ → Type 0
AnswersTerm job file st text = TermAnswer job (tree_of file.term) file.names st text

-- and what is handed back with it
abbrev pub HandsOfTerm : Job → TermFile → Status → List ℕ → Option ClosedTable → Type 0
HandsOfTerm job file st text closed = TermHands job (tree_of file.term) file.names st text closed

-- The one-thread run ends within the fuel and this tree is read from its last net; or it is longer,
-- and there is no tree.
abbrev pub ReadsOrRunsOut : Translation → Tree → List (List ℕ) → (fuel heads : ℕ) → Option (List ReadNode) → Type 0
ReadsOrRunsOut translation t names fuel heads None = RunsOut (start_net_of_term translation t names) fuel
ReadsOrRunsOut translation t names fuel heads (Some tree) = ReadsLast translation t names fuel heads tree

-- ---- what a job comes to

-- What a job comes to: its answer has its cause, and hands back what the job does.
pub record ComesOf (job : Job) (s : Seen) (a : Answer) : Type 0 where
  pub caused : JobCause s a.status a.text.items job
  pub closed : WhereEnded a.status a.closed (JobHands job s a.status a.text.items a.closed)

-- the same of the job that the words ask for, or of the usage
pub record ComesOfWords (words : List (String Global)) (s : Seen) (a : Answer) : Type 0 where
  pub caused : Cause words s a.status a.text.items
  pub closed : WhereEnded a.status a.closed (WordsHand words s a.status a.text.items a.closed)

-- How the call ends: where there is no answer, for want of memory, nothing is written; else its text
-- is appended whole, and what it hands back is handed on, or the sink failed and took a prefix of it.
abbrev pub Writes : Result Answer NoMemory → Outcome → (faults faults' : ℕ) → Option (List ℕ) → Option (List ℕ) → Type 0
Writes (Err e) o faults faults' old new =
    (o ≡ record { status = status.NoMemory; closed = None }) × (faults' ≡ faults) × (new ≡ old)
Writes (Ok a) o faults faults' old new = ((o ≡ record { status = a.status; closed = a.closed }) × (faults' ≡ faults)
    × Appended old a.text.items new)
    ⊎ ((o ≡ record { status = status.WriteFault; closed = None }) × Rose faults faults'
    × ((taken : ℕ) × (taken ≤ length a.text.items) × Appended old (take taken a.text.items) new))
