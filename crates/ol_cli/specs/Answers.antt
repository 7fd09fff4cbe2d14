-- The answer to a list of words and to the bytes of the files that they name: a text and a status,
-- by the order of refusals; and what a call does, by what its source and its sink did.
use Rattle.std.specs.Prelude.{Bool, List, Option, Some, String, codes, false, length, take, true}
use Rattle.std.specs.Prelude.{ℕ, ◌<◌, ◌≡◌, ◌≢◌, ◌≤◌, ◌⊎◌, ◌^◌}
use Rattle.std.specs.declared.alloc.Global.{Global}
use Rattle.ol_io.specs.Outside.{Appended, IsAllOf, Rose}
use Rattle.ol_term.specs.Trees.{Tree}
use Rattle.ol_words.specs.declared.jobs.Job.{Job}
use Rattle.ol_words.specs.declared.jobs.Job.TheVariants as jobs
use Rattle.ol_words.specs.Texts.{Text}
use Rattle.ol_cli.specs.Check.{JournalAnswer}
use Rattle.ol_cli.specs.Equal.{Compares, HasTree}
use Rattle.ol_cli.specs.Generate.{Makes}
use Rattle.ol_cli.specs.Jobs.{AskFor, AskForNothing, Files, HasFile, OnTerm}
use Rattle.ol_cli.specs.Net.{NetFileAnswer}
use Rattle.ol_cli.specs.Run.{RunAnswer}
use Rattle.ol_cli.specs.TermFiles.{IsTermFile, TermFileAnswer}
use Rattle.ol_cli.specs.Texts.{line, usage_text}
use Rattle.ol_cli.specs.declared.status.Status.{Status}
use Rattle.ol_cli.specs.declared.status.Status.TheVariants as status
use Rattle.ol_limits.specs.Limits.{most_term_bytes, most_journal_bytes, most_net_bytes}

-- the number that a process ends with
abbrev pub status_number : Status → ℕ
status_number status.Done = 0
status_number status.Usage = 1
status_number status.Syntax = 2
status_number status.Spent = 3
status_number status.ReadFault = 4
status_number status.WriteFault = 5
status_number status.NoMemory = 6
status_number status.Limit = 7
status_number status.BadNet = 9

-- What a job answers to its files: `IsFirst name bytes` says what a file's bytes are after which
-- another is read, and `IsLast place name most bytes` those of one after which none is, the one in
-- this place, of which at most so many bytes are read. `gen` answers the text that it makes, or what
-- `run` answers to that; `net` without its flag answers a net. `check` refuses its term file, or has
-- its term and answers the journal. `equal` answers what `run` does to its first file where that
-- isn't Done, else to its second where that isn't Done, else the comparison of what the two are read
-- back to. Any other job answers the term of its one file.
abbrev pub AnswerOf : (IsFirst : Text → List ℕ → Type 0) →
    (IsLast : ℕ → Text → ℕ → List ℕ → Type 0) → Job → Status → List ℕ → Type 0
AnswerOf IsFirst IsLast (jobs.Gen translation runs k) st text = Makes translation runs k st text
AnswerOf IsFirst IsLast (jobs.Net translation false workers fuel name) st text =
    (bytes : List ℕ) × IsLast 0 name most_net_bytes bytes × NetFileAnswer fuel bytes st text
AnswerOf IsFirst IsLast (jobs.Check translation term journal) st text =
    ((bytes : List ℕ) × IsLast 0 term most_term_bytes bytes
    × TermFileAnswer translation (λ t names st text. ⊥) bytes st text)
    ⊎ ((bytes trace : List ℕ) × (t : Tree) × (names : List (List ℕ))
    × IsFirst term bytes × IsTermFile translation bytes t names
    × IsLast 1 journal most_journal_bytes trace × JournalAnswer translation t names trace st text)
AnswerOf IsFirst IsLast (jobs.Equal translation workers fuel heads a b) st text =
    ((bytes : List ℕ) × IsLast 0 a most_term_bytes bytes × (st ≢ status.Done)
    × TermFileAnswer translation (RunAnswer translation fuel heads) bytes st text)
    ⊎ ((bytes bytes' : List ℕ) × IsFirst a bytes × (x : HasTree translation bytes fuel heads)
    × IsLast 1 b most_term_bytes bytes' × (((st ≢ status.Done)
    × TermFileAnswer translation (RunAnswer translation fuel heads) bytes' st text)
    ⊎ ((y : HasTree translation bytes' fuel heads) × (st ≡ status.Done) × Compares x y text)))
AnswerOf IsFirst IsLast job st text = OnTerm job (λ name translation Answers. (bytes : List ℕ)
    × IsLast 0 name most_term_bytes bytes × TermFileAnswer translation Answers bytes st text)

-- the same, where the files have these bytes, each when it is read
abbrev pub AnswerTo : Files → Job → Status → List ℕ → Type 0
AnswerTo files = AnswerOf (λ name bytes. files 0 name ≡ Some bytes)
    (λ place name most bytes. files place name ≡ Some bytes)

-- The first of a job's two files is refused for its bytes: that of `check` is no term file, and
-- with that of `equal` `run` isn't Done.
abbrev pub RefusesFirst : (Text → Option (List ℕ)) → Job → Type 0
RefusesFirst files (jobs.Check translation term journal) = (bytes : List ℕ) × (files term ≡ Some bytes)
    × ((st : Status) × (text : List ℕ)
    × TermFileAnswer translation (λ t names st text. ⊥) bytes st text)
RefusesFirst files (jobs.Equal translation workers fuel heads a b) = (bytes : List ℕ) × (files a ≡ Some bytes)
    × ((st : Status) × (text : List ℕ) × (st ≢ status.Done)
    × TermFileAnswer translation (RunAnswer translation fuel heads) bytes st text)
RefusesFirst files _ = ⊥

-- The answer to these words, where nothing fails and the files have these bytes, each when it is read.
abbrev pub IsAnswer : List (String Global) → Files → Status → List ℕ → Type 0
IsAnswer words files status.Usage text = AskForNothing words × (text ≡ usage_text)
IsAnswer words files st text = (job : Job) × AskFor words job × AnswerTo files job st text

-- ---- what the call did

-- What a source did in the call: its count of faults before and after, the bytes of each name at
-- each reading where they are told, how many it gave last, and whether it came to the end.
pub record Seen : Type 0 where
  pub faults : ℕ
  pub faults' : ℕ
  pub contents : Files
  pub given : ℕ
  pub ended : Bool

-- These are all bytes of the name at its place, where the source tells them. It gave them last, to
-- their end and at most so many; or it gave more than so many, as there are more.
abbrev pub Gave : Seen → (place : ℕ) → Text → (most : ℕ) → List ℕ → Type 0
Gave s place name most bytes = IsAllOf (s.contents place name) bytes
    × (((length bytes ≡ s.given) × (s.given ≤ most) × (s.ended ≡ true))
    ⊎ ((most < s.given) × (most < length bytes)))

-- Each status, where it comes, and its text: the words ask for nothing; the source failed, where
-- the job has a file; or this is answered to what the source gave.
abbrev pub HasCause : List (String Global) → Seen → Status → List ℕ → Type 0
HasCause words s status.Usage text =
    (s.faults' ≡ s.faults) × AskForNothing words × (text ≡ usage_text)
HasCause words s status.ReadFault text = Rose s.faults s.faults'
    × (text ≡ line (codes "read fault")) × ((job : Job) × AskFor words job × HasFile job)
HasCause words s st text = (s.faults' ≡ s.faults) × ((job : Job) × AskFor words job
    × AnswerOf (λ name. IsAllOf (s.contents 0 name)) (Gave s) job st text)

-- The text of a status is appended whole and the status is told, or the sink failed and took a prefix of it.
abbrev pub Told : Status → List ℕ → Status → (faults faults' : ℕ) → Option (List ℕ) → Option (List ℕ) → Type 0
Told st text status.WriteFault faults faults' old new =
    Rose faults faults' × ((taken : ℕ) × (taken ≤ length text) × Appended old (take taken text) new)
Told st text result faults faults' old new = (result ≡ st) × (faults' ≡ faults) × Appended old text new

-- The whole of what the call did: want of memory, for whatever cause, and nothing written; or another status with its
-- cause, whose text, of fewer than 2^64 bytes, was told.
abbrev pub Ends : (Cause : Status → List ℕ → Type 0) → Status → (faults faults' : ℕ) →
    Option (List ℕ) → Option (List ℕ) → Type 0
Ends Cause status.NoMemory faults faults' old new = (new ≡ old) × (faults' ≡ faults)
Ends Cause result faults faults' old new =
    (st : Status) × (text : List ℕ) × Cause st text × Told st text result faults faults' old new × (length text < 2 ^ 64)
