-- Private: the words of public clauses case by case, as private contracts and proofs take them: what
-- a job answers to a term file, to its files, and to what the source gave. proofs/Views.antt
-- and proofs/Causing.antt lead from these to the public words and back.
use Rattle.std.specs.Prelude.{Bool, List, Some, String, length, true, false, ℕ, ◌+◌, ◌<◌, ◌≡◌, ◌≢◌, ◌≤◌}
use Rattle.std.specs.declared.alloc.Global.{Global}
use Rattle.ol_demand.specs.Demands.{HasMoreSteps}
use Rattle.ol_io.specs.Outside.{IsAllOf, IsLonger, Rose}
use Rattle.ol_net.specs.Graph.{Graph}
use Rattle.ol_readback.specs.Heads.{live}
use Rattle.ol_term.specs.Trees.{Tree}
use Rattle.ol_term.specs.declared.translations.Translation.{Translation}
use Rattle.ol_words.specs.declared.jobs.Job.{Job}
use Rattle.ol_words.specs.declared.jobs.Job.TheVariants as jobs
use Rattle.ol_words.specs.Texts.{Text}
use Rattle.ol_cli.specs.Answers.{Seen}
use Rattle.ol_cli.specs.Check.{JournalAnswer}
use Rattle.ol_cli.specs.Equal.{Compares, HasTree}
use Rattle.ol_cli.specs.Generate.{Makes}
use Rattle.ol_cli.specs.Jobs.{AskFor, AskForNothing, Files, OnTerm, file_name, translation_in}
use Rattle.ol_cli.specs.Net.{NetFileAnswer, NetRunEnds}
use Rattle.ol_cli.specs.RefusalTexts.{bytes_text, fault_text, journal_text, net_bytes_text}
use Rattle.ol_cli.specs.Run.{start_net_of_term}
use Rattle.ol_cli.specs.TermFiles.{IsTermFile, TermFileAnswer}
use Rattle.ol_cli.specs.Texts.{usage_text}
use Rattle.ol_cli.specs.declared.status.Status.{Status}
use Rattle.ol_cli.specs.declared.status.Status.TheVariants as status
use Rattle.ol_limits.specs.Limits.{most_term_bytes, most_journal_bytes, most_net_bytes, most_nodes}

-- the job has one file with a term; `net` has one with its flag alone, and `equal` has two
abbrev pub HasTermFile : Job → Type 0
HasTermFile (jobs.Gen translation runs k) = ⊥
HasTermFile (jobs.Net translation false workers fuel name) = ⊥
HasTermFile (jobs.Equal translation workers fuel heads first second) = ⊥
HasTermFile _ = Unit {0}

-- what a job answers to a term
abbrev pub TermAnswer : Job → Tree → List (List ℕ) → Status → List ℕ → Type 0
TermAnswer job = λ t names st text. OnTerm job (λ name translation Answers. Answers t names st text)

-- what a job answers to the bytes of its file
abbrev pub FileAnswer : Job → List ℕ → Status → List ℕ → Type 0
FileAnswer job = TermFileAnswer (translation_in job) (TermAnswer job)

-- the demand run has more than `fuel` steps
abbrev pub DemandRunsOut : Translation → Tree → List (List ℕ) → (fuel heads : ℕ) → Type 0
DemandRunsOut translation t names fuel heads =
    HasMoreSteps (start_net_of_term translation t names) heads fuel

-- the one-thread run ends within the fuel, and its net is too large to be printed
abbrev pub IsPastNodes : Graph → (fuel : ℕ) → Type 0
IsPastNodes graph fuel = (e : NetRunEnds graph fuel) × (most_nodes < live e.ends.net)

-- ---- the answer to a job

-- The answer to a job, where its files have these bytes: that to the file of its term; for `check`,
-- where that file is no refusal, the answer to its journal; for `gen` the text that is made, or the
-- answer of `run` to it; for `net` that to the file of a net; and for `equal` the answer of `run` to
-- the first file where it isn't Done, else to the second where it isn't Done, else the comparison.
pub data JobAnswer (files : Files) (st : Status) (text : List ℕ) : Job → Type 0 where
  of_file : {job : Job} {bytes : List ℕ} → HasTermFile job → files 0 (file_name job) ≡ Some bytes →
      FileAnswer job bytes st text → JobAnswer files st text job
  of_journal : {translation : Translation} {term journal : Text} {bytes trace : List ℕ} {t : Tree}
      {names : List (List ℕ)} →
      files 0 term ≡ Some bytes → IsTermFile translation bytes t names → files 1 journal ≡ Some trace →
      JournalAnswer translation t names trace st text → JobAnswer files st text (jobs.Check translation term journal)
  made : {translation : Translation} {runs : Bool} {k : ℕ} → Makes translation runs k st text →
      JobAnswer files st text (jobs.Gen translation runs k)
  of_net_file : {translation : Translation} {workers fuel : ℕ} {name : Text} {bytes : List ℕ} →
      files 0 name ≡ Some bytes →
      NetFileAnswer fuel bytes st text → JobAnswer files st text (jobs.Net translation false workers fuel name)
  of_first : {translation : Translation} {workers fuel heads : ℕ} {a b : Text} {bytes : List ℕ} →
      files 0 a ≡ Some bytes → st ≢ status.Done → FileAnswer (jobs.Run translation workers fuel heads a) bytes st text →
      JobAnswer files st text (jobs.Equal translation workers fuel heads a b)
  of_second : {translation : Translation} {workers fuel heads : ℕ} {a b : Text}
      {bytes bytes' : List ℕ} → files 0 a ≡ Some bytes →
      HasTree translation bytes fuel heads → files 1 b ≡ Some bytes' → st ≢ status.Done →
      FileAnswer (jobs.Run translation workers fuel heads b) bytes' st text →
      JobAnswer files st text (jobs.Equal translation workers fuel heads a b)
  of_both : {translation : Translation} {workers fuel heads : ℕ} {a b : Text}
      {bytes bytes' : List ℕ} → files 0 a ≡ Some bytes →
      (x : HasTree translation bytes fuel heads) → files 1 b ≡ Some bytes' →
      (y : HasTree translation bytes' fuel heads) → st ≡ status.Done →
      Compares x y text → JobAnswer files st text (jobs.Equal translation workers fuel heads a b)

-- ---- what the call did

abbrev pub seen : (faults faults' : ℕ) → Files → (given : ℕ) → Bool → Seen
seen faults faults' contents given ended = record {
  faults = faults;
  faults' = faults';
  contents = contents;
  given = given;
  ended = ended;
}

-- the same from the second reading on
abbrev pub on_second : Seen → Seen
on_second s = record s { contents = λ n. s.contents (n + 1) }

-- the source gave these bytes last, to their end and at most so many, and they are all bytes of the
-- name where it tells them
pub record GaveWithin (s : Seen) (most : ℕ) (name : Text) (bytes : List ℕ) : Type 0 where
  pub whole : IsAllOf (s.contents 0 name) bytes
  pub counted : length bytes ≡ s.given
  pub within : s.given ≤ most
  pub to_end : s.ended ≡ true

-- the source gave more bytes than this last
pub record GavePast (s : Seen) (most : ℕ) (name : Text) : Type 0 where
  pub past : most < s.given
  pub longer : IsLonger (s.contents 0 name) most

-- the same of a term file
abbrev pub GaveAll : Seen → Text → List ℕ → Type 0
GaveAll s name bytes = GaveWithin s most_term_bytes name bytes

-- What comes of a file, of which at most so many bytes are read: the source failed, it gave more,
-- or this is answered to all its bytes.
pub data CauseOf (s : Seen) (most : ℕ) (past_text : List ℕ) (name : Text) (Answers : List ℕ → Status → List ℕ → Type 0)
    (st : Status) (text : List ℕ) : Type 0 where
  failed : Rose s.faults s.faults' → st ≡ status.ReadFault → text ≡ fault_text →
      CauseOf s most past_text name Answers st text
  past : s.faults' ≡ s.faults → GavePast s most name → st ≡ status.Limit → text ≡ past_text →
      CauseOf s most past_text name Answers st text
  given : s.faults' ≡ s.faults → {bytes : List ℕ} → GaveWithin s most name bytes → Answers bytes st text →
      CauseOf s most past_text name Answers st text

-- what comes of a job's term file
abbrev pub FileCause : Job → Seen → Status → List ℕ → Type 0
FileCause job s = CauseOf s most_term_bytes bytes_text (file_name job) (FileAnswer job)

-- Each status of a job, where it comes, and its text: of its term file; of its journal file, once
-- the term file was read and is no refusal; of a text that is made; of the file of a net; or of two
-- term files, of which the second is begun once the first was read and is no refusal.
pub data JobCause (s : Seen) (st : Status) (text : List ℕ) : Job → Type 0 where
  by_file : {job : Job} → HasTermFile job → FileCause job s st text → JobCause s st text job
  by_journal : {translation : Translation} {term journal : Text} {bytes : List ℕ} {t : Tree}
      {names : List (List ℕ)} → IsAllOf (s.contents 0 term) bytes → IsTermFile translation bytes t names →
      CauseOf (on_second s) most_journal_bytes journal_text journal (JournalAnswer translation t names) st text →
      JobCause s st text (jobs.Check translation term journal)
  by_making : {translation : Translation} {runs : Bool} {k : ℕ} → s.faults' ≡ s.faults →
      Makes translation runs k st text → JobCause s st text (jobs.Gen translation runs k)
  by_net_file : {translation : Translation} {workers fuel : ℕ} {name : Text} →
      CauseOf s most_net_bytes net_bytes_text name (NetFileAnswer fuel) st text →
      JobCause s st text (jobs.Net translation false workers fuel name)
  by_first : {translation : Translation} {workers fuel heads : ℕ} {a b : Text} → st ≢ status.Done →
      FileCause (jobs.Run translation workers fuel heads a) s st text →
      JobCause s st text (jobs.Equal translation workers fuel heads a b)
  by_second : {translation : Translation} {workers fuel heads : ℕ} {a b : Text} {bytes : List ℕ} →
      IsAllOf (s.contents 0 a) bytes → HasTree translation bytes fuel heads → st ≢ status.Done →
      FileCause (jobs.Run translation workers fuel heads b) (on_second s) st text →
      JobCause s st text (jobs.Equal translation workers fuel heads a b)
  by_both : {translation : Translation} {workers fuel heads : ℕ} {a b : Text}
      {bytes bytes' : List ℕ} → s.faults' ≡ s.faults →
      IsAllOf (s.contents 0 a) bytes → (x : HasTree translation bytes fuel heads) → GaveAll (on_second s) b bytes' →
      (y : HasTree translation bytes' fuel heads) → st ≡ status.Done → Compares x y text →
      JobCause s st text (jobs.Equal translation workers fuel heads a b)

-- Each status, where it comes, and its text.
abbrev pub Cause : List (String Global) → Seen → Status → List ℕ → Type 0
Cause words s status.Usage text = AskForNothing words × (s.faults' ≡ s.faults) × (text ≡ usage_text)
Cause words s st text = (job : Job) × AskFor words job × JobCause s st text job
