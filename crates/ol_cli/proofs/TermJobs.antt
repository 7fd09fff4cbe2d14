-- What a job on a term file comes to, by what comes of that file, and by what is answered to its
-- term. Used by each command.
use Rattle.std.proofs.Common.{sym, subst, ◌≡◌, ℕ, List, Option, None, false, ◌∙◌}
use Rattle.std.specs.Prelude.{Result, Ok, Err, IfOk}
use Rattle.ol_limits.specs.declared.NoMemory.{NoMemory}
use Rattle.ol_term.specs.Trees.{tree_of}
use Rattle.ol_term.specs.declared.term_file.TermFile.{TermFile}
use Rattle.ol_term.specs.declared.translations.Translation.{Translation}
use Rattle.ol_net.specs.Graph.{Graph}
use Rattle.ol_wire.specs.Closed.{ClosedTable}
use Rattle.ol_words.specs.Texts.{Text}
use Rattle.ol_words.specs.declared.jobs.Job.{Job}
use Rattle.ol_words.specs.declared.jobs.Job.TheVariants as jobs
use Rattle.ol_cli.specs.declared.answer.Answer.{Answer}
use Rattle.ol_cli.specs.declared.ready.Ready.TheVariants as ready
use Rattle.ol_cli.specs.declared.status.Status.{Status}
use Rattle.ol_cli.specs.declared.status.Status.TheVariants.{Done, ReadFault, Limit}
use Rattle.ol_cli.specs.Jobs.{file_name, translation_in, TermHands}
use Rattle.ol_cli.specs.Cases.{HasTermFile, FileCause, by_file, by_net_file, CauseOf, failed, past, given, FileAnswer}
use Rattle.ol_cli.specs.Cases.{TermAnswer}
use Rattle.ol_cli.specs.Answers.{Seen}
use Rattle.ol_cli.specs.Net.{NetFileAnswer}
use Rattle.ol_limits.specs.Limits.{most_net_bytes}
use Rattle.ol_cli.specs.RefusalTexts.{net_bytes_text}
use Rattle.ol_cli.specs.Handed.{ReadHands, JobHands, WhereEnded}
use Rattle.ol_cli.specs.Inside.{ComesOf}
use Rattle.ol_cli.specs.Ready.{Refuses, RefusesTerm, ComesOfTerm}
use Rattle.ol_cli.proofs.Causes.{cause_map}
use Rattle.ol_cli.proofs.Handing.{file_hands, none_ended, read_hands, where_ended}
use Rattle.ol_cli.proofs.Readied.{refuses_answer, refuses_hands, term_answer}

-- ---- a file that is refused

-- a refusal is the cause of an answer, whatever the job
pub refused_cause : (job : Job) (s : Seen) (st : Status) (text : List ℕ) →
    RefusesTerm (translation_in job) s (file_name job) st text → FileCause job s st text
refused_cause job s st text r =
    cause_map s _ _ (file_name job) (Refuses (translation_in job)) (FileAnswer job) st text
    (λ bytes h. refuses_answer job bytes st text h) r

module _ (tr : Translation) (s : Seen) (name : Text) (text : List ℕ) where
  -- nothing is done with it,
  pub refused_undone : (st : Status) → RefusesTerm tr s name st text → st ≡ Done → ⊥
  refused_undone st (failed rose is e) done = let k : ReadFault ≡ Done = sym is ∙ done in cc
  refused_undone st (past same gave is e) done = let k : Limit ≡ Done = sym is ∙ done in cc
  refused_undone st (given same {bytes = bytes} gave h) done =
      subst (λ st. Refuses tr bytes st text) done h

  -- and nothing is handed back
  refused_closed : (st : Status) (closed : Option ClosedTable) (P : Type 0) →
      RefusesTerm tr s name st text → closed ≡ None → WhereEnded st closed P
  refused_closed st closed P (failed rose is e) none = subst (λ st. WhereEnded st closed P) (sym is) none
  refused_closed st closed P (past same gave is e) none = subst (λ st. WhereEnded st closed P) (sym is) none
  refused_closed st closed P (given same {bytes = bytes} gave h) none =
      refuses_hands tr bytes st text closed P h none

pub refused_comes : (job : Job) → HasTermFile job → (s : Seen) (a : Answer) →
    ComesOfTerm (translation_in job) s (file_name job) (ready.Refused a) → ComesOf job s a
refused_comes job has s a r = record {
  caused = by_file has (refused_cause job s a.status a.text.items r.0);
  closed =
      refused_closed (translation_in job) s (file_name job) a.text.items a.status a.closed
      (JobHands job s a.status a.text.items a.closed) r.0 r.1;
}

-- ---- a file whose term is answered

-- what is handed back of a job's term file is what the job hands back
job_hands : (job : Job) → HasTermFile job → (s : Seen) (st : Status) (text : List ℕ)
    (closed : Option ClosedTable) → ReadHands job s st text closed → JobHands job s st text closed
job_hands (jobs.Check tr term journal) has s st text closed h = h.2.3
job_hands (jobs.Gen tr runs k) has s st text closed h = absurd has
job_hands (jobs.Net tr false w f name) has s st text closed h = absurd has
job_hands (jobs.Equal tr w f q first second) has s st text closed h = absurd has
job_hands _ has s st text closed h = h

pub term_comes : (job : Job) → HasTermFile job → (s : Seen) (net : Graph) (file : TermFile) →
    ComesOfTerm (translation_in job) s (file_name job) (ready.Net net file) → (a : Answer) →
    TermAnswer job (tree_of file.term) file.names a.status a.text.items →
    TermHands job (tree_of file.term) file.names a.status a.text.items a.closed → ComesOf job s a
term_comes job has s net file (same, (bytes, gave, i)) a h closed =
    let t = tree_of file.term in
    let names = file.names in
    let st = a.status in
    let text = a.text.items in record {
      caused =
          by_file has
          (given same gave (term_answer job bytes t names i.term st text h));
      closed =
          where_ended st a.closed (ReadHands job s st text a.closed)
          (JobHands job s st text a.closed) (job_hands job has s st text a.closed)
          (read_hands job s bytes st text a.closed gave
          (file_hands job bytes t names i.term st text a.closed closed));
    }

-- the same of what a call has made, where it has
pub term_comes_if : (job : Job) → HasTermFile job → (s : Seen) (net : Graph) (file : TermFile) →
    ComesOfTerm (translation_in job) s (file_name job) (ready.Net net file) → (made : Result Answer NoMemory) →
    IfOk made (λ a. TermAnswer job (tree_of file.term) file.names a.status a.text.items) →
    IfOk made (λ a. TermHands job (tree_of file.term) file.names a.status a.text.items a.closed) →
    IfOk made (ComesOf job s)
term_comes_if job has s net file comes (Ok a) h closed = term_comes job has s net file comes a h closed
term_comes_if job has s net file comes (Err e) h closed = tt

-- ---- the file of a net

pub net_comes : (tr : Translation) (workers fuel : ℕ) (name : Text) (s : Seen) (a : Answer) →
    CauseOf s most_net_bytes net_bytes_text name (NetFileAnswer fuel) a.status a.text.items →
    a.closed ≡ None →
    ComesOf (jobs.Net tr false workers fuel name) s a
net_comes tr workers fuel name s a cause e = record {
  caused = by_net_file cause;
  closed = none_ended a.status a.closed e;
}
