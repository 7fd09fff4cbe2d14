-- What is handed back of a term is handed back of its file, of the source's bytes, and of the words.
use Rattle.std.proofs.Common.{◌≡◌, ℕ, List, length, Option, None, String, Global, count_by, is_some, sym, ap, ◌∙◌, inl}
use Rattle.ol_io.specs.Outside.{Appended}
use Rattle.ol_term.specs.Trees.{Tree}
use Rattle.ol_net.specs.declared.parts.Kind.{Kind}
use Rattle.ol_net.specs.Numbered.{all_live}
use Rattle.ol_net.specs.Graph.{Graph}
use Rattle.ol_net.proofs.Linking.{length-all_live, count_by-all_live}
use Rattle.ol_wire.specs.Closed.{ClosedTable}
use Rattle.ol_words.specs.declared.jobs.Job.{Job}
use Rattle.ol_words.specs.declared.jobs.Job.TheVariants as jobs
use Rattle.ol_cli.specs.declared.status.Status.{Status}
use Rattle.ol_cli.specs.declared.status.Status.TheVariants as status
use Rattle.ol_cli.specs.Jobs.{AskFor, TermHands, file_name, translation_in}
use Rattle.ol_cli.specs.TermFiles.{IsTermFile, FileHands}
use Rattle.ol_cli.specs.Answers.{Seen}
use Rattle.ol_cli.specs.Run.{journal_of}
use Rattle.ol_cli.proofs.Statuses.{IsOfTerm, ended_status}
use Rattle.ol_cli.specs.Cases.{GaveAll}
use Rattle.ol_cli.specs.Handed.{ReadHands, JobHands, WordsHand, WhereEnded}

-- ---- the net that is handed to the workers

pub whole_net : (net : Graph) (parts : List (Kind × ℕ)) → net.nodes ≡ all_live parts →
    count_by is_some net.nodes ≡ length net.nodes
whole_net net parts e = ap (count_by is_some) e ∙ count_by-all_live parts
    ∙ sym (length-all_live parts) ∙ sym (ap length e)

-- ---- what is handed back

pub where_ended : (st : Status) (closed : Option ClosedTable) (P Q : Type 0) → (P → Q) →
    WhereEnded st closed P → WhereEnded st closed Q
where_ended status.Done closed P Q f h = f h
where_ended status.Spent closed P Q f h = f h
where_ended _ closed P Q f h = h

-- where no job ends so, nothing is handed back
none_at : (job : Job) (t : Tree) (names : List (List ℕ)) (st : Status) (text : List ℕ) (closed : Option ClosedTable) →
    (IsOfTerm st → ⊥) → TermHands job t names st text closed → closed ≡ None
none_at (jobs.Run tr workers fuel heads name) t names st text closed isnt h =
    absurd (isnt (ended_status fuel (journal_of h.0) h.2 st h.4))
none_at (jobs.Trace tr workers fuel name) t names st text closed isnt h =
    absurd (isnt (ended_status fuel (journal_of h.0) h.2 st h.4))
none_at _ t names st text closed isnt h = h

-- what is handed back of a term is handed back of its file
pub file_hands : (job : Job) (bytes : List ℕ) (t : Tree) (names : List (List ℕ)) →
    IsTermFile (translation_in job) bytes t names → (st : Status) (text : List ℕ) (closed : Option ClosedTable) →
    TermHands job t names st text closed → WhereEnded st closed (FileHands job bytes st text closed)
file_hands job bytes t names i status.Done text closed h = (t, names, i, h)
file_hands job bytes t names i status.Spent text closed h = (t, names, i, h)
file_hands job bytes t names i st text closed h = none_at job t names st text closed (λ ended. ended) h

-- where nothing is handed back, nothing is
pub none_ended : (st : Status) (closed : Option ClosedTable) → closed ≡ None → WhereEnded st closed (closed ≡ None)
none_ended status.Done closed h = h
none_ended _ closed h = h

pub read_hands : (job : Job) (s : Seen) (bytes : List ℕ) (st : Status) (text : List ℕ)
    (closed : Option ClosedTable) → GaveAll s (file_name job) bytes →
    WhereEnded st closed (FileHands job bytes st text closed) →
    WhereEnded st closed (ReadHands job s st text closed)
read_hands job s bytes st text closed gave h = where_ended st closed
    (FileHands job bytes st text closed) (ReadHands job s st text closed)
    (λ h. (bytes, (gave.whole, inl (gave.counted, gave.within, gave.to_end)), h)) h

pub words_hand : (words : List (String Global)) (job : Job) (s : Seen) (st : Status)
    (text : List ℕ) (closed : Option ClosedTable) → AskFor words job →
    WhereEnded st closed (JobHands job s st text closed) → WhereEnded st closed (WordsHand words s st text closed)
words_hand words job s st text closed j h = where_ended st closed
    (JobHands job s st text closed) (WordsHand words s st text closed) (λ h. (job, j, h)) h

pub text_hands : (words : List (String Global)) (s : Seen) (st : Status) (text : List ℕ)
    (closed : Option ClosedTable) (old new : Option (List ℕ)) → Appended old text new →
    WhereEnded st closed (WordsHand words s st text closed) →
    WhereEnded st closed ((text : List ℕ) × WordsHand words s st text closed × Appended old text new)
text_hands words s st text closed old new written h =
    where_ended st closed (WordsHand words s st text closed)
    ((text : List ℕ) × WordsHand words s st text closed × Appended old text new) (λ h. (text, h, written)) h
