-- What follows from the causes of the statuses.
use Rattle.std.proofs.Common.{◌≡◌, ◌≢◌, ℕ, ◌<◌, ◌≤◌, Bool, true, false, List, Option, Some, refl, sym, ap, ◌∙◌, subst}
use Rattle.std.proofs.Common.{inl, inr, ◌⊎◌, arith, String, Global, Vec, Ok, ◌↔◌}
use Rattle.std.specs.Option.{option_map_or}
use Rattle.std.specs.Result.{IsErrOf}
use Rattle.ol_io.specs.declared.calls.ReadAll.{ReadAll}
use Rattle.ol_io.specs.declared.calls.ReadAll.TheVariants.{TooLong}
use Rattle.ol_io.specs.Outside.{Rose, Appended}
use Rattle.ol_term.specs.declared.translations.Translation.{Translation}
use Rattle.ol_term.specs.Trees.{Tree}
use Rattle.ol_term.specs.Generated.{doubled_text}
use Rattle.ol_words.specs.Texts.{Text}
use Rattle.ol_words.specs.declared.jobs.Job.{Job}
use Rattle.ol_words.specs.declared.jobs.Job.TheVariants as jobs
use Rattle.ol_cli.specs.declared.status.Status.{Status}
use Rattle.ol_cli.specs.declared.status.Status.TheVariants.{Done, Usage, ReadFault, WriteFault, NoMemory}
use Rattle.ol_cli.specs.Jobs.{AskFor, AskForNothing, Files, AreTold, TellsFiles, count_of_files, files_of, file_name}
use Rattle.ol_cli.specs.Cases.{HasTermFile, TermAnswer, FileAnswer, JobAnswer, of_file, of_journal, made, seen}
use Rattle.ol_cli.specs.Cases.{on_second, FileCause, JobCause, by_file, by_journal, by_making, by_net_file, by_first}
use Rattle.ol_cli.specs.Cases.{by_second, by_both, of_net_file, of_first, of_second, of_both, Cause, CauseOf}
use Rattle.ol_cli.specs.TermFiles.{IsTermFile}
use Rattle.ol_cli.specs.Check.{JournalAnswer}
use Rattle.ol_cli.specs.Answers.{IsAnswer, Seen, Ends, AnswerTo}
use Rattle.ol_cli.specs.Equal.{HasTree}
use Rattle.ol_cli.specs.Generate.{plain_run}
use Rattle.ol_cli.specs.Net.{NetFileAnswer}
use Rattle.ol_cli.specs.Net as net_answers
use Rattle.ol_cli.proofs.NetFiles.{IsOfNet, net_file_status}
use Rattle.ol_cli.proofs.Views.{answer_of}
use Rattle.ol_cli.proofs.TermLaws.{laws}
use Rattle.ol_cli.proofs.Statuses.{IsOfTerm}
use Rattle.ol_cli.proofs.Causes.{IsTold, cause_ended, cause_risen, cause_rose, cause_told, same_read, told_answer}

-- where all bytes were given, they are within the limit
pub within_ok : (bytes : Vec ℕ Global) (most given : ℕ) →
    IsErrOf {T = Vec ℕ Global} {E = ReadAll} (Ok bytes) TooLong ↔ (most < given) → given ≤ most
within_ok bytes most given h = elim (which most given) [ inl past ↦ absurd (no (h.1 past)) | inr w ↦ w ]
  where
    which : (most given : ℕ) → (most < given) ⊎ (given ≤ most)
    which most given = grind arith

    no : IsErrOf {T = Vec ℕ Global} {E = ReadAll} (Ok bytes) TooLong → ⊥
    no h = absurd (cc)

pub term_status : (job : Job) (t : Tree) (names : List (List ℕ)) (st : Status) (text : List ℕ) →
    TermAnswer job t names st text → IsOfTerm st
term_status job t names st text h = (laws job t names).status st text h

-- the statuses of what is answered to the bytes of a term file, of a journal file and of a net file
file_told : (job : Job) (bytes : List ℕ) (st : Status) (text : List ℕ) → FileAnswer job bytes st text → IsTold st
file_told job bytes Usage text h = absurd (term_status job h.0 h.1 Usage text h.3)
file_told job bytes WriteFault text h = absurd (term_status job h.0 h.1 WriteFault text h.3)
file_told job bytes NoMemory text h = absurd (term_status job h.0 h.1 NoMemory text h.3)
file_told job bytes _ text h = tt

pub file_no_fault : (job : Job) (text : List ℕ) (bytes : List ℕ) → FileAnswer job bytes ReadFault text → ⊥
file_no_fault job text bytes h = term_status job h.0 h.1 ReadFault text h.3

journal_told : (tr : Translation) (t : Tree) (names : List (List ℕ)) (bytes : List ℕ) (st : Status)
    (text : List ℕ) → JournalAnswer tr t names bytes st text → IsTold st
journal_told tr t names bytes Usage text h = h
journal_told tr t names bytes WriteFault text h = h
journal_told tr t names bytes NoMemory text h = h
journal_told tr t names bytes _ text h = tt

net_told : (st : Status) → IsOfNet st → IsTold st
net_told Usage h = h
net_told WriteFault h = h
net_told NoMemory h = h
net_told _ h = tt

-- the status of a job's answer is one of an answer
pub job_told : (s : Seen) (st : Status) (text : List ℕ) (job : Job) → JobCause s st text job → IsTold st
job_told s st text job (by_file has c) = cause_told s _ _ _ (FileAnswer job) text st
    (λ bytes h. file_told job bytes st text h) c
job_told s st text _ (by_journal {translation = tr} {t = t} {names = names} whole i c) =
    cause_told (on_second s) _ _ _ (JournalAnswer tr t names) text st
    (λ bytes h. journal_told tr t names bytes st text h) c
job_told s st text _ (by_making {runs = false} same m) = subst IsTold (sym m.0) tt
job_told s st text _ (by_making {translation = tr} {runs = true} {k = k} same m) = file_told
    (plain_run tr) (doubled_text k) st text m
job_told s st text _ (by_net_file {fuel = fuel} c) =
    cause_told s _ _ _ (NetFileAnswer fuel) text st (λ bytes h. net_told st (net_file_status fuel bytes st text h)) c
job_told s st text _ (by_first {translation = tr} {workers = w} {fuel = f} {heads = q} {a = a} isnt c) =
    cause_told s _ _ _ (FileAnswer (jobs.Run tr w f q a)) text st (λ bytes h. file_told (jobs.Run tr w f q a) bytes st text h) c
job_told s st text _ (by_second {translation = tr} {workers = w} {fuel = f} {heads = q} {b = b} whole t isnt c) =
    cause_told (on_second s) _ _ _ (FileAnswer (jobs.Run tr w f q b)) text st
    (λ bytes h. file_told (jobs.Run tr w f q b) bytes st text h) c
job_told s st text _ (by_both same whole t gave u is k) = subst IsTold (sym is) tt

-- the cause of a job's answer is that of the words
pub job_cause : (words : List (String Global)) (s : Seen) (job : Job) (st : Status)
    (text : List ℕ) → AskFor words job → JobCause s st text job → Cause words s st text
job_cause words s job Usage text j c = absurd (job_told s Usage text job c)
job_cause words s job _ text j c = (job, j, c)

-- ---- where the source tells the bytes of the files

-- the bytes of the term file are told
told_first : (contents : Files) (job : Job) → HasTermFile job → AreTold contents job →
    (bytes : List ℕ) × (contents 0 (file_name job) ≡ Some bytes)
told_first contents (jobs.Gen tr runs k) has e = absurd has
told_first contents (jobs.Net tr false w f name) has e = absurd has
told_first contents (jobs.Equal tr w f q first second) has e = absurd has
told_first contents _ has e = e 0 _ refl

-- and those of the journal file
told_second : (tr : Translation) (contents : Files) (term journal : Text) →
    AreTold contents (jobs.Check tr term journal) → (bytes : List ℕ) × (contents 1 journal ≡ Some bytes)
told_second tr contents term journal e = e 1 journal refl

-- the same tree, of the same bytes
abbrev moved : (tr : Translation) (a b : List ℕ) (fuel heads : ℕ) → a ≡ b →
    HasTree tr a fuel heads → HasTree tr b fuel heads
moved tr a b fuel heads e h = record {
  term = h.term;
  names = h.names;
  tree = h.tree;
  file = subst (λ b. IsTermFile tr b h.term h.names) e h.file;
  read = h.read;
}

-- what comes of a term file is what its bytes are answered
file_answer : (s : Seen) → (Rose s.faults s.faults' → ⊥) → (job : Job) (bytes : List ℕ) →
    s.contents 0 (file_name job) ≡ Some bytes → (st : Status) (text : List ℕ) →
    FileCause job s st text → FileAnswer job bytes st text
file_answer s quiet job bytes told st text c =
    told_answer s _ _ _ (FileAnswer job) text quiet bytes told st
    (λ l is e. subst (λ st. FileAnswer job bytes st text) (sym is) (inl (l, e))) c

module _ (words : List (String Global)) (f f' given : ℕ) (contents : Files) (ended : Bool) (quiet : Rose f f' → ⊥) where
  abbrev pub at_hand : Seen
  at_hand = record { faults = f; faults' = f'; contents = contents; given = given; ended = ended }

  job_answer : (job : Job) → AreTold contents job → (st : Status) (text : List ℕ) →
      JobCause at_hand st text job → JobAnswer contents st text job
  job_answer job e st text (by_file has c) = let b = told_first contents job has e in
      of_file has b.1 (file_answer at_hand quiet job b.0 b.1 st text c)
  job_answer _ e st text (by_journal {translation = tr} {term = term} {journal = journal}
      {bytes = bytes} {t = t} {names = names} whole i c) =
      let b = told_first contents (jobs.Check tr term journal) tt e in
      let d = told_second tr contents term journal e in
      of_journal b.1 (subst (λ b. IsTermFile tr b t names) (same_read (contents 0 term) bytes b.0 b.1 whole) i) d.1
      (told_answer (on_second at_hand) _ _ _ (JournalAnswer tr t names) text quiet d.0 d.1 st
      (λ l is e. subst (λ st. JournalAnswer tr t names d.0 st text) (sym is) (l, e)) c)
  job_answer _ e st text (by_making same m) = made m
  job_answer _ e st text (by_net_file {fuel = fuel} {name = name} c) = let b = e 0 name refl in
      of_net_file b.1 (told_answer at_hand _ _ _ (NetFileAnswer fuel) text quiet b.0 b.1 st
      (λ l is e. net_answers.long l is e) c)
  job_answer _ e st text (by_first {translation = tr} {workers = w} {fuel = f} {heads = q} {a = a} isnt c) =
      let d = e 0 a refl in of_first d.1 isnt (file_answer at_hand quiet (jobs.Run tr w f q a) d.0 d.1 st text c)
  job_answer _ e st text (by_second {translation = tr} {workers = w} {fuel = f} {heads = q} {a = a}
      {b = b} {bytes = bytes} whole t isnt c) =
      let d = e 0 a refl in
      let g = e 1 b refl in
      of_second d.1 (moved tr bytes d.0 f q
      (same_read (contents 0 a) bytes d.0 d.1 whole) t) g.1 isnt
      (file_answer (on_second at_hand) quiet (jobs.Run tr w f q b) g.0 g.1 st text c)
  job_answer _ e st text (by_both {translation = tr} {fuel = f} {heads = q} {a = a} {b = b}
      {bytes = m} {bytes' = n} same whole t gave u is h) =
      let d = e 0 a refl in
      let g = e 1 b refl in
      of_both d.1 (moved tr m d.0 f q (same_read (contents 0 a) m d.0 d.1 whole) t) g.1
      (moved tr n g.0 f q (same_read (contents 1 b) n g.0 g.1 gave.whole) u) is h

  module _ (tells : TellsFiles contents words) where
    words_answer : (st : Status) (text : List ℕ) → (job : Job) × AskFor words job × JobCause at_hand st text job →
        (job : Job) × AskFor words job × AnswerTo contents job st text
    words_answer st text c = (c.0, c.1, answer_of contents st text c.0 (job_answer c.0 (tells c.0 c.1) st text c.2))

    pub cause_answer : (st : Status) (text : List ℕ) → Cause words at_hand st text → IsAnswer words contents st text
    cause_answer Usage text c = (c.0, c.2)
    cause_answer st text c = words_answer st text c

    told : (r st : Status) (text : List ℕ) (g g' : ℕ) (old new : Option (List ℕ)) → Cause words at_hand st text
        → (r ≡ st) × (g' ≡ g) × Appended old text new →
        (text : List ℕ) × IsAnswer words contents r text × Appended old text new
    told r st text g g' old new c t = (
      text,
      subst (λ s. IsAnswer words contents s text) (sym t.0) (cause_answer st text c),
      t.2,
    )

    pub ends_exact : (r : Status) (g g' : ℕ) (old new : Option (List ℕ)) → (Rose g g' → ⊥) →
        r ≢ NoMemory → Ends (Cause words at_hand) r g g' old new
        → (text : List ℕ) × IsAnswer words contents r text × Appended old text new
    ends_exact NoMemory g g' old new calm has e = absurd (has refl)
    ends_exact WriteFault g g' old new calm has e = absurd (calm e.3.0)
    ends_exact st g g' old new calm has e = told st e.0 e.1 g g' old new e.2 e.3

-- ---- faults of the source

job_risen : (job : Job) (s : Seen) (text : List ℕ) (st : Status) → s.faults < s.faults' →
    JobCause s st text job → st ≡ ReadFault
job_risen job s text st h (by_file has c) = cause_risen s _ _ _ (FileAnswer job) text st h c
job_risen _ s text st h (by_journal {translation = tr} {t = t} {names = names} whole i
    c) = cause_risen (on_second s) _ _ _ (JournalAnswer tr t names) text st h c
job_risen _ s text st h (by_making same m) = absurd (omega (arith, same))
job_risen _ s text st h (by_net_file {fuel = fuel} c) = cause_risen s _ _ _ (NetFileAnswer fuel) text st h c
job_risen _ s text st h (by_first {translation = tr} {workers = w} {fuel = f} {heads = q} {a = a}
    isnt c) = cause_risen s _ _ _ (FileAnswer (jobs.Run tr w f q a)) text st h c
job_risen _ s text st h (by_second {translation = tr} {workers = w} {fuel = f} {heads = q} {b = b}
    whole t isnt c) = cause_risen (on_second s) _ _ _ (FileAnswer (jobs.Run tr w f q b)) text st h c
job_risen _ s text st h (by_both same whole t gave u is k) = absurd (omega (arith, same))

words_risen : (words : List (String Global)) (s : Seen) (text : List ℕ) (st : Status) →
    s.faults < s.faults' → Cause words s st text → st ≡ ReadFault
words_risen words s text Usage h p = absurd (omega (arith, p.1))
words_risen words s text ReadFault h p = refl
words_risen words s text st h p = job_risen p.0 s text st h p.2

-- a fault of the source that has risen is told
pub ends_risen : (words : List (String Global)) (s : Seen) (r : Status) (g g' : ℕ)
    (old new : Option (List ℕ)) → s.faults < s.faults' → (Rose g g' → ⊥)
    → Ends (Cause words s) r g g' old new → (r ≡ ReadFault) ⊎ (r ≡ NoMemory)
ends_risen words s NoMemory g g' old new h calm e = inr refl
ends_risen words s WriteFault g g' old new h calm e = absurd (calm e.3.0)
ends_risen words s ReadFault g g' old new h calm e = inl refl
ends_risen words s _ g g' old new h calm e = inl (e.3.0 ∙ words_risen words s e.1 e.0 h e.2)

-- ---- words without a job

-- words don't ask both for nothing and for a job
pub not_both : (words : List (String Global)) (job : Job) → AskForNothing words → AskFor words job → ⊥
not_both words job lacks j = let e = sym lacks ∙ j in absurd (cc)

planned_usage : (words : List (String Global)) (s : Seen) (text : List ℕ) (st : Status) →
    AskForNothing words → Cause words s st text → st ≡ Usage
planned_usage words s text Usage lacks c = refl
planned_usage words s text _ lacks c = absurd (not_both words c.0 lacks c.1)

-- words that ask for no job are told so
pub ends_usage : (words : List (String Global)) (s : Seen) (r : Status) (g g' : ℕ)
    (old new : Option (List ℕ)) → AskForNothing words
    → Ends (Cause words s) r g g' old new → (r ≡ Usage) ⊎ ((r ≡ WriteFault) ⊎ (r ≡ NoMemory))
ends_usage words s NoMemory g g' old new lacks e = inr (inr refl)
ends_usage words s WriteFault g g' old new lacks e = inr (inl refl)
ends_usage words s Usage g g' old new lacks e = inl refl
ends_usage words s _ g g' old new lacks e = inl (e.3.0 ∙ planned_usage words s e.1 e.0 lacks e.2)

-- ---- a read fault has risen

pub job_fault : (job : Job) (s : Seen) (text : List ℕ) → JobCause s ReadFault text job → Rose s.faults s.faults'
job_fault job s text (by_file has c) = cause_rose s _ _ _ (FileAnswer job) text (file_no_fault job text) c
job_fault _ s text (by_journal {translation = tr} {t = t} {names = names} whole i c) = cause_rose
    (on_second s) _ _ _ (JournalAnswer tr t names) text (λ bytes h. h) c
job_fault _ s text (by_making {runs = false} same m) = let e = m.0 in absurd (cc)
job_fault _ s text (by_making {translation = tr} {runs = true} {k = k} same m) = absurd
    (file_no_fault (plain_run tr) text (doubled_text k) m)
job_fault _ s text (by_net_file {fuel = fuel} c) = cause_rose s _ _ _ (NetFileAnswer fuel) text
    (λ bytes h. net_file_status fuel bytes ReadFault text h) c
job_fault _ s text (by_first {translation = tr} {workers = w} {fuel = f} {heads = q} {a = a} isnt
    c) = cause_rose s _ _ _ (FileAnswer (jobs.Run tr w f q a)) text (file_no_fault (jobs.Run tr w f q a) text) c
job_fault _ s text (by_second {translation = tr} {workers = w} {fuel = f} {heads = q} {b = b} whole
    t isnt c) = cause_rose (on_second s) _ _ _ (FileAnswer (jobs.Run tr w f q b)) text
    (file_no_fault (jobs.Run tr w f q b) text) c
job_fault _ s text (by_both same whole t gave u is k) = absurd (cc)

pub ends_fault : (words : List (String Global)) (s : Seen) (r : Status) (g g' : ℕ)
    (old new : Option (List ℕ)) → Ends (Cause words s) r g g' old new → r ≡ ReadFault → Rose s.faults s.faults'
ends_fault words s ReadFault g g' old new e is = let c = subst (λ st. Cause words s st e.1)
    (sym e.3.0) e.2 in job_fault c.0 s e.1 c.2
ends_fault words s _ g g' old new e is = absurd (cc)

-- ---- what was done came to the end of its input

no_files : (tr : Translation) (words : List (String Global)) (runs : Bool) (k : ℕ) →
    AskFor words (jobs.Gen tr runs k) → files_of words ≡ 0
no_files tr words runs k j = ap (λ (a : Option Job). option_map_or count_of_files a 0) j

job_ended : (words : List (String Global)) (job : Job) (s : Seen) (text : List ℕ) →
    0 < files_of words → AskFor words job → JobCause s Done text job → s.ended ≡ true
job_ended words job s text some j (by_file has c) = cause_ended s _ _ _ (FileAnswer job) text c
job_ended words _ s text some j (by_journal {translation = tr} {t = t} {names = names} whole i
    c) = cause_ended (on_second s) _ _ _ (JournalAnswer tr t names) text c
job_ended words _ s text some j (by_making {translation = tr} {runs = runs} {k = k} same
    m) = let none = no_files tr words runs k j in absurd (omega arith)
job_ended words _ s text some j (by_net_file {fuel = fuel} c) = cause_ended s _ _ _ (NetFileAnswer fuel) text c
job_ended words _ s text some j (by_first isnt c) = absurd (isnt refl)
job_ended words _ s text some j (by_second whole t isnt c) = absurd (isnt refl)
job_ended words _ s text some j (by_both same whole t gave u is k) = gave.to_end

pub ends_done : (words : List (String Global)) (s : Seen) (r : Status) (g g' : ℕ)
    (old new : Option (List ℕ)) → Ends (Cause words s) r g g' old new → 0 < files_of words → r ≡ Done → s.ended ≡ true
ends_done words s Done g g' old new e some is = let c = subst (λ st. Cause words s st e.1)
    (sym e.3.0) e.2 in job_ended words c.0 s e.1 some c.1 c.2
ends_done words s _ g g' old new e some is = absurd (cc)

-- ---- a file that was read second

-- what the read of it ended with, after that of the first
pub after_term : (faults mid faults' given : ℕ) (contents : Files) (ended : Bool) (most : ℕ)
    (limit : List ℕ) (name : Text) (A : List ℕ → Status → List ℕ → Type 0) (st : Status)
    (text : List ℕ) → mid ≡ faults →
    CauseOf (seen mid faults' contents given ended) most limit name A st text →
    CauseOf (seen faults faults' contents given ended) most limit name A st text
after_term faults mid faults' given contents ended most limit name A st text e h =
    subst (λ f. CauseOf (seen f faults' contents given ended) most limit name A st text) e h

-- ---- a write fault

-- it has risen
pub ends_write : (words : List (String Global)) (s : Seen) (r : Status) (g g' : ℕ)
    (old new : Option (List ℕ)) → Ends (Cause words s) r g g' old new → r ≡ WriteFault → Rose g g'
ends_write words s WriteFault g g' old new e is = e.3.0
ends_write words s _ g g' old new e is = absurd (cc)

-- one that has risen is told
pub ends_write_told : (words : List (String Global)) (s : Seen) (r : Status) (g g' : ℕ)
    (old new : Option (List ℕ)) → g < g' → Ends (Cause words s) r g g' old new → r ≡ WriteFault
ends_write_told words s WriteFault g g' old new h e = refl
ends_write_told words s NoMemory g g' old new h e = let same = e.1 in absurd (omega (arith, same))
ends_write_told words s _ g g' old new h e = let same = e.3.1 in absurd (omega (arith, same))

-- words to which the usage is told ask for nothing
pub ends_asked : (words : List (String Global)) (s : Seen) (r : Status) (g g' : ℕ)
    (old new : Option (List ℕ)) → Ends (Cause words s) r g g' old new → r ≡ Usage → AskForNothing words
ends_asked words s Usage g g' old new e is = let c = subst (λ st. Cause words s st e.1) (sym e.3.0) e.2 in c.0
ends_asked words s _ g g' old new e is = absurd (cc)
