-- The cause of a status, by its words and case by case: the two are one.
use Rattle.std.proofs.Common.{◌≡◌, ◌≢◌, ℕ, zero, suc, ◌<◌, ◌≤◌, true, false, List, [], ◌∷◌, length, Option, None, Some}
use Rattle.std.proofs.Common.{inl, inr, refl, sym, ◌∙◌, subst, arith, String, Global}
use Rattle.ol_io.specs.Outside.{Rose, IsAllOf, IsLonger}
use Rattle.ol_words.specs.Texts.{Text}
use Rattle.ol_words.specs.declared.jobs.Job.{Job}
use Rattle.ol_words.specs.declared.jobs.Job.TheVariants as jobs
use Rattle.ol_term.specs.Generated.{doubled_text}
use Rattle.ol_cli.specs.declared.status.Status.{Status}
use Rattle.ol_cli.specs.declared.status.Status.TheVariants.{Usage, ReadFault, Limit}
use Rattle.ol_cli.specs.Answers.{AnswerOf, Gave, HasCause, Seen}
use Rattle.ol_cli.specs.Cases.{Cause, CauseOf, FileAnswer, FileCause, GaveWithin, JobCause, failed, past, given, on_second}
use Rattle.ol_cli.specs.Cases.{by_file, by_journal, by_making, by_net_file, by_first, by_second, by_both}
use Rattle.ol_cli.specs.Check.{JournalAnswer}
use Rattle.ol_cli.specs.Generate.{plain_run}
use Rattle.ol_cli.specs.Jobs.{AskFor, HasFile, file_name}
use Rattle.ol_cli.specs.Net.{NetFileAnswer}
use Rattle.ol_cli.specs.Net as net_answers
use Rattle.ol_cli.specs.RefusalTexts.{bytes_text, fault_text, journal_text, net_bytes_text}
use Rattle.ol_cli.proofs.Exact.{file_no_fault, job_fault}
use Rattle.ol_cli.proofs.NetFiles.{net_file_status}
use Rattle.ol_cli.proofs.OneAnswer.{OfFile, too_long, refused, has_term, of_file_answer}
use Rattle.ol_cli.proofs.OneAnswer.{OfJournal, past as journal_past, found, of_journal_answer}
use Rattle.ol_term.specs.Trees.{Tree}
use Rattle.ol_term.specs.declared.translations.Translation.{Translation}

-- ---- one file

-- bytes of which there are more than so many
filler : (n : ℕ) → (bytes : List ℕ) × (n < length bytes)
filler zero = (0 ∷ [], omega arith)
filler (suc n) = let m = filler n in (0 ∷ m.0, let rest = m.1 in omega (arith, rest))

more : (contents : Option (List ℕ)) (most : ℕ) → IsLonger contents most →
    (bytes : List ℕ) × IsAllOf contents bytes × (most < length bytes)
more None most l = let m = filler most in (m.0, tt, m.1)
more (Some all) most l = (all, refl, l)

module _ (s : Seen) (most : ℕ) (limit : List ℕ) (name : Text) (A : List ℕ → Status → List ℕ → Type 0)
    (st : Status) (text : List ℕ) where
  -- where the source didn't fail, this is answered to what it gave
  file_gave : st ≢ ReadFault → ((bytes : List ℕ) → most < length bytes → st ≡ Limit → text ≡ limit → A bytes st text) →
      CauseOf s most limit name A st text →
      (s.faults' ≡ s.faults) × ((bytes : List ℕ) × Gave s 0 name most bytes × A bytes st text)
  file_gave isnt long (failed rose is e) = absurd (isnt is)
  file_gave isnt long (past same gave is e) =
      let m = more (s.contents 0 name) most gave.longer in
      (same, (m.0, (m.1, inr (gave.past, m.2)), long m.0 m.2 is e))
  file_gave isnt long (given same {bytes = bytes} gave h) =
      (same, (bytes, (gave.whole, inl (gave.counted, gave.within, gave.to_end)), h))

  -- where it failed, its text says so
  file_failed : st ≡ ReadFault → ((bytes : List ℕ) → A bytes ReadFault text → ⊥) →
      CauseOf s most limit name A st text → text ≡ fault_text
  file_failed fault none (failed rose is e) = e
  file_failed fault none (past same gave is e) = let k : ReadFault ≡ Limit = sym fault ∙ is in absurd (cc)
  file_failed fault none (given same {bytes = bytes} gave h) =
      absurd (none bytes (subst (λ st. A bytes st text) fault h))

-- ---- a job

module _ (s : Seen) (st : Status) (text : List ℕ) where
  of_long : (job : Job) (bytes : List ℕ) → 1048576 < length bytes → st ≡ Limit →
      text ≡ bytes_text → FileAnswer job bytes st text
  of_long job bytes l is e = subst (λ st. FileAnswer job bytes st text) (sym is) (inl (l, e))

  module _ (isnt : st ≢ ReadFault) where
    of_file : (job : Job) → FileCause job s st text → (s.faults' ≡ s.faults)
        × ((bytes : List ℕ) × Gave s 0 (file_name job) 1048576 bytes × FileAnswer job bytes st text)
    of_file job c = file_gave s _ _ _ (FileAnswer job) st text isnt (of_long job) c

    pub job_gave : (job : Job) → JobCause s st text job → (s.faults' ≡ s.faults)
        × AnswerOf (λ name. IsAllOf (s.contents 0 name)) (Gave s) job st text
    job_gave (jobs.Net tr false w f name) (by_file has c) = absurd has
    job_gave (jobs.Net tr false w f name) (by_net_file c) =
        file_gave s _ _ _ (NetFileAnswer f) st text isnt (λ bytes l is e. net_answers.long l is e) c
    job_gave (jobs.Gen tr runs k) (by_file has c) = absurd has
    job_gave (jobs.Gen tr runs k) (by_making same m) = (same, m)
    job_gave (jobs.Check tr term journal) (by_file has c) =
        let g = of_file (jobs.Check tr term journal) c in (g.0, inl g.1)
    job_gave (jobs.Check tr term journal) (by_journal {bytes = bytes} {t = t} {names = names} whole i c) =
        let g = file_gave (on_second s) _ _ _ (JournalAnswer tr t names) st text isnt
        (λ m l is e. subst (λ st. JournalAnswer tr t names m st text) (sym is) (l, e)) c in
        (g.0, inr (bytes, g.1.0, t, names, whole, i, g.1.1, g.1.2))
    job_gave (jobs.Equal tr w f q a b) (by_file has c) = absurd has
    job_gave (jobs.Equal tr w f q a b) (by_first not_done c) =
        let g = of_file (jobs.Run tr w f q a) c in (g.0, inl (g.1.0, g.1.1, not_done, g.1.2))
    job_gave (jobs.Equal tr w f q a b) (by_second {bytes = bytes} whole x not_done c) =
        let g = file_gave (on_second s) _ _ _ (FileAnswer (jobs.Run tr w f q b)) st text isnt
        (of_long (jobs.Run tr w f q b)) c in
        (g.0, inr (bytes, g.1.0, whole, x, g.1.1, inl (not_done, g.1.2)))
    job_gave (jobs.Equal tr w f q a b) (by_both {bytes = bytes} {bytes' = bytes'} same whole x gave y is k) = (
      same,
      inr (
        bytes,
        bytes',
        whole,
        x,
        (gave.whole, inl (gave.counted, gave.within, gave.to_end)),
        inr (y, is, k),
      ),
    )
    job_gave job (by_file has c) = of_file job c

-- the text of a fault, and that it comes of a file
job_failed : (s : Seen) (text : List ℕ) (job : Job) → JobCause s ReadFault text job → text ≡ fault_text
job_failed s text job (by_file has c) =
    file_failed s _ _ _ (FileAnswer job) ReadFault text refl (file_no_fault job text) c
job_failed s text _ (by_journal {translation = tr} {t = t} {names = names} whole i c) =
    file_failed (on_second s) _ _ _ (JournalAnswer tr t names) ReadFault text refl (λ bytes h. h) c
job_failed s text _ (by_making {runs = false} same m) = let e = m.0 in absurd (cc)
job_failed s text _ (by_making {translation = tr} {runs = true} {k = k} same m) =
    absurd (file_no_fault (plain_run tr) text (doubled_text k) m)
job_failed s text _ (by_net_file {fuel = fuel} c) = file_failed s _ _ _ (NetFileAnswer fuel) ReadFault text refl
    (λ bytes h. net_file_status fuel bytes ReadFault text h) c
job_failed s text _ (by_first {translation = tr} {workers = w} {fuel = f} {heads = q} {a = a} isnt c) =
    file_failed s _ _ _ (FileAnswer (jobs.Run tr w f q a)) ReadFault text refl
    (file_no_fault (jobs.Run tr w f q a) text) c
job_failed s text _ (by_second {translation = tr} {workers = w} {fuel = f} {heads = q} {b = b} whole x isnt c) =
    file_failed (on_second s) _ _ _ (FileAnswer (jobs.Run tr w f q b)) ReadFault text refl
    (file_no_fault (jobs.Run tr w f q b) text) c
job_failed s text _ (by_both same whole x gave y is k) = absurd (cc)

has_file : (s : Seen) (text : List ℕ) (job : Job) → JobCause s ReadFault text job → HasFile job
has_file s text (jobs.Gen tr runs k) (by_file has c) = absurd has
has_file s text (jobs.Gen tr false k) (by_making same m) = let e = m.0 in absurd (cc)
has_file s text (jobs.Gen tr true k) (by_making same m) =
    absurd (file_no_fault (plain_run tr) text (doubled_text k) m)
has_file s text _ c = tt

-- ---- words

module _ (words : List (String Global)) (s : Seen) where
  by_job : (st : Status) (text : List ℕ) → st ≢ ReadFault →
      (job : Job) × AskFor words job × JobCause s st text job → (s.faults' ≡ s.faults)
      × ((job : Job) × AskFor words job × AnswerOf (λ name. IsAllOf (s.contents 0 name)) (Gave s) job st text)
  by_job st text isnt c = let g = job_gave s st text isnt c.0 c.2 in (g.0, (c.0, c.1, g.1))

  pub cause_by : (st : Status) (text : List ℕ) → Cause words s st text → HasCause words s st text
  cause_by Usage text c = (c.1, c.0, c.2)
  cause_by ReadFault text c =
      (job_fault c.0 s text c.2, job_failed s text c.0 c.2, (c.0, c.1, has_file s text c.0 c.2))
  cause_by st text c = by_job st text (λ e. absurd (cc)) c

-- ---- and back

is_longer : (contents : Option (List ℕ)) (bytes : List ℕ) (most : ℕ) → IsAllOf contents bytes →
    most < length bytes → IsLonger contents most
is_longer None bytes most w l = tt
is_longer (Some all) bytes most w l = subst (λ b. most < length b) w l

module _ (s : Seen) (most : ℕ) (limit : List ℕ) (name : Text) (A : List ℕ → Status → List ℕ → Type 0)
    (st : Status) (text : List ℕ) (same : s.faults' ≡ s.faults) where
  file_cause : ((bytes : List ℕ) → most < length bytes → A bytes st text → (st ≡ Limit) × (text ≡ limit)) →
      (bytes : List ℕ) → Gave s 0 name most bytes → A bytes st text → CauseOf s most limit name A st text
  file_cause long bytes (whole, inl (counted, within, to_end)) h =
      given same (record { whole = whole; counted = counted; within = within; to_end = to_end }) h
  file_cause long bytes (whole, inr (gave_more, longer)) h =
      let k = long bytes longer h in
      past same (record { past = gave_more; longer = is_longer (s.contents 0 name) bytes most whole longer }) k.0 k.1

-- bytes that are no more than are read were all given; so it is with those of which `Hands` speaks
pub gave_within : (s : Seen) (most : ℕ) (name : Text) (bytes : List ℕ) → length bytes ≤ most →
    Gave s 0 name most bytes → GaveWithin s most name bytes
gave_within s most name bytes short (whole, inl (counted, within, to_end)) =
    record { whole = whole; counted = counted; within = within; to_end = to_end }
gave_within s most name bytes short (whole, inr (gave_more, longer)) = absurd (omega (arith, short, longer))

long_of_file : (job : Job) (st : Status) (text bytes : List ℕ) → 1048576 < length bytes →
    OfFile job bytes st text → (st ≡ Limit) × (text ≡ bytes_text)
long_of_file job st text bytes l (too_long l' h) = (h.0, h.1)
long_of_file job st text bytes l (refused l' at r h) = absurd (omega arith)
long_of_file job st text bytes l (has_term l' t names f h) = absurd (omega arith)

long_file : (job : Job) (st : Status) (text bytes : List ℕ) → 1048576 < length bytes →
    FileAnswer job bytes st text → (st ≡ Limit) × (text ≡ bytes_text)
long_file job st text bytes l h = long_of_file job st text bytes l (of_file_answer job bytes st text h)

long_of_journal : (tr : Translation) (t : Tree) (names : List (List ℕ)) (st : Status) (text bytes : List ℕ) →
    402653184 < length bytes → OfJournal tr t names bytes st text → (st ≡ Limit) × (text ≡ journal_text)
long_of_journal tr t names st text bytes l (journal_past l' h) = (h.0, h.1)
long_of_journal tr t names st text bytes l (found l' v f h) = absurd (omega arith)

long_net : (fuel : ℕ) (st : Status) (text bytes : List ℕ) → 33554432 < length bytes →
    NetFileAnswer fuel bytes st text → (st ≡ Limit) × (text ≡ net_bytes_text)
long_net fuel st text bytes l (net_answers.long l' is e) = (is, e)
long_net fuel st text bytes l (net_answers.bad l' f h isnt is e) = absurd (omega arith)
long_net fuel st text bytes l (net_answers.of_net i h) = let short = i.short in absurd (omega (arith, short))

module _ (s : Seen) (st : Status) (text : List ℕ) (same : s.faults' ≡ s.faults) where
  term_cause : (job : Job) (bytes : List ℕ) → Gave s 0 (file_name job) 1048576 bytes →
      FileAnswer job bytes st text → FileCause job s st text
  term_cause job bytes g h =
      file_cause s _ _ (file_name job) (FileAnswer job) st text same (long_file job st text) bytes g h

  pub job_caused : (job : Job) → AnswerOf (λ name. IsAllOf (s.contents 0 name)) (Gave s) job st text →
      JobCause s st text job
  job_caused (jobs.Net tr false w f name) (bytes, g, h) =
      by_net_file (file_cause s _ _ name (NetFileAnswer f) st text same (long_net f st text) bytes g h)
  job_caused (jobs.Gen tr runs k) m = by_making same m
  job_caused (jobs.Check tr term journal) (inl (bytes, g, h)) =
      by_file tt (term_cause (jobs.Check tr term journal) bytes g h)
  job_caused (jobs.Check tr term journal) (inr (bytes, trace, t, names, whole, i, g, h)) =
      by_journal whole i (file_cause (on_second s) _ _ journal (JournalAnswer tr t names) st text same
      (λ m l h. long_of_journal tr t names st text m l (of_journal_answer tr t names m st text h)) trace g h)
  job_caused (jobs.Equal tr w f q a b) (inl (bytes, g, isnt, h)) =
      by_first isnt (term_cause (jobs.Run tr w f q a) bytes g h)
  job_caused (jobs.Equal tr w f q a b) (inr (bytes, bytes', whole, x, g, inl (isnt, h))) =
      by_second whole x isnt (file_cause (on_second s) _ _ b (FileAnswer (jobs.Run tr w f q b)) st text same
      (long_file (jobs.Run tr w f q b) st text) bytes' g h)
  job_caused (jobs.Equal tr w f q a b) (inr (bytes, bytes', whole, x, g, inr (y, is, k))) =
      by_both same whole x (gave_within (on_second s) 1048576 b bytes' y.file.short g) y is k
  job_caused job h = by_file tt (term_cause job h.0 h.1 h.2)

-- the source failed at the file of a job that has one
failed_job : (s : Seen) (text : List ℕ) (job : Job) → HasFile job → Rose s.faults s.faults' →
    text ≡ fault_text → JobCause s ReadFault text job
failed_job s text (jobs.Gen tr runs k) has rose e = absurd has
failed_job s text (jobs.Net tr false w f name) has rose e = by_net_file (failed rose refl e)
failed_job s text (jobs.Equal tr w f q a b) has rose e = by_first (λ e. absurd (cc)) (failed rose refl e)
failed_job s text _ has rose e = by_file tt (failed rose refl e)

pub cause_cases : (words : List (String Global)) (s : Seen) (st : Status) (text : List ℕ) →
    HasCause words s st text → Cause words s st text
cause_cases words s Usage text (same, lacks, e) = (lacks, same, e)
cause_cases words s ReadFault text (rose, e, (job, j, has)) = (job, j, failed_job s text job has rose e)
cause_cases words s st text h = (h.1.0, h.1.1, job_caused s st text h.0 h.1.0 h.1.2)
