-- An answer to a job is one to the same job with any other number of workers: no definition of an
-- answer looks at that number. So
-- words that ask for one job but for that number have one answer (`one_answer`).
use Rattle.std.proofs.Common.{◌≡◌, ℕ, true, false, List, Option, None, Some, String, Global}
use Rattle.std.proofs.Common.{option_map, sym, ap, ◌∙◌, subst}
use Rattle.ol_words.specs.Texts.{texts_of}
use Rattle.ol_words.specs.declared.jobs.Job.{Job}
use Rattle.ol_words.specs.declared.jobs.Job.TheVariants as jobs
use Rattle.ol_words.specs.Jobs.{job_of}
use Rattle.ol_cli.specs.declared.status.Status.{Status}
use Rattle.ol_cli.specs.declared.status.Status.TheVariants as status
use Rattle.ol_cli.specs.declared.status.Status.TheVariants.{Usage}
use Rattle.ol_cli.specs.Texts.{usage_text}
use Rattle.ol_cli.specs.Jobs.{Files, AskFor, AskForNothing}
use Rattle.ol_cli.specs.Answers.{IsAnswer}
use Rattle.ol_cli.specs.Cases.{JobAnswer}
use Rattle.ol_cli.specs.Laws.{AskAlike, HaveOneText, WorkersAreNotSeen, with_workers}
use Rattle.ol_cli.proofs.Views.{answer_cases, answer_of}
use Rattle.ol_cli.proofs.Exact.{not_both}
use Rattle.ol_cli.proofs.OneAnswer.{OfWords, no_job, of_job, of_words, one_of_job, one_job, same_as}

pub workers_are_unseen : WorkersAreNotSeen
workers_are_unseen n (jobs.Run tr w f q name) files st text h = h
workers_are_unseen n (jobs.Trace tr w f name) files st text h = h
workers_are_unseen n (jobs.Certify tr b w f q name) files st text h = h
workers_are_unseen n (jobs.Net tr true w f name) files st text h = h
workers_are_unseen n (jobs.Net tr false w f name) files st text h = h
workers_are_unseen n (jobs.Equal tr w f q a b) files st text h = h
workers_are_unseen n _ files st text h = h

workers_unseen : (n : ℕ) (job : Job) (files : Files) (st : Status) (text : List ℕ) →
    JobAnswer files st text job → JobAnswer files st text (with_workers n job)
workers_unseen n job files st text h = answer_cases files st text (with_workers n job)
    (workers_are_unseen n job files st text (answer_of files st text job h))

-- ---- two lists of words

text_seen : (n : ℕ) (job : Job) (s : Status) (x x' : List ℕ) →
    HaveOneText (with_workers n job) s x x' → HaveOneText job s x x'
text_seen n (jobs.Trace tr w f name) status.Done x x' h = tt
text_seen n (jobs.Trace tr w f name) status.Spent x x' h = tt
text_seen n (jobs.Trace tr w f name) _ x x' h = h
text_seen n (jobs.Net tr true w f name) s x x' h = h
text_seen n (jobs.Net tr false w f name) status.Done x x' h = h
text_seen n (jobs.Net tr false w f name) _ x x' h = h
text_seen n _ s x x' h = h

-- where these words ask for this job and those for that, the two are one but for the workers
jobs_alike : (o o' : Option Job) (a a' : Job) → o ≡ Some a → o' ≡ Some a' →
    option_map (with_workers 1) o ≡ option_map (with_workers 1) o' →
    with_workers 1 a ≡ with_workers 1 a'
jobs_alike o o' a a' e e' alike =
    let k : Some (with_workers 1 a) ≡ Some (with_workers 1 a') = sym
    (ap (option_map (with_workers 1)) e) ∙ alike ∙ ap (option_map (with_workers 1)) e' in cc

-- words that ask for a job aren't alike with words that ask for nothing
not_alike : (o o' : Option Job) (a : Job) → o ≡ None → o' ≡ Some a →
    option_map (with_workers 1) o ≡ option_map (with_workers 1) o' → ⊥
not_alike o o' a e e' alike =
    let k : None ≡ Some (with_workers 1 a) = sym (ap (option_map (with_workers 1)) e) ∙ alike
    ∙ ap (option_map (with_workers 1)) e' in absurd (cc)

-- one status, and one text as far as these words ask for one
abbrev pub OneOfWords : List (String Global) → Status → Status → List ℕ → List ℕ → Type 0
OneOfWords words s s' x x' = (s ≡ s') × (AskForNothing words → x ≡ x')
    × ((job : Job) → AskFor words job → HaveOneText job s x x')

one_of_words : (words words' : List (String Global)) → AskAlike words words' →
    (files : Files) (s s' : Status) (x x' : List ℕ) → OfWords words files s x →
    OfWords words' files s' x' → OneOfWords words s s' x x'
one_of_words words words' e files s s' x x' (no_job n h) (no_job n' h') =
    let k = same_as s s' Usage x x' usage_text h h' in
    (k.0, λ nothing. k.1, λ job j. absurd (not_both words job n j))
one_of_words words words' e files s s' x x' (no_job n h) (of_job a' j' h') =
    absurd (not_alike (job_of (texts_of words)) (job_of (texts_of words')) a' n j' e)
one_of_words words words' e files s s' x x' (of_job a j h) (no_job n' h') =
    absurd (not_alike (job_of (texts_of words')) (job_of (texts_of words)) a n' j (sym e))
one_of_words words words' e files s s' x x' (of_job a j h) (of_job a' j' h') =
    let same = jobs_alike (job_of (texts_of words)) (job_of (texts_of words')) a a' j j' e in
    let k = one_of_job files (with_workers 1 a) s s' x x' (workers_unseen 1 a files s x h)
    (subst (λ a. JobAnswer files s' x' a) (sym same) (workers_unseen 1 a' files s' x' h')) in (
      k.0,
      λ n. absurd (not_both words a n j),
      λ job j''. subst (λ a. HaveOneText a s x x') (one_job words a job j j'') (text_seen 1 a s x x' k.1),
    )

pub answers_alike : (words words' : List (String Global)) → AskAlike words words' →
    (files : Files) (s s' : Status) (x x' : List ℕ) → IsAnswer words files s x →
    IsAnswer words' files s' x' → OneOfWords words s s' x x'
answers_alike words words' e files s s' x x' a a' =
    one_of_words words words' e files s s' x x' (of_words words files s x a) (of_words words' files s' x' a')
