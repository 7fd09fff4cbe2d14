-- The answer to a job, by its words and case by case: the two are one.
use Rattle.std.proofs.Common.{ℕ, false, List, inl, inr}
use Rattle.ol_words.specs.declared.jobs.Job.{Job}
use Rattle.ol_words.specs.declared.jobs.Job.TheVariants as jobs
use Rattle.ol_cli.specs.declared.status.Status.{Status}
use Rattle.ol_cli.specs.Answers.{AnswerTo}
use Rattle.ol_cli.specs.Cases.{JobAnswer, of_file, of_journal, made, of_net_file, of_first, of_second, of_both}
use Rattle.ol_cli.specs.Jobs.{Files}

module _ (files : Files) (st : Status) (text : List ℕ) where
  pub answer_cases : (job : Job) → AnswerTo files job st text → JobAnswer files st text job
  answer_cases (jobs.Net tr false w f name) (bytes, e, h) = of_net_file e h
  answer_cases (jobs.Gen tr runs k) m = made m
  answer_cases (jobs.Check tr term journal) (inl (bytes, e, h)) = of_file tt e h
  answer_cases (jobs.Check tr term journal) (inr (bytes, trace, t, names, e, i, e', h)) =
      of_journal e i e' h
  answer_cases (jobs.Equal tr w f q a b) (inl (bytes, e, isnt, h)) = of_first e isnt h
  answer_cases (jobs.Equal tr w f q a b) (inr (bytes, bytes', e, x, e', inl (isnt, h))) =
      of_second e x e' isnt h
  answer_cases (jobs.Equal tr w f q a b) (inr (bytes, bytes', e, x, e', inr (y, is, k))) =
      of_both e x e' y is k
  answer_cases _ h = of_file {bytes = h.0} tt h.1 h.2

  pub answer_of : (job : Job) → JobAnswer files st text job → AnswerTo files job st text
  answer_of (jobs.Net tr false w f name) (of_file has e h) = absurd has
  answer_of (jobs.Net tr false w f name) (of_net_file {bytes = m} e h) = (m, e, h)
  answer_of (jobs.Gen tr runs k) (of_file has e h) = absurd has
  answer_of (jobs.Gen tr runs k) (made m) = m
  answer_of (jobs.Check tr term journal) (of_file {bytes = m} has e h) = inl (m, e, h)
  answer_of (jobs.Check tr term journal)
      (of_journal {bytes = m} {trace = n} {t = t} {names = names} e i e' h) =
      inr (m, n, t, names, e, i, e', h)
  answer_of (jobs.Equal tr w f q a b) (of_file has e h) = absurd has
  answer_of (jobs.Equal tr w f q a b) (of_first {bytes = m} e isnt h) = inl (m, e, isnt, h)
  answer_of (jobs.Equal tr w f q a b) (of_second {bytes = m} {bytes' = n} e x e' isnt h) =
      inr (m, n, e, x, e', inl (isnt, h))
  answer_of (jobs.Equal tr w f q a b) (of_both {bytes = m} {bytes' = n} e x e' y is k) =
      inr (m, n, e, x, e', inr (y, is, k))
  answer_of _ (of_file {bytes = m} has e h) = (m, e, h)
