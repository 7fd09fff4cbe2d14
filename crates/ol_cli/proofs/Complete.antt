-- A job that can be done is done, where nothing fails and memory is found.
use Rattle.std.proofs.Common.{◌≡◌, ℕ, zero, suc, ◌≤◌, Bool, true, false, List, [], ◌∷◌, length, slice_get, Option, Some}
use Rattle.std.proofs.Common.{refl, sym, ◌∙◌, subst, inl, inr, arith, String, Global}
use Rattle.ol_io.specs.Outside.{Rose, Appended}
use Rattle.ol_term.specs.declared.translations.Translation.{Translation}
use Rattle.ol_term.specs.Trees.{Tree}
use Rattle.ol_term.specs.Generated.{doubled_text}
use Rattle.ol_words.specs.Texts.{Text}
use Rattle.ol_words.specs.declared.jobs.Job.{Job}
use Rattle.ol_words.specs.declared.jobs.Job.TheVariants as jobs
use Rattle.ol_cli.specs.declared.status.Status.{Status}
use Rattle.ol_cli.specs.declared.status.Status.TheVariants.{Done, NoMemory}
use Rattle.ol_cli.specs.Jobs.{EndsWithinFuel, Files, AreTold, TellsFiles, file_name, term_bytes, translation_in}
use Rattle.ol_cli.specs.TermFiles.{IsTermFile}
use Rattle.ol_cli.specs.Cases.{FileAnswer, Cause, JobAnswer, seen}
use Rattle.ol_cli.specs.Check.{JournalAnswer}
use Rattle.ol_cli.specs.Answers.{IsAnswer, Ends}
use Rattle.ol_cli.specs.Generate.{Makes, plain_run}
use Rattle.ol_cli.specs.Cases as answers
use Rattle.ol_cli.specs.Completeness.{HasTermWithin, HasJournalWithin, CanDo, AskForWhatCanBeDone, IsDoneOrNothing}
use Rattle.ol_cli.proofs.Exact.{ends_exact}
use Rattle.ol_cli.proofs.OneAnswer.{done_file, of_file_answer}
use Rattle.ol_cli.proofs.OneAnswer.{OfJournal, of_journal_answer, one_bytes, one_job, own_job}
use Rattle.ol_cli.proofs.OneAnswer as by
use Rattle.ol_cli.specs.Net.{IsNetFile}
use Rattle.ol_cli.proofs.NetFiles.{done_net_file}

-- ---- a job

module _ (files : Files) where
  -- the bytes of the job's term are those that are told
  done_told : (files : Text → Option (List ℕ)) (job : Job) (name : Text)
      (told : Option (List ℕ)) (w : HasTermWithin files job) → told ≡ term_bytes files job →
      (bytes : List ℕ) → told ≡ Some bytes → (goal : Job) →
      translation_in job ≡ translation_in goal → EndsWithinFuel goal w.term w.names →
      (s : Status) (x : List ℕ) → FileAnswer goal bytes s x → s ≡ Done
  done_told files job name told w same bytes e goal alike ends s x h =
      let is : Some w.bytes ≡ Some bytes = sym w.told ∙ sym same ∙ e in
      let at : w.bytes ≡ bytes = cc in
      let file = subst (λ tr. IsTermFile tr bytes w.term w.names) alike
      (subst (λ b. IsTermFile (translation_in job) b w.term w.names) at w.file) in
      done_file goal bytes w.term w.names file ends s x (of_file_answer goal bytes s x h)

  done_journal : (tr : Translation) (t : Tree) (names : List (List ℕ)) (journal : List ℕ) →
      length journal ≤ 402653184 → (s : Status) (x : List ℕ) → OfJournal tr t names journal s x → s ≡ Done
  done_journal tr t names journal b s x (by.past l h) = absurd (omega arith)
  done_journal tr t names journal b s x (by.found l v f h) = h.0

  done_on_journal : (name : Text) → HasJournalWithin (files 1) name →
      (tr : Translation) (t : Tree) (names : List (List ℕ)) (given : List ℕ) →
      files 1 name ≡ Some given → (s : Status) (x : List ℕ) → JournalAnswer tr t names given s x → s ≡ Done
  done_on_journal name (read, e, b) tr t names given e' s x h =
      let short = subst (λ l. length l ≤ 402653184) (one_bytes (files 1 name) read given e e') b in
      done_journal tr t names given short s x (of_journal_answer tr t names given s x h)

  done_made : (tr : Translation) (runs : Bool) (k : ℕ) → CanDo files (jobs.Gen tr runs k) →
      (s : Status) (x : List ℕ) → Makes tr runs k s x → s ≡ Done
  done_made tr false k can s x m = m.0
  done_made tr true k can s x m = done_told (files 0) (jobs.Gen tr true k) []
      (Some (doubled_text k)) can refl (doubled_text k) refl (plain_run tr) refl can.ends s x m

  done_job : (job : Job) → CanDo files job → (s : Status) (x : List ℕ) → JobAnswer files s x job → s ≡ Done
  done_job (jobs.Check tr term other) can s x (answers.of_file has e h) = done_told (files 0)
      (jobs.Check tr term other) term (files 0 term) can.0 refl _ e (jobs.Check tr term other) refl can.0.ends s x h
  done_job (jobs.Check tr term other) can s x
      (answers.of_journal {trace = read} {t = t} {names = names} e i e' h) = done_on_journal other
      can.1 tr t names read e' s x h
  done_job (jobs.Net tr false w f name) can s x (answers.of_file has e h) = absurd has
  done_job (jobs.Net tr false w f name) can s x (answers.of_net_file {bytes = bytes} e h) =
      let file = subst (λ b. IsNetFile b can.net) (one_bytes (files 0 name) can.bytes bytes can.told e) can.file in
      done_net_file f bytes can.net file can.ends can.few s x h
  done_job (jobs.Equal tr w f q a b) can s x (answers.of_file has e h) = absurd has
  done_job (jobs.Equal tr w f q a b) can s x (answers.of_first e isnt h) = absurd
      (isnt (done_told (files 0) (jobs.Run tr w f q a) a (files 0 a) can.0 refl _ e (jobs.Run tr w f q a) refl can.0.ends s x h))
  done_job (jobs.Equal tr w f q a b) can s x (answers.of_second e t d isnt h) = absurd
      (isnt (done_told (files 1) (jobs.Run tr w f q b) b (files 1 b) can.1 refl _ d (jobs.Run tr w f q b) refl can.1.ends s x h))
  done_job (jobs.Equal tr w f q a b) can s x (answers.of_both e t d u is h) = is
  done_job (jobs.Gen tr runs k) can s x (answers.of_file has e h) = absurd has
  done_job (jobs.Gen tr runs k) can s x (answers.made m) = done_made tr runs k can s x m
  done_job job can s x (answers.of_file has e h) = done_told (files 0)
      job (file_name job) (files 0 (file_name job)) can refl _ e job refl can.ends s x h

  -- the bytes of the job's files are told
  one_told : (P : ℕ → Text → Type 0) (a : Text) → P 0 a → (place : ℕ) (name : Text) →
      slice_get (a ∷ []) place ≡ Some name → P place name
  one_told P a p zero name e = let some : Some a ≡ Some name = e in let z : a ≡ name = cc in subst (P 0) z p
  one_told P a p (suc k) name e = absurd (cc)

  two_told : (P : ℕ → Text → Type 0) (a b : Text) → P 0 a → P 1 b → (place : ℕ) (name : Text) →
      slice_get (a ∷ b ∷ []) place ≡ Some name → P place name
  two_told P a b p q zero name e = let some : Some a ≡ Some name = e in let z : a ≡ name = cc in subst (P 0) z p
  two_told P a b p q (suc zero) name e = let some : Some b ≡ Some name = e in let z : b ≡ name = cc in subst (P 1) z q
  two_told P a b p q (suc (suc k)) name e = absurd (cc)

  abbrev IsTold : ℕ → Text → Type 0
  IsTold place name = (bytes : List ℕ) × (files place name ≡ Some bytes)

  can_told : (job : Job) → CanDo files job → AreTold files job
  can_told (jobs.Check tr term other) can = two_told IsTold term other (can.0.bytes, can.0.told) (can.1.0, can.1.1)
  can_told (jobs.Net tr false w f name) can = one_told IsTold name (can.bytes, can.told)
  can_told (jobs.Equal tr w f q a b) can = two_told IsTold a b (can.0.bytes, can.0.told) (can.1.bytes, can.1.told)
  can_told (jobs.Gen tr runs k) can = λ place name e. absurd (cc)
  can_told job can = one_told IsTold (file_name job) (can.bytes, can.told)

-- ---- the call

module _ (words : List (String Global)) (f f' given : ℕ) (contents : Files) (ended : Bool)
    (quiet : Rose f f' → ⊥) (can : AskForWhatCanBeDone words contents) where
  tells : TellsFiles contents words
  tells job j = can_told contents job (subst (λ a. CanDo contents a) (one_job words can.0 job can.1 j) can.2)

  is_done : (r : Status) (old new : Option (List ℕ)) →
      (text : List ℕ) × IsAnswer words contents r text × Appended old text new →
      IsDoneOrNothing words contents r old new
  is_done r old new (text, a, w) =
      let e = done_job contents can.0 can.2 r text (own_job words contents can.0 can.1 r text a) in
      inl (e, (text, subst (λ s. IsAnswer words contents s text) e a, w))

  pub done_or_nothing : (r : Status) (g g' : ℕ) (old new : Option (List ℕ)) → (Rose g g' → ⊥) →
      Ends (Cause words (seen f f' contents given ended)) r g g' old new → IsDoneOrNothing words contents r old new
  done_or_nothing NoMemory g g' old new calm e = inr (refl, e.0)
  done_or_nothing r g g' old new calm e = is_done r old new
      (ends_exact words f f' given contents ended quiet tells r g g' old new calm (λ e. cc) e)
