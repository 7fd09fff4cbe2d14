-- What a call comes to, by what its answer comes to and by what is written of it.
use Rattle.std.proofs.Common.{◌≡◌, ℕ, ◌<◌, ◌^◌, List, length, Option, String, Global, Result, Ok, Err}
use Rattle.std.proofs.Common.{IfOk, inl, inr, refl, sym, subst, arith}
use Rattle.ol_io.specs.Outside.{Appended}
use Rattle.ol_limits.specs.declared.NoMemory as no_memory
use Rattle.ol_words.specs.declared.jobs.Job.{Job}
use Rattle.ol_cli.specs.declared.answer.Answer.{Answer}
use Rattle.ol_cli.specs.declared.top.Outcome.{Outcome}
use Rattle.ol_cli.specs.declared.status.Status.{Status}
use Rattle.ol_cli.specs.declared.status.Status.TheVariants.{WriteFault, NoMemory}
use Rattle.ol_cli.specs.Jobs.{AskFor}
use Rattle.ol_cli.specs.Answers.{Ends, HasCause, Seen}
use Rattle.ol_cli.specs.Cases.{Cause}
use Rattle.ol_cli.specs.Handed.{Hands}
use Rattle.ol_cli.specs.Inside.{ComesOf, ComesOfWords, Writes}
use Rattle.ol_cli.proofs.Causing.{cause_by}
use Rattle.ol_cli.proofs.Exact.{job_cause, job_told}
use Rattle.ol_cli.proofs.Handing.{text_hands, words_hand}

module _ (words : List (String Global)) (s : Seen) (g g' : ℕ) (old new : Option (List ℕ)) where
  -- a text that was written whole, or of which a prefix was taken
  whole : (st : Status) (text : List ℕ) → Cause words s st text → length text < 2 ^ 64 → g' ≡ g → Appended old text new →
      Ends (HasCause words s) st g g' old new
  whole NoMemory text c short same w = absurd (job_told s NoMemory text c.0 c.2)
  whole WriteFault text c short same w = absurd (job_told s WriteFault text c.0 c.2)
  whole st text c short same w = (st, text, cause_by words s st text c, (refl, same, w), short)

  -- the text of an answer is that of a `Vec`, whose length is below 2^64
  pub call_ends : (made : Result Answer no_memory.NoMemory) (o : Outcome) →
      Writes made o g g' old new → IfOk made (ComesOfWords words s) → Ends (HasCause words s) o.status g g' old new
  call_ends (Err e) o w h = subst (λ (o : Outcome). Ends (HasCause words s) o.status g g' old new) (sym w.0) (w.2, w.1)
  call_ends (Ok a) o w h =
      let short : length a.text.items < 2 ^ 64 = omega (arith, a.text.ok.0) in
      elim w [
        | inl k ↦ subst (λ (o : Outcome). Ends (HasCause words s) o.status g g' old new) (sym k.0)
            (whole a.status a.text.items h.caused short k.1 k.2)
        | inr k ↦ subst (λ (o : Outcome). Ends (HasCause words s) o.status g g' old new) (sym k.0)
            (a.status, a.text.items, cause_by words s a.status a.text.items h.caused, (k.1, k.2), short)
      ]

  pub call_hands : (made : Result Answer no_memory.NoMemory) (o : Outcome) →
      Writes made o g g' old new → IfOk made (ComesOfWords words s) → Hands words s o.status o.closed old new
  call_hands (Err e) o w h = subst (λ (o : Outcome). Hands words s o.status o.closed old new) (sym w.0) refl
  call_hands (Ok a) o w h = elim w [
    | inl k ↦ subst (λ (o : Outcome). Hands words s o.status o.closed old new) (sym k.0)
        (text_hands words s a.status a.text.items a.closed old new k.2 h.closed)
    | inr k ↦ subst (λ (o : Outcome). Hands words s o.status o.closed old new) (sym k.0) refl
  ]

-- what a job comes to is what the words come to that ask for it
pub words_come : (words : List (String Global)) (s : Seen) (job : Job) (a : Answer) →
    AskFor words job → ComesOf job s a → ComesOfWords words s a
words_come words s job a j h = record {
  caused = job_cause words s job a.status a.text.items j h.caused;
  closed = words_hand words job s a.status a.text.items a.closed j h.closed;
}
