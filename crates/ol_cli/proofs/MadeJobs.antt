-- What `gen` comes to: a text that is made, or what `run` answers to it.
use Rattle.std.proofs.Common.{◌≡◌, ℕ, List, None, true, false, subst}
use Rattle.ol_term.specs.declared.translations.Translation.{Translation}
use Rattle.ol_term.specs.Generated.{doubled_text}
use Rattle.ol_words.specs.declared.jobs.Job.TheVariants as jobs
use Rattle.ol_cli.specs.declared.answer.Answer.{Answer}
use Rattle.ol_cli.specs.declared.status.Status.TheVariants.{Done}
use Rattle.ol_cli.specs.Answers.{Seen}
use Rattle.ol_cli.specs.Cases.{by_making, FileAnswer}
use Rattle.ol_cli.specs.Generate.{plain_run}
use Rattle.ol_cli.specs.TermFiles.{FileHands}
use Rattle.ol_cli.specs.Handed.{WhereEnded}
use Rattle.ol_cli.specs.Inside.{ComesOf}
use Rattle.ol_cli.proofs.Handing.{none_ended}

pub made_comes : (tr : Translation) (k : ℕ) (s : Seen) → s.faults' ≡ s.faults → (a : Answer) →
    a.status ≡ Done → a.text.items ≡ doubled_text k → a.closed ≡ None →
    ComesOf (jobs.Gen tr false k) s a
made_comes tr k s same a is e none = record {
  caused = by_making same (is, e);
  closed = none_ended a.status a.closed none;
}

pub run_comes : (tr : Translation) (k : ℕ) (s : Seen) → s.faults' ≡ s.faults → (a : Answer)
    (bytes : List ℕ) → bytes ≡ doubled_text k →
    FileAnswer (plain_run tr) bytes a.status a.text.items →
    WhereEnded a.status a.closed (FileHands (plain_run tr) bytes a.status a.text.items a.closed) →
    ComesOf (jobs.Gen tr true k) s a
run_comes tr k s same a bytes e h closed = record {
  caused =
      by_making same
      (subst (λ (b : List ℕ). FileAnswer (plain_run tr) b a.status a.text.items) e h);
  closed =
      subst
      (λ (b : List ℕ). WhereEnded a.status a.closed
      (FileHands (plain_run tr) b a.status a.text.items a.closed))
      e closed;
}
