-- What a job on two files comes to, which hands back nothing.
use Rattle.std.proofs.Common.{◌≡◌, None}
use Rattle.ol_term.specs.declared.translations.Translation.{Translation}
use Rattle.ol_words.specs.Texts.{Text}
use Rattle.ol_words.specs.declared.jobs.Job.TheVariants as jobs
use Rattle.ol_cli.specs.declared.answer.Answer.{Answer}
use Rattle.ol_cli.specs.declared.numbers.RunNumbers.{RunNumbers}
use Rattle.ol_cli.specs.Answers.{Seen}
use Rattle.ol_cli.specs.Cases.{JobCause}
use Rattle.ol_cli.specs.Inside.{ComesOf, equal_on}
use Rattle.ol_cli.proofs.Handing.{none_ended}

pub check_comes : (tr : Translation) (term journal : Text) (s : Seen) (a : Answer) →
    JobCause s a.status a.text.items (jobs.Check tr term journal) → a.closed ≡ None →
    ComesOf (jobs.Check tr term journal) s a
check_comes tr term journal s a cause none = record {
  caused = cause;
  closed = none_ended a.status a.closed none;
}

pub equal_comes : (n : RunNumbers) (first second : Text) (s : Seen) (a : Answer) →
    JobCause s a.status a.text.items (equal_on n first second) → a.closed ≡ None →
    ComesOf (equal_on n first second) s a
equal_comes n first second s a cause none = record {
  caused = cause;
  closed = none_ended a.status a.closed none;
}
