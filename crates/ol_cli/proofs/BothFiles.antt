-- What comes of two files that are compared.
use Rattle.std.proofs.Common.{◌≡◌, ℕ, ◌+◌, Bool, List, subst}
use Rattle.ol_io.specs.Outside.{IsAllOf}
use Rattle.ol_readback.specs.declared.answers.ReadNode.{ReadNode}
use Rattle.ol_words.specs.Texts.{Text}
use Rattle.ol_words.specs.declared.jobs.Job.TheVariants as jobs
use Rattle.ol_cli.specs.declared.numbers.RunNumbers.{RunNumbers}
use Rattle.ol_cli.specs.declared.status.Status.{Status}
use Rattle.ol_cli.specs.Jobs.{Files}
use Rattle.ol_cli.specs.Answers.{Seen}
use Rattle.ol_cli.specs.Cases.{seen, on_second, JobCause, by_second, by_both}
use Rattle.ol_cli.specs.Equal.{HasTree}
use Rattle.ol_cli.specs.Sides.{IsReadOf, EndsSecond, refused, compared}

-- what the read of the second file ended with, after that of the first
after_first : (n : RunNumbers) (tree : List ReadNode) (names : List (List ℕ))
    (faults mid faults' given : ℕ) (contents then : Files) (ended : Bool) (name : Text)
    (st : Status) (text : List ℕ) → mid ≡ faults → then ≡ contents →
    EndsSecond n tree names (seen mid faults' then given ended) name st text →
    EndsSecond n tree names (seen faults faults' contents given ended) name st text
after_first n tree names faults mid faults' given contents then ended name st text e d h =
    subst (λ f. EndsSecond n tree names (seen f faults' contents given ended) name st text) e
    (subst (λ k. EndsSecond n tree names (seen mid faults' k given ended) name st text) d h)

abbrev pub has_tree : (n : RunNumbers) (bytes : List ℕ) (names : List (List ℕ))
    (tree : List ReadNode) → IsReadOf n bytes names tree → HasTree n.translation bytes n.fuel.most n.heads.most
has_tree n bytes names tree r = record { term = r.term; names = names; tree = tree; file = r.file; read = r.read }

both_cause : (n : RunNumbers) (s : Seen) (first second : Text) (bytes : List ℕ)
    (names : List (List ℕ)) (tree : List ReadNode) (st : Status) (text : List ℕ) →
    IsAllOf (s.contents 0 first) bytes → IsReadOf n bytes names tree →
    EndsSecond n tree names (on_second s) second st text →
    JobCause s st text (jobs.Equal n.translation n.workers.count n.fuel.most n.heads.most first second)
both_cause n s first second bytes names tree st text whole r (refused isnt c) = by_second whole
    (has_tree n bytes names tree r) isnt c
both_cause n s first second bytes names tree st text whole r
    (compared same {bytes = bytes'} gave {others = others} {other = other} r' c h is e) =
    by_both same whole (has_tree n bytes names tree r) gave (has_tree n bytes' others other r') is (c, h, e)

pub second_cause : (n : RunNumbers) (first second : Text) (bytes : List ℕ) (names : List (List ℕ))
    (tree : List ReadNode) (faults mid faults' given : ℕ) (contents then : Files) (ended : Bool)
    (st : Status) (text : List ℕ) →
    mid ≡ faults → then ≡ (λ n. contents (n + 1)) → IsAllOf (contents 0 first) bytes →
    IsReadOf n bytes names tree → EndsSecond n tree names (seen mid faults' then given ended) second st text →
    JobCause (seen faults faults' contents given ended) st text
    (jobs.Equal n.translation n.workers.count n.fuel.most n.heads.most first second)
second_cause n first second bytes names tree faults mid faults' given contents then ended st text e d whole r h =
    both_cause n (seen faults faults' contents given ended) first second bytes names tree st text
    whole r (after_first n tree names faults mid faults' given
    (λ n. contents (n + 1)) then ended second st text e d h)
