-- After what was fed to a checker that has no answer yet the verdict is open. Used by `found_on`.
use Rattle.std.proofs.Common.{ℕ, Bool, true, false, List, [], length, take, Option, None, Some, refl, sym, ap, ◌∙◌, subst, arith}
use Rattle.std.proofs.Common.{length-append}
use Rattle.std.proofs.lemmas.List.{append-nil, take-append-le}
use Rattle.ol_io.specs.Readings.{IsReadOf}
use Rattle.ol_limits.specs.Limits.{most_journal_bytes}
use Rattle.ol_net.specs.Graph.{Graph}
use Rattle.ol_rules.specs.Runs.{end}
use Rattle.ol_view.specs.declared.feeding.Checker.{Checker}
use Rattle.ol_view.specs.declared.forms.Form.TheVariants.{One}
use Rattle.ol_view.specs.Checks.{start_net_of_graph}
use Rattle.ol_view.specs.Feeding.{IsFed, IsRunSoFar, in_first_line, behind_run}
use Rattle.ol_view.specs.Forms.{text_of}
use Rattle.ol_view.proofs.FedRuns.{fed_run, run_not_answered}
use Rattle.ol_bench.specs.Traces.{IsOpenAfter, IsOpenAtLimit}

pub open_fed : (net : Graph) (text : List ℕ) (c : Checker) → IsFed net text c → IsOpenAfter net text
open_fed net text c h = go (fed_run net text c h)
  where
    go : IsRunSoFar (start_net_of_graph net) text → IsOpenAfter net text
    go (in_first_line line) = (
      [],
      text,
      refl,
      line,
      λ check fixed. run_not_answered net [] (text_of One [] []) One [] [] (start_net_of_graph net) check
          h.lines_read.is_net h.lines_read.few (omega arith) end refl fixed,
    )
    go (behind_run {form} {journal} {waves} {last} {rest} b line) = (
      text_of form journal waves,
      rest,
      b.begins,
      line,
      λ check fixed. run_not_answered net (text_of form journal waves) [] form journal waves last check
          h.lines_read.is_net h.lines_read.few b.few b.run (append-nil (text_of form journal waves)) fixed,
    )

-- a file that begins with what was read is open at the limit too
pub open_read : (net : Graph) (file : Option (List ℕ)) (ended : Bool) (front : List ℕ) →
    IsReadOf file ended front → IsOpenAtLimit net (Some front) → IsOpenAtLimit net file
open_read net None ended front r h = tt
open_read net (Some all) true front r h = subst (λ bs. IsOpenAtLimit net (Some bs)) r h
open_read net (Some all) false front (behind, r) (long, unsaid) = (
  (let l = length-append front behind in let e = ap length r in omega (arith, l, e, long)),
  subst (IsOpenAfter net) (sym (ap (take most_journal_bytes) r
      ∙ take-append-le most_journal_bytes front behind (omega (arith, long)))) unsaid,
)
