use Rattle.std.proofs.Common.{◌≡◌, ◌++◌, rules, sym, ap, ◌∙◌, subst, List, ℕ, codes}
use Rattle.std.specs.Prelude.{All}
use Rattle.ol_subjects.specs.declared.answers.End.TheVariants.{Refused}
use Rattle.ol_derivations.specs.Lines.{lines_of}
use Rattle.ol_derivations.specs.declared.applying.Input.{Input}
use Rattle.ol_derivations.specs.declared.inputs.Inputs.{Inputs}
use Rattle.ol_derivations.specs.Applications.{IsInput}
use Rattle.ol_derivations.specs.Grades.{AreInputs, IsGraded}
use Rattle.ol_derivations.specs.StudentsSoFar.{IsInputs, texts_of}
use Rattle.ol_derivations.proofs.Said.{graded_so}
use Rattle.ol_derivations.proofs.grading.grade.Goals as goal

pub graded_on-requires : goal.graded_on-requires
graded_on-requires c =
    let h = subst (λ (r : Inputs). IsInputs (lines_of c.args.inputs.now) r) c.in-Lines.is c.in_ok-line.ensures in
    let v : c.deref-in-Lines.result.now ≡ c.in-Lines.lines.items = search rules in
    record {
      inputs = subst (λ (l : List Input). All IsInput l) (sym v) h.1;
    }

pub returns-in_ok-answer-in-Fault : goal.returns-in_ok-answer-in-Fault
returns-in_ok-answer-in-Fault c =
    let text = c.in-Fault.line.items in
    let a = c.in_ok-answer-in-Fault in
    let h = subst (λ (r : Inputs). IsInputs (lines_of c.args.inputs.now) r) c.in-Fault.is c.in_ok-line.ensures in
    let v : c.deref.result.now ≡ text = search rules in
    graded_so c.args.inputs.now c.args.solution.now c.args.students.now c.args.bounds a.answer.text.items
    (codes "inputs: " ++ text) a.answer.end Refused
    (a.ensures.text ∙ ap (λ (line : List ℕ). codes "inputs: " ++ line) v) a.ensures.end (IsGraded.bad_inputs h)

pub returns-in_ok-answer-in-Lines : goal.returns-in_ok-answer-in-Lines
returns-in_ok-answer-in-Lines c =
    let h = subst (λ (r : Inputs). IsInputs (lines_of c.args.inputs.now) r) c.in-Lines.is c.in_ok-line.ensures in
    let v : c.deref-in-Lines.result.now ≡ c.in-Lines.lines.items = search rules in
    c.in_ok-answer-in-Lines.ensures c.args.inputs.now
    (subst (λ (l : List Input). AreInputs (lines_of c.args.inputs.now) (texts_of l)) (sym v) h.0)
