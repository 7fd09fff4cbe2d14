use Rattle.std.proofs.Common.{◌≡◌, ◌<◌, length, rules, sym, ap, ◌∙◌, subst, arith, List, ℕ, codes}
use Rattle.std.proofs.lemmas.Bool.Decides.{nat_tests}
use Rattle.ol_subjects.specs.declared.answers.End.{End}
use Rattle.ol_subjects.specs.declared.answers.End.TheVariants.{Refused}
use Rattle.ol_derivations.specs.Lines.{lines_of}
use Rattle.ol_derivations.specs.declared.grading.Solved.{Solved}
use Rattle.ol_derivations.specs.Grades.{AreInputs, IsGraded, file_line}
use Rattle.ol_derivations.specs.StudentsSoFar.{IsSolved, texts_of}
use Rattle.ol_derivations.proofs.InputByInput.{are_wanted, no_texts, some_texts}
use Rattle.ol_derivations.proofs.Said.{graded_so}
use Rattle.ol_derivations.proofs.grading.graded_on.Goals as goal

pub returns-then-is_empty : goal.returns-then-is_empty
returns-then-is_empty c bytes are =
    let none : length c.args.inputs.now ≡ 0 = grind (arith, nat_tests, c.if-is_empty.true, c.is_empty.ensures) in
    graded_so bytes c.args.solution.now c.args.students.now c.args.bounds c.in_ok-answer.answer.text.items
    (file_line (codes "inputs") (codes "none")) c.in_ok-answer.answer.end Refused c.in_ok-answer.ensures.text
    c.in_ok-answer.ensures.end
    (IsGraded.no_inputs (subst (λ l. AreInputs (lines_of bytes) l) (no_texts c.args.inputs.now none) are))

pub grades-requires-clause-wanted : goal.grades-requires-clause-wanted
grades-requires-clause-wanted c =
    let lines = texts_of c.args.inputs.now in
    let h = subst (λ (r : Solved). IsSolved c.args.bounds lines c.args.solution.now r) c.in-Trees.is c.in_ok-words.ensures in
    are_wanted c.args.bounds c.args.solution.now lines c.in-Trees.wanted.items h.1

pub returns-in_ok-answer-in-Fault : goal.returns-in_ok-answer-in-Fault
returns-in_ok-answer-in-Fault c bytes are =
    let lines = texts_of c.args.inputs.now in
    let words = c.in-Fault.words.items in
    let a = c.in_ok-answer-in-Fault in
    let h = subst (λ (r : Solved). IsSolved c.args.bounds lines c.args.solution.now r) c.in-Fault.is c.in_ok-words.ensures in
    let v : c.deref.result.now ≡ words = search rules in
    let some : 0 < length c.args.inputs.now = grind (arith, nat_tests, c.if-is_empty.false, c.is_empty.ensures) in
    graded_so bytes c.args.solution.now c.args.students.now c.args.bounds a.answer.text.items
    (file_line (codes "solution") words) a.answer.end Refused
    (a.ensures.text ∙ ap (λ (words : List ℕ). file_line (codes "solution") words) v) a.ensures.end
    (IsGraded.no_solution are (some_texts c.args.inputs.now some) h)

pub returns-in_ok-answer-in-Trees : goal.returns-in_ok-answer-in-Trees
returns-in_ok-answer-in-Trees c bytes are =
    let lines = texts_of c.args.inputs.now in
    let text = c.in_ok-answer-in-Trees.answer.text.items in
    let h = subst (λ (r : Solved). IsSolved c.args.bounds lines c.args.solution.now r) c.in-Trees.is c.in_ok-words.ensures in
    let g = c.in_ok-answer-in-Trees.ensures in
    let some : 0 < length c.args.inputs.now = grind (arith, nat_tests, c.if-is_empty.false, c.is_empty.ensures) in
    subst (λ (e : End). IsGraded bytes c.args.solution.now c.args.students.now c.args.bounds text e) (sym g.end_is)
    (IsGraded.graded are (some_texts c.args.inputs.now some) h.0 h.1 g.are)
