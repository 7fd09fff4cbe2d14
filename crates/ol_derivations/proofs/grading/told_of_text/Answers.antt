use Rattle.std.proofs.Common.{subst, List, ℕ}
use Rattle.ol_derivations.specs.declared.functions.Parsed.{Parsed}
use Rattle.ol_derivations.specs.Grades.{IsGrade}
use Rattle.ol_derivations.specs.StudentsSoFar.{IsParsed, texts_of}
use Rattle.ol_derivations.proofs.grading.told_of_text.Goals as goal

pub returns-in-Fault : goal.returns-in-Fault
returns-in-Fault c = IsGrade.bad_text
    (subst (λ (p : Parsed). IsParsed c.args.student.now p) c.in-Fault.is c.in_ok-words.ensures)

pub told_on-requires-clause-function : goal.told_on-requires-clause-function
told_on-requires-clause-function c =
    let h = subst (λ (p : Parsed). IsParsed c.args.student.now p) c.in-Function.is c.in_ok-words.ensures in h.1

pub returns-in_ok-told-in-Function : goal.returns-in_ok-told-in-Function
returns-in_ok-told-in-Function c =
    let h = subst (λ (p : Parsed). IsParsed c.args.student.now p) c.in-Function.is c.in_ok-words.ensures in
    let told = c.in_ok-told-in-Function.told in
    subst (λ (text : List ℕ). IsGrade c.args.bounds (texts_of c.args.inputs.now) c.args.wanted.now.items text
    told.words.items told.fine) h.0 c.in_ok-told-in-Function.ensures
