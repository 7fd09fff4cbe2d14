use Rattle.std.proofs.Common.{subst, List, ℕ}
use Rattle.ol_derivations.specs.declared.functions.Parsed.{Parsed}
use Rattle.ol_derivations.specs.Grades.{IsNoSolution}
use Rattle.ol_derivations.specs.StudentsSoFar.{IsParsed, IsSolved, texts_of}
use Rattle.ol_derivations.proofs.grading.solve.Goals as goal

pub returns-in-Fault : goal.returns-in-Fault
returns-in-Fault c = IsNoSolution.bad_text
    (subst (λ (p : Parsed). IsParsed c.args.solution.now p) c.in-Fault.is c.in_ok-words.ensures)

pub trees_of-requires-clause-function : goal.trees_of-requires-clause-function
trees_of-requires-clause-function c =
    let h = subst (λ (p : Parsed). IsParsed c.args.solution.now p) c.in-Function.is c.in_ok-words.ensures in h.1

pub returns-in_ok-solved-in-Function : goal.returns-in_ok-solved-in-Function
returns-in_ok-solved-in-Function c =
    let h = subst (λ (p : Parsed). IsParsed c.args.solution.now p) c.in-Function.is c.in_ok-words.ensures in
    subst (λ (text : List ℕ). IsSolved c.args.bounds (texts_of c.args.inputs.now) text c.in_ok-solved-in-Function.solved) h.0
    c.in_ok-solved-in-Function.ensures
