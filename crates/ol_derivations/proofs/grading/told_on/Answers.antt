use Rattle.std.proofs.Common.{◌+◌, length, subst, arith, ℕ, Option, Global}
use Rattle.std.specs.declared.vec.Vec.{Vec}
use Rattle.ol_derivations.specs.StudentsSoFar.{IsOn, texts_of}
use Rattle.ol_derivations.proofs.InputByInput.{as_many, input_here, named_here, right_more, wrong_here, all_right, text_here, texts_long}
use Rattle.ol_derivations.proofs.Said.{equal_told}
use Rattle.ol_derivations.proofs.grading.told_on.Goals as goal

pub wanted_at-tree-requires : goal.wanted_at-tree-requires
wanted_at-tree-requires c =
    let m = as_many (texts_of c.args.inputs.now) c.args.wanted.now.items c.requires.wanted in
    omega (arith, m, texts_long c.args.inputs.now, c.loop-k-test.true)

pub fault_on-requires-clause-input : goal.fault_on-requires-clause-input
fault_on-requires-clause-input c = input_here c.args.inputs.now c.loop-k.k c.index-inputs-k.result c.requires.inputs
    c.loop-k-test.true c.index-inputs-k.is

pub fault_on-requires-clause-wanted : goal.fault_on-requires-clause-wanted
fault_on-requires-clause-wanted c = named_here (texts_of c.args.inputs.now) c.args.wanted.now.items c.loop-k.k _
    c.requires.wanted c.wanted_at-tree.ensures

pub returns-in-Some : goal.returns-in-Some
returns-in-Some c =
    let inputs = c.args.inputs.now in
    let k = c.loop-k.k in
    let line = c.index-inputs-k.result.text.now in
    let d = text_here inputs k c.index-inputs-k.result c.loop-k-test.true c.index-inputs-k.is in
    let student = c.args.student.now.text.now in
    let h = subst (λ (o : Option (Vec ℕ Global)). IsOn c.args.bounds student line c.wanted_at-tree.result.now (k + 1) o)
    c.in-Some.is c.in_ok-fault_on.ensures in
    wrong_here c.args.bounds (texts_of inputs) k line d student c.args.wanted.now.items
    c.wanted_at-tree.result.now c.wanted_at-tree.ensures c.in-Some.words.items c.requires.function.text
    c.loop-k.invariant h

pub loop-k-preserved : goal.loop-k-preserved
loop-k-preserved c =
    let inputs = c.args.inputs.now in
    let k = c.loop-k.k in
    let line = c.index-inputs-k.result.text.now in
    let d = text_here inputs k c.index-inputs-k.result c.loop-k-test.true c.index-inputs-k.is in
    let student = c.args.student.now.text.now in
    let h = subst (λ (o : Option (Vec ℕ Global)). IsOn c.args.bounds student line c.wanted_at-tree.result.now (k + 1) o)
    c.in-None.is c.in_ok-fault_on.ensures in
    right_more c.args.bounds (texts_of inputs) k line d student c.args.wanted.now.items
    c.wanted_at-tree.result.now c.wanted_at-tree.ensures c.loop-k.invariant h

pub returns : goal.returns
returns c =
    let inputs = c.args.inputs.now in
    let wanted = c.args.wanted.now.items in
    let student = c.args.student.now.text.now in
    let n = texts_long inputs in
    let m = as_many (texts_of inputs) wanted c.requires.wanted in
    equal_told c.args.bounds (texts_of inputs) wanted student (length inputs) c.in_ok-words.words.items n
    c.in_ok-words.ensures c.requires.function.text
    (all_right c.args.bounds (texts_of inputs) c.loop-k.k student wanted
    (omega (arith, n, c.loop-k-test.false)) (omega (arith, m, n, c.loop-k-test.false)) c.loop-k.invariant)
