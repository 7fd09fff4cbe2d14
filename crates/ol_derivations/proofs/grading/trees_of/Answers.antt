use Rattle.std.proofs.Common.{◌+◌, take, sym, subst, List, arith}
use Rattle.std.specs.List.{AllZip}
use Rattle.ol_derivations.specs.declared.grading.Wanted.{Wanted}
use Rattle.ol_derivations.specs.declared.read_trees.Seen.{Seen}
use Rattle.ol_derivations.specs.Reads.{HasWholeTree}
use Rattle.ol_derivations.specs.StudentsSoFar.{IsWanted, texts_of}
use Rattle.ol_derivations.proofs.InputByInput.{input_here, tree_more, no_tree_here, text_here, texts_long, all_trees}
use Rattle.ol_derivations.proofs.grading.trees_of.Goals as goal

pub wanted_on-requires-clause-input : goal.wanted_on-requires-clause-input
wanted_on-requires-clause-input c = input_here c.args.inputs.now c.loop-k.k c.index-inputs-k.result c.requires.inputs
    c.loop-k-test.true c.index-inputs-k.is

pub returns-in-Fault : goal.returns-in-Fault
returns-in-Fault c =
    let inputs = c.args.inputs.now in
    let k = c.loop-k.k in
    let line = c.index-inputs-k.result.text.now in
    let d = text_here inputs k c.index-inputs-k.result c.loop-k-test.true c.index-inputs-k.is in
    let solution = c.args.solution.now.text.now in
    let h = subst (λ (r : Wanted). IsWanted c.args.bounds solution line (k + 1) r) c.in-Fault.is
    c.in_ok-seen.ensures in
    no_tree_here c.args.bounds (texts_of inputs) k line d solution c.loop-k.trees.items h.0
    c.in-Fault.words.items c.requires.function.text c.loop-k.invariant h.1 h.2

pub loop-k-preserved : goal.loop-k-preserved
loop-k-preserved c =
    let inputs = c.args.inputs.now in
    let k = c.loop-k.k in
    let line = c.index-inputs-k.result.text.now in
    let d = text_here inputs k c.index-inputs-k.result c.loop-k-test.true c.index-inputs-k.is in
    let solution = c.args.solution.now.text.now in
    let h = subst (λ (r : Wanted). IsWanted c.args.bounds solution line (k + 1) r) c.in-Whole.is
    c.in_ok-seen.ensures in
    subst (λ (trees : List Seen). AllZip (HasWholeTree c.args.bounds solution) (take (k + 1) (texts_of inputs)) trees)
    (sym c.in_ok-push-in-Whole.ensures.items)
    (tree_more c.args.bounds (texts_of inputs) k line d solution c.loop-k.trees.items c.in-Whole.seen
    c.loop-k.invariant h)

pub returns : goal.returns
returns c =
    let inputs = c.args.inputs.now in
    let n = texts_long inputs in (
      c.requires.function.text,
      all_trees c.args.bounds (texts_of inputs) c.loop-k.k c.args.solution.now.text.now
          c.loop-k.trees.items (omega (arith, n, c.loop-k-test.false)) c.loop-k.invariant,
    )
