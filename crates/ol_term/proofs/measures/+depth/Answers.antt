use Rattle.std.proofs.Common.{arith}
use Rattle.std.proofs.lemmas.Grind.{common_steps}
use Rattle.ol_term.specs.Trees.{tree_of}
use Rattle.ol_term.proofs.Items.{depth_small}
use Rattle.ol_term.proofs.measures.+depth.Goals as goal

pub overflow_add-result : goal.overflow_add-result
overflow_add-result t c =
    let few = c.requires.few in
    let d = depth_small (tree_of c.in-Lam.body.value) in
    grind (arith, common_steps)

pub overflow_add-result-in-App : goal.overflow_add-result-in-App
overflow_add-result-in-App t c =
    let few = c.requires.few in
    let d = depth_small (tree_of c.in-App.function.value) in
    let e = depth_small (tree_of c.in-App.argument.value) in
    grind (arith, common_steps)
