use Rattle.std.proofs.Common.{rules, ◌≡◌, List, [], ap, ◌∙◌}
use Rattle.ol_term.specs.Trees.{tree_of}
use Rattle.ol_steps.specs.Lets.{values_of_lets}
use Rattle.ol_steps.specs.ValueTrees.{rows_of}
use Rattle.ol_steps.specs.declared.lets.NamedValue.{NamedValue}
use Rattle.ol_steps.specs.Folded.{all_folded}
use Rattle.ol_steps.proofs.ValuesPutIn.{none_folded}
use Rattle.ol_steps.proofs.folding.copy.Goals as goal

pub returns : goal.returns
returns c =
    let t = tree_of c.args.term.now in
    let none : c.deref.result.now ≡ [] = search rules in
    c.in_ok-copy.ensures
    ∙ ap (λ (rows : List NamedValue). all_folded 0 (values_of_lets (rows_of rows)) t) none ∙ none_folded 0 t
