use Rattle.std.proofs.Common.{◌≡◌, List, ℕ, rules, ap, ◌∙◌}
use Rattle.ol_term.specs.Trees.{tree_of}
use Rattle.ol_steps.specs.Trees.{binders_in}
use Rattle.ol_steps.specs.Contraction.{contracted}
use Rattle.ol_steps.proofs.stepping.contracted.Goals as goal

pub returns : goal.returns
returns c =
    let t = tree_of c.args.term.now in
    let s = binders_in c.args.binders.now in
    let moves : c.deref.result.now ≡ c.args.at.now = search rules in
    c.in_ok-after.ensures ∙ ap (λ (ms : List ℕ). contracted t s ms) moves
