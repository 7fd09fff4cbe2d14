use Rattle.std.proofs.Common.{rules, ◌≡◌, true, false}
use Rattle.std.specs.Prelude.{is_some}
use Rattle.ol_term.specs.Trees.{tree_of}
use Rattle.ol_derivations.proofs.Seeking.{step_made, step_missed}
use Rattle.ol_derivations.proofs.searching.seek_step.Goals as goal

pub returns-then-is_some : goal.returns-then-is_some
returns-then-is_some c = λ left.
    let e : is_some c.in_ok-found.found ≡ true = search rules in
    step_made (tree_of c.args.t.now) (tree_of c.args.u.now) left c.in_ok-found.found e c.in_ok-found.ensures

pub returns : goal.returns
returns c = λ left.
    let e : is_some c.in_ok-found.found ≡ false = search rules in
    step_missed (tree_of c.args.t.now) (tree_of c.args.u.now) left c.in_ok-found.found e c.in_ok-found.ensures
