use Rattle.std.proofs.Common.{rules, ◌≡◌, []}
use Rattle.ol_term.specs.Trees.{tree_of}
use Rattle.ol_derivations.specs.Reductions.{redexes}
use Rattle.ol_derivations.proofs.Redexes.{root_done}
use Rattle.ol_derivations.proofs.searching.redexes.Goals as goal

pub returns : goal.returns
returns c =
    let f : c.new-found.result.items ≡ [] = search rules in
    let a : c.new-at.result.items ≡ [] = search rules in
    root_done c.put_redexes.new.found.items c.new-found.result.items (redexes (tree_of c.args.t.now))
    c.new-at.result.items f a c.in_ok-put_redexes.ensures.found
