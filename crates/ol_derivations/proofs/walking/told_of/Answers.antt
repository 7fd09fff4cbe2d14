use Rattle.std.proofs.Common.{ap}
use Rattle.ol_term.specs.Trees.{tree_of}
use Rattle.ol_derivations.specs.StepsFound.{last_of}
use Rattle.ol_derivations.proofs.LineVerdicts.{told_first, told_behind}
use Rattle.ol_derivations.proofs.walking.told_of.Goals as goal

pub returns-in-None : goal.returns-in-None
returns-in-None c = told_first c.args.n c.nothing.result.text.items c.nothing.result.fine (tree_of c.args.term.now)
    (last_of c.args.last.now) (ap (λ last. last_of last) c.in-None.is) c.nothing.ensures.text c.nothing.ensures.fine

pub returns-in_ok-text-in-Some : goal.returns-in_ok-text-in-Some
returns-in_ok-text-in-Some c =
    let before = c.in-Some.before in
    told_behind c.args.n c.in_ok-text-in-Some.text.items c.is_fine-fine.result (tree_of c.args.term.now)
    (tree_of before.term) before.line (last_of c.args.last.now) c.in_ok-verdict-in-Some.verdict
    (ap (λ last. last_of last) c.in-Some.is) c.in_ok-verdict-in-Some.ensures c.in_ok-text-in-Some.ensures
    c.is_fine-fine.ensures
