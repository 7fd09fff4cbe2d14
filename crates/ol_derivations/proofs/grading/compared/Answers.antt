use Rattle.std.proofs.Common.{◌≡◌, ◌∙◌, rules}
use Rattle.ol_derivations.proofs.Said.{told_apart}
use Rattle.ol_derivations.proofs.grading.compared.Goals as goal

pub same_tree-requires-clause-a_named : goal.same_tree-requires-clause-a_named
same_tree-requires-clause-a_named c = c.requires.wanted

pub same_tree-requires-clause-b_named : goal.same_tree-requires-clause-b_named
same_tree-requires-clause-b_named c = c.requires.got

pub returns : goal.returns
returns c =
    let d : c.deref.result.now ≡ c.in_ok-told.told.items = search rules in
    told_apart c.args.wanted.now c.args.got.now c.args.k c.in_ok-compared.compared c.in-Some.path.now
    c.deref.result.now c.in_ok-words.words.items c.put_heads.new.text.items c.in_ok-compared.ensures c.in-Some.ensures
    (d ∙ c.in_ok-told.ensures.words) c.in_ok-words.ensures c.in_ok-put_heads.ensures
