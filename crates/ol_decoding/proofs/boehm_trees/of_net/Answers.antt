use Rattle.std.proofs.Common.{◌≡◌, ◌-◌, length, subst, arith}
use Rattle.ol_readback.specs.Texts.{AreNamed}
use Rattle.ol_decoding.proofs.boehm_trees.of_net.Goals as goal

pub tree_of-requires-clause-root : goal.tree_of-requires-clause-root
tree_of-requires-clause-root c = let p = c.requires.ports in omega arith

pub tree_text-requires : goal.tree_text-requires
tree_text-requires c =
    let p = c.requires.ports in
    let e : c.args.net.free - 1 ≡ length c.args.names.now = omega (arith, p) in
    record { free = subst (λ n. AreNamed n c.in_ok-tree.tree) e c.in_ok-tree.ensures.named }

pub returns : goal.returns
returns c = record {
  places = c.in_ok-tree.tree;
  tells = record {
    tree = c.in_ok-tree.ensures.tree;
    printed = c.in_ok-text.text.items;
    spelled = c.in_ok-text.ensures.text;
    line = c.in_ok-put.ensures;
    end = c.end_of-end.ensures;
  };
  right = c.in_ok-tree.ensures.heads;
}
