use Rattle.std.proofs.Common.{ℕ, List}
use Rattle.ol_term.specs.Trees.{tree_of}
use Rattle.ol_cli.specs.Walk.{Walks}
use Rattle.ol_cli.specs.Texts.{line}
use Rattle.ol_cli.proofs.Evaluated.{own_walks, reads_text}
use Rattle.ol_cli.proofs.commands.walk.walk_net.Goals as goal

pub returns : goal.returns
returns c = record {
  text = reads_text (λ (text : List ℕ).
      Walks c.args.translation (tree_of c.args.file.now.term) c.args.file.now.names c.args.edges
      c.args.heads.most text) c.term_line.result (line c.in_ok-term.term.items)
      (rw c.deref.ensures.value at c.term_line.ensures)
      (λ text e. own_walks c.args.translation
      (tree_of c.args.file.now.term) c.args.file.now.names c.args.net.now c.requires.net
      c.args.edges c.args.heads.most c.in_ok-tree.tree c.in_ok-term.term.items text
      c.in_ok-tree.ensures.tree c.in_ok-term.ensures.text e);
}
