use Rattle.ol_term.specs.Trees.{tree_of}
use Rattle.ol_translate.proofs.Bound.{laid_names_fit}
use Rattle.ol_translate.proofs.parts.Parts.whole.Goals as goal

pub join_names-requires : goal.join_names-requires
join_names-requires c =
    let laid = c.in_ok-ends.ensures.lays in
    record {
      few = laid_names_fit c.args.translation
          (tree_of c.args.term.now) c.requires.0 c.new.result.items c.part.new.self.nodes.items
          c.in_ok-ends.ends.wires.items
          c.requires.1 c.new.ensures.items laid.wires_are laid.nodes_are c.part.new.self.few;
    }
