use Rattle.std.proofs.Common.{◌≡◌, ◌++◌, length, drop}
use Rattle.ol_translate.specs.Translation.{fans}
use Rattle.ol_translate.specs.Growth.{IsIndex}
use Rattle.ol_translate.proofs.parts.Parts.fans.Given as goal

abbrev pub invariant-loop-wire : goal.invariant-loop-wire
invariant-loop-wire l =
    let left = fans l.level (length l.self.nodes.items) l.wires.items (drop l.wire-index l.wire-items) in
    let all = fans l.level (length l.fn.self.nodes.items) l.fn.wires.items l.wire-items in
    record {
      nodes : l.self.nodes.items ++ left.nodes ≡ l.fn.self.nodes.items ++ all.nodes;
      links : l.self.links.items ++ left.links ≡ l.fn.self.links.items ++ all.links;
      wires : left.wires ≡ all.wires;
      index : IsIndex l.self.index.places.items l.wires.items;
    }
