use Rattle.std.proofs.Common.{◌≡◌, ◌++◌, length, drop}
use Rattle.ol_translate.specs.Translation.{bracket_nodes, bracket_links, past_brackets}
use Rattle.ol_translate.proofs.parts.Parts.brackets.Given as goal

-- what is laid down and what is left to lay make the whole
abbrev pub invariant-loop-wire : goal.invariant-loop-wire
invariant-loop-wire l = record {
  nodes : l.self.nodes.items ++ bracket_nodes l.level
      (drop l.wire-index l.wire-items) ≡ l.fn.self.nodes.items ++ bracket_nodes l.level l.wire-items;
  links : l.self.links.items ++ bracket_links (length l.self.nodes.items)
      (drop l.wire-index l.wire-items) ≡ l.fn.self.links.items ++ bracket_links
      (length l.fn.self.nodes.items) l.wire-items;
  out : l.out.items ++ past_brackets (length l.self.nodes.items)
      (drop l.wire-index l.wire-items) ≡ past_brackets (length l.fn.self.nodes.items) l.wire-items;
}
