use Rattle.std.proofs.Common.{◌≡◌, ◌++◌, drop}
use Rattle.ol_translate.specs.Translation.{name_links}
use Rattle.ol_translate.proofs.parts.Parts.join_names.Given as goal

-- the links that are laid down and those that are left make the whole
abbrev pub invariant-loop-wire : goal.invariant-loop-wire
invariant-loop-wire l = record {
  nodes : l.self.nodes.items ≡ l.fn.self.nodes.items;
  links : l.self.links.items ++ name_links
      (drop l.wire-index l.wire-items) ≡ l.fn.self.links.items ++ name_links l.wire-items;
}
