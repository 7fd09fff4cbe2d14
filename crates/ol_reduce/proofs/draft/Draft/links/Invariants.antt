use Rattle.std.proofs.Common.{◌≡◌}
use Rattle.ol_reduce.specs.Drafts.{link_row}
use Rattle.ol_rules.specs.Listed.{each}
use Rattle.ol_reduce.proofs.draft.Draft.links.Given as goal

abbrev pub invariant-loop-place : goal.invariant-loop-place
invariant-loop-place l = l.links.items ≡ each l.place (link_row l.self.free l.self.partners.items)
