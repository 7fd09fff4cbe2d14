-- Tests on numbers, members of lists, and indexes after a rule, as the proofs of this crate use them.
-- Used in Closing.Nodes, Degrees.After, Links.Ends and Ticket.Refs.
use Rattle.std.proofs.Common.{ℕ, ◌+◌, ◌≤◌, arith}
use Rattle.ol_net.specs.declared.parts.Rule.{Rule}
use Rattle.ol_net.specs.declared.parts.Rule.TheVariants as rule
use Rattle.ol_rules.specs.Rewriting.{index_after}

-- no rule raises an index by more than 1
pub index_after_small : (r : Rule) (j : ℕ) → index_after r j ≤ j + 1
index_after_small rule.CrossCroissant j = omega arith
index_after_small rule.CrossBracket j = omega arith
index_after_small rule.Beta j = omega arith
index_after_small rule.Fan j = omega arith
index_after_small rule.Croissant j = omega arith
index_after_small rule.Bracket j = omega arith
index_after_small rule.CrossFan j = omega arith
index_after_small rule.Erase j = omega arith
