-- What the inversions of a net bound: the demand run of a net with the same paths that cost the same.
-- `ol_cli` uses it for its laws of fuel, and for what it tells that a fuel was spent.
use Rattle.std.proofs.Common.{◌≡◌, ℕ, ◌+◌, ◌<◌, ◌≤◌, ◌⊎◌, inl, inr, List, length, arith}
use Rattle.ol_net.specs.Nets.{NamedNet}
use Rattle.ol_context.specs.Paths.{HaveSamePaths}
use Rattle.ol_rules.specs.declared.journal.NodeName.{NodeName}
use Rattle.ol_rules.specs.declared.journal.Entry.{Entry}
use Rattle.ol_readback.specs.declared.answers.ReadNode.{ReadNode}
use Rattle.ol_demand.specs.Demands.{IsDemandRun}
use Rattle.ol_demand.specs.Laws.{IsStart}
use Rattle.ol_law_completeness.specs.Complete.{HaveInversions, IsReadWithin, StaysClear}
use Rattle.ol_law_completeness.proofs.Ending.{heads_are_read}
use Rattle.ol_law_completeness.proofs.OneNumber.{any_most}
use Rattle.ol_law_completeness.proofs.SameRows.{CostAlike, costs_moved}

module _ {A : Type 0} (K : NamedNet A) (N : NamedNet NodeName) (start : IsStart N)
    (clear : StaysClear N) (paths : HaveSamePaths K N) (alike : CostAlike K N) (most m : ℕ)
    (ns : List ReadNode) (r : HaveInversions K most ns m) (heads : ℕ) where
  -- asked for no more heads than are spoken of, or for any number where these are all places
  pub read_within : (heads ≤ most) ⊎ (length ns < most) → IsReadWithin N heads m ns
  read_within (inl b) =
      (heads_are_read N most m ns start clear (costs_moved K N paths alike r) heads b).0
  read_within (inr b) =
      (heads_are_read N (heads + most) m ns start clear
      (any_most N (costs_moved K N paths alike r) (omega arith) (heads + most)) heads (omega arith)).0

  -- and what is read is all of these, if as many are asked for
  pub read_all : length ns < most → length ns ≤ heads → (journal : List Entry)
      (places : List ReadNode) (M : NamedNet NodeName) → IsDemandRun N heads journal places M →
      places ≡ ns
  read_all b few journal places M d =
      (heads_are_read N (heads + most) m ns start clear
      (any_most N (costs_moved K N paths alike r) (omega arith) (heads + most)) heads (omega arith)).1
      (omega arith) few journal places M d
