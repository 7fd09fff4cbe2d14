-- Places without a head that a demand run finds: what they say of the net before it.
use Rattle.std.specs.Prelude.{ℕ, ◌≤◌, true, List}
use Rattle.ol_net.specs.Nets.{NamedNet, IsNet}
use Rattle.ol_context.specs.Contexts.{Level}
use Rattle.ol_context.specs.Short.{live}
use Rattle.ol_rules.specs.declared.journal.Entry.{Entry}
use Rattle.ol_rules.specs.declared.journal.NodeName.{NodeName}
use Rattle.ol_readback.specs.Frames.{asked}
use Rattle.ol_readback.specs.Heads.{NoPath}
use Rattle.ol_readback.specs.Sources.{HasHeadsOf}
use Rattle.ol_readback.specs.declared.answers.ReadNode.{ReadNode}
use Rattle.ol_demand.specs.Chains.{Ends, undefined}
use Rattle.ol_demand.specs.Demands.{IsDemandRun}
use Rattle.ol_demand.specs.Laws.{IsStart}
use Rattle.ol_law_levels.specs.Levels.{IsLevelled}

-- Where the chain that asks for n abstractions, at least as many as there are nodes, comes to a
-- crossing that isn't defined, no path leaves for n abstractions or more. Active pairs may be left,
-- but the chain met none.
abbrev pub LostIsLost : Type 0 → Type 0
LostIsLost A = (N : NamedNet A) → IsNet N → IsLevelled N → (p : ℕ) (ls : List Level) (n : ℕ) →
    live N ≤ n → Ends N p (asked ls n) undefined → (m : ℕ) → n ≤ m → NoPath N p (asked ls m)

-- So the places of a demand run from a levelled net are those of that net: a head is the one that
-- it gives for its frame, by paths of any length, and a place without a head has none there.
abbrev pub DemandPlacesAreTheSources : Type 0
DemandPlacesAreTheSources = (N M : NamedNet NodeName) (heads : ℕ) (journal : List Entry)
    (places : List ReadNode) →
    IsStart N → IsLevelled N → IsDemandRun N heads journal places M → HasHeadsOf N true places
