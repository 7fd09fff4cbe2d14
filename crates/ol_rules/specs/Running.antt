-- Private: what waits while a one-thread run is on its way, and its lead.
use Rattle.std.specs.Prelude.{◌≡◌, ℕ, ◌≤◌, true, Option, MatchOption}
use Rattle.std.specs.Ordering.{nat_cmp}
use Rattle.std.specs.BTreeSet.{BTreeSet, contains}
use Rattle.ol_net.specs.declared.parts.Rule.{Rule}
use Rattle.ol_net.specs.declared.parts.NodeId.{NodeId}
use Rattle.ol_net.specs.Graph.{Graph}
use Rattle.ol_net.specs.Nets.{slot, Linked}
use Rattle.ol_net.specs.Numbered.{net_of}
use Rattle.ol_net.specs.Pairs.{IsInActive, IsComplete}
use Rattle.ol_rules.specs.UnderWay.{IsPair}

-- each node of an active pair waits
abbrev pub AllWait : Graph → BTreeSet ℕ → Type 0
AllWait g waiting = (x : ℕ) (r : Rule) → IsInActive (net_of g) x r → contains nat_cmp waiting x ≡ true

-- each but this one
abbrev pub OthersWait : Graph → ℕ → BTreeSet ℕ → Type 0
OthersWait g at waiting = (x : ℕ) (r : Rule) → IsInActive (net_of g) x r → (x ≡ at → ⊥) →
    contains nat_cmp waiting x ≡ true

-- of all nodes of active pairs `at` has the least number, and it faces its partner
pub record IsLeast (g : Graph) (at partner : ℕ) : Type 0 where
  pub rule : Rule
  pub active : IsInActive (net_of g) at rule
  pub linked : Linked (net_of g) (slot at 0) (slot partner 0)
  pub least : (x : ℕ) (r : Rule) → IsInActive (net_of g) x r → at ≤ x

-- the lead, as its smaller number and the other one, or None where no pair is active
abbrev pub FindsLead : Graph → Option (NodeId × NodeId) → Type 0
FindsLead g found = MatchOption found (IsComplete (net_of g)) (λ pair. IsLeast g pair.0.0 pair.1.0)

-- each node of an active pair waits, but for the smaller one of a lead that was found
abbrev pub AllWaitBut : Graph → Option (NodeId × NodeId) → BTreeSet ℕ → Type 0
AllWaitBut g found waiting = MatchOption found (AllWait g waiting) (λ pair. OthersWait g pair.0.0 waiting)

-- the other node of this one's active pair, or None where it is in none
abbrev pub FindsPartner : Graph → ℕ → Option NodeId → Type 0
FindsPartner g at found = MatchOption found ((r : Rule) → IsInActive (net_of g) at r → ⊥)
    (λ partner. (r : Rule) × IsPair (net_of g) at partner.0 r)
