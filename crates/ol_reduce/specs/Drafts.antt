-- Private: a net while its links are found, and what it becomes.
use Rattle.std.specs.Prelude.{ℕ, nat_lt, if◌then◌else◌, List, [], ◌∷◌, ◌<◌, length, ◌≤◌}
use Rattle.ol_net.specs.declared.parts.Kind.{Kind}
use Rattle.ol_net.specs.declared.parts.Port.{Port}
use Rattle.ol_net.specs.Pairing.{other}
use Rattle.ol_net.specs.Graph.{port_at, IsTabled, Graph}
use Rattle.ol_net.specs.Build.{NoneOf, BadIndexAt, Builds}
use Rattle.ol_net.specs.Numbered.{all_live}
use Rattle.ol_rules.specs.Listed.{each}

-- the greatest index that a frozen net may have
abbrev pub frozen_top : ℕ
frozen_top = 100000000

-- the link of place k and its partner, where k is the lower one
abbrev pub link_row : ℕ → List ℕ → ℕ → List (Port × Port)
link_row free partners k = if nat_lt k (other partners k) then
    (port_at free k, port_at free (other partners k)) ∷ [] else []

-- Each port has a partner, and no index is too great.
pub record IsFullDraft (free : ℕ) (kinds : List (Kind × ℕ)) (partners : List ℕ) : Type 0 where
  pub tabled : IsTabled free (all_live kinds) partners
  pub indexes : NoneOf (BadIndexAt frozen_top kinds)

-- all links
abbrev pub all_links : ℕ → List ℕ → List (Port × Port)
all_links free partners = each (length partners) (link_row free partners)

-- both are places of the table
abbrev pub AreWithin : List ℕ → ℕ → ℕ → Type 0
AreWithin partners one two = (one < length partners) × (two < length partners)

-- no partner is outside of the table
abbrev pub StayWithin : List ℕ → Type 0
StayWithin partners = (k : ℕ) → k < length partners → other partners k < length partners

-- as many nodes and places as `build` takes
abbrev pub AreFew : List (Kind × ℕ) → List ℕ → Type 0
AreFew kinds partners = (length kinds ≤ 40000000) × (length partners < 400000000)

-- the net has these nodes and links
abbrev pub IsBuilt : ℕ → List (Kind × ℕ) → List ℕ → Graph → Type 0
IsBuilt free kinds partners net = Builds frozen_top free kinds (all_links free partners) net
