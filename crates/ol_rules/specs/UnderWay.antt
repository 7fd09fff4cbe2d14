-- A run on its way: the names of its numbers, and what a rewrite adds to it.
use Rattle.std.specs.Prelude.{◌≡◌, ℕ, suc, ◌+◌, ◌-◌, ◌≤◌, nat_lt, if◌then◌else◌, List, [], ◌∷◌, ◌++◌, length}
use Rattle.std.specs.Prelude.{Option, None, Some, slice_get, slice_index_or, ◌⊎◌}
use Rattle.ol_net.specs.declared.parts.Rule.{Rule}
use Rattle.ol_net.specs.Graph.{Graph}
use Rattle.ol_net.specs.Nets.{NamedNet, slot, Linked, IsNet}
use Rattle.ol_net.specs.Numbered.{net_of}
use Rattle.ol_net.specs.Pairs.{IsInActive}
use Rattle.ol_rules.specs.declared.journal.Entry.{Entry}
use Rattle.ol_rules.specs.declared.journal.NodeName.{NodeName}
use Rattle.ol_rules.specs.declared.journal.NodeName.TheVariants.{Init, Born}
use Rattle.ol_rules.specs.declared.names.Names.{Names}
use Rattle.ol_rules.specs.declared.under_way.UnderWay.{UnderWay}
use Rattle.ol_rules.specs.Runs.{names_born}
use Rattle.ol_rules.specs.Steps.{StepsAt}

-- the name of a number, where so many were there at the start and these are the names of those born since
abbrev pub name_in : (start : ℕ) → List NodeName → ℕ → NodeName
name_in start born k = if nat_lt k start then Init k else slice_index_or born (k - start) (Init k)

abbrev pub name_by : Names → ℕ → NodeName
name_by names = name_in names.start names.born.items

abbrev pub number_within : Option ℕ → Option ℕ → ℕ → Option ℕ
number_within (Some base) (Some next) place =
    if nat_lt (base + place) next then Some (base + place) else None
number_within _ _ place = None

-- The number of the node of a name. `bases` has at t how many numbers were given out before ticket
-- t, and at its end how many are given out by now.
abbrev pub node_number : (bases : List ℕ) → NodeName → Option ℕ
node_number bases (Init k) = if nat_lt k (slice_index_or bases 0 0) then Some k else None
node_number bases (Born ticket place) =
    number_within (slice_get bases ticket) (slice_get bases (suc ticket)) place

-- x and y are the two nodes of an active pair, whichever of them acts
abbrev pub IsPair : NamedNet ℕ → ℕ → ℕ → Rule → Type 0
IsPair N x y r = IsInActive N x r × Linked N (slot x 0) (slot y 0)

-- the net is as it was, or one step on
abbrev pub AtMostOneStep : Graph → Graph → ℕ → Type 0
AtMostOneStep old new at = (new ≡ old) ⊎ ((r : Rule) × StepsAt old new at r)

-- what is written down of a step by this rule, by the names of its two nodes
abbrev pub entry_for : UnderWay → Rule → (x y : ℕ) → Entry
entry_for run rule x y = record { rule = rule; first = name_by run.names x; second = name_by run.names y }

-- The second run is the first after the step of x and y, which were an active pair by its rule.
pub record Advances (old new : UnderWay) (g g' : Graph) (x y : ℕ) : Type 0 where
  pub rule : Rule
  pub pair : IsPair (net_of g) x y rule
  pub step : StepsAt g g' x rule
  pub start : new.names.start ≡ old.names.start
  pub journal : new.journal ≡ old.journal ++ entry_for old rule x y ∷ []
  pub names : new.names.born.items ≡ old.names.born.items
      ++ names_born (length old.journal) (length g'.nodes - length g.nodes)
  pub is_net : IsNet (net_of g')

-- After want of memory: the journal is as it was, and some names of the next ticket may have come to the names.
pub record IsInterrupted (old new : UnderWay) : Type 0 where
  pub journal : new.journal ≡ old.journal
  pub start : new.names.start ≡ old.names.start
  pub added : ℕ
  pub few : added ≤ 4
  pub names : new.names.born.items ≡ old.names.born.items ++ names_born (length old.journal) added
