-- Runs along a journal, and the one-thread run, which always rewrites the lead.
use Rattle.std.specs.Prelude.{◌≡◌, ℕ, zero, suc, ◌+◌, ◌≤◌, ◌<◌, true, false, Some, List, [], ◌∷◌}
use Rattle.std.specs.Prelude.{◌++◌, length, slice_get, ◌⊎◌}
use Rattle.ol_net.specs.Graph.{Graph}
use Rattle.ol_net.specs.Nets.{NamedNet, net_under}
use Rattle.ol_net.specs.Numbered.{net_of}
use Rattle.ol_net.specs.Pairs.{IsActive, IsComplete, HasActive}
use Rattle.ol_net.specs.declared.parts.Rule.{Rule}
use Rattle.ol_rules.specs.declared.journal.NodeName.{NodeName}
use Rattle.ol_rules.specs.declared.journal.NodeName.TheVariants.{Init, Born}
use Rattle.ol_rules.specs.declared.journal.Entry.{Entry}
use Rattle.ol_rules.specs.Names.{comes_before, IsNamed}
use Rattle.ol_rules.specs.Rewriting.{IsStep}
use Rattle.ol_rules.specs.Steps.{births}

-- M is N after the rewrite of the pair of entry e, whose number in the journal is its ticket
pub record IsEntryStep (N : NamedNet NodeName) (ticket : ℕ) (e : Entry) (M : NamedNet NodeName) : Type 0 where
  pub f : NodeName
  pub g : NodeName
  pub named : IsNamed e f g
  pub step : IsStep (λ place. Born ticket place) N f g e.rule M

-- M is N after these entries in order, the first of which has this ticket
pub data IsRun : NamedNet NodeName → ℕ → List Entry → NamedNet NodeName → Type 0 where
  end : {N : NamedNet NodeName} {t : ℕ} → IsRun N t [] N
  then : {N M P : NamedNet NodeName} {t : ℕ} {e : Entry} {es : List Entry} → IsEntryStep N t e M →
      IsRun M (suc t) es P → IsRun N t (e ∷ es) P

-- all fuel was used up, and an active pair is left
abbrev pub RanOut : ℕ → List Entry → Graph → Type 0
RanOut fuel journal g = (length journal ≡ fuel) × HasActive (net_of g)

-- The entry is the lead: the active pair whose smaller name is least.
pub record IsLead (N : NamedNet NodeName) (e : Entry) : Type 0 where
  pub f : NodeName
  pub g : NodeName
  pub named : IsNamed e f g
  pub active : IsActive N f g e.rule
  pub least : (f' g' : NodeName) (r : Rule) → IsActive N f' g' r →
      (comes_before f' e.first ≡ false) × (comes_before g' e.first ≡ false)

-- a run, each entry of which is the lead of its turn
pub data IsLeadRun : NamedNet NodeName → ℕ → List Entry → NamedNet NodeName → Type 0 where
  end : {N : NamedNet NodeName} {t : ℕ} → IsLeadRun N t [] N
  then : {N M P : NamedNet NodeName} {t : ℕ} {e : Entry} {es : List Entry} → IsLead N e → IsEntryStep N t e M →
      IsLeadRun M (suc t) es P → IsLeadRun N t (e ∷ es) P

-- the names of so many nodes that this ticket made
abbrev pub names_born : ℕ → ℕ → List NodeName
names_born ticket zero = []
names_born ticket (suc n) = names_born ticket n ++ Born ticket n ∷ []

-- the names of the nodes that a run made, in the order in which they came
abbrev pub names_made : {N M : NamedNet NodeName} {t : ℕ} {es : List Entry} → IsLeadRun N t es M → List NodeName
names_made end = []
names_made (then {t = t} {e = e} lead entry run) = names_born t
    (births e.rule entry.step.active.k entry.step.active.l) ++ names_made run

-- The one-thread run from N: leads, up to the first net without an active pair or until the fuel is
-- used up. M is its net.
pub record IsOneThread (N : NamedNet NodeName) (fuel : ℕ) (journal : List Entry) (M : NamedNet NodeName) : Type 0 where
  pub leads : IsLeadRun N 0 journal M
  pub within : length journal ≤ fuel
  pub ended : IsComplete M ⊎ (length journal ≡ fuel)

-- Names of numbers: a start node is named by its number, the next numbers are named by the nodes made, in order,
-- and so a greater number has a later name.
pub record IsNaming (start : ℕ) (made : List NodeName) (names : ℕ → NodeName) : Type 0 where
  pub initial : (k : ℕ) → k < start → names k ≡ Init k
  pub later : (p : ℕ) (x : NodeName) → slice_get made p ≡ Some x → names (start + p) ≡ x
  pub rising : (j k : ℕ) → j < k → k < start + length made → comes_before (names j) (names k) ≡ true

-- New is old after these leads. The nodes that they made took the next numbers, in the order in
-- which they came, and no other number was given out.
pub record LeadsTo (old : Graph) (journal : List Entry) (new : Graph) : Type 0 where
  pub names : ℕ → NodeName
  pub run : IsLeadRun (net_under Init (net_of old)) 0 journal (net_under names (net_of new))
  pub naming : IsNaming (length old.nodes) (names_made run) names
  pub numbers : length new.nodes ≡ length old.nodes + length (names_made run)

-- New is old after the one-thread run with this fuel, and this is its journal.
pub record RunsTo (old : Graph) (fuel : ℕ) (journal : List Entry) (new : Graph) : Type 0 where
  pub leads : LeadsTo old journal new
  pub one_thread : IsOneThread (net_under Init (net_of old)) fuel journal (net_under leads.names (net_of new))

-- New is old after some leads, at most as many as the fuel.
pub record StopsWithin (old : Graph) (fuel : ℕ) (new : Graph) : Type 0 where
  pub journal : List Entry
  pub within : length journal ≤ fuel
  pub leads : LeadsTo old journal new
