-- What a way of reducing comes to.
use Rattle.std.specs.Prelude.{◌≡◌, ℕ, ◌==◌, Bool, true, false, List, length, count_by, Option, Some, None}
use Rattle.ol_term.specs.Trees.{Tree}
use Rattle.ol_net.specs.Graph.{Graph}
use Rattle.ol_net.specs.Numbered.{net_of}
use Rattle.ol_net.specs.Pairs.{IsComplete, HasStuck}
use Rattle.ol_rules.specs.declared.journal.Entry.{Entry}
use Rattle.ol_rules.specs.Counting.{counts_of}
use Rattle.ol_rules.specs.Runs.{RunsTo, RanOut}
use Rattle.ol_readback.specs.declared.answers.ReadNode.{ReadNode}
use Rattle.ol_readback.specs.declared.answers.ReadNode.TheVariants as node
use Rattle.ol_demand.specs.declared.answers.Demanded.TheVariants.{Done, Spent}
use Rattle.ol_demand.specs.Answers.{IsAnswer}
use Rattle.ol_strategies.specs.declared.orders.Order.{Order}
use Rattle.ol_strategies.specs.declared.orders.Order.TheVariants as order
use Rattle.ol_beta.specs.Beta.{IsPast}
use Rattle.ol_counts.specs.Crossings.{IsReadBackBy}
use Rattle.ol_counts.specs.Ordered.{IsOrderCount}
use Rattle.ol_counts.specs.Machines.{IsNeedCount}
use Rattle.ol_families.specs.Counts.{IsFamilyCount}
use Rattle.ol_counts.specs.declared.tallies.Readback.{Readback}
use Rattle.ol_counts.specs.declared.tallies.Tally.{Tally}
use Rattle.ol_counts.specs.declared.tallies.Numbers.TheVariants.{Net, Steps, Nothing}
use Rattle.ol_counts.specs.declared.ways.Bounds.{Bounds}
use Rattle.ol_counts.specs.declared.ways.Way.{Way}
use Rattle.ol_counts.specs.declared.ways.Way.TheVariants.{Run, Demand, Leftmost, Applicative, Need, Families}

-- the tally of a reduction of a net with this journal
abbrev pub net_tally : List Entry → (stuck : ℕ) → Option Readback → (ended : Bool) → Tally
net_tally journal stuck read ended = record { numbers = Net (counts_of journal) stuck read; ended = ended }

-- so many beta steps, or families
abbrev pub steps_tally : ℕ → (ended : Bool) → Tally
steps_tally n ended = record { numbers = Steps n; ended = ended }

-- there is nothing to count
abbrev pub nothing : Tally
nothing = record { numbers = Nothing; ended = true }

-- The reduction of the net by one thread. It has ended if no active pair is left, and else the fuel has cut it.
pub data IsRunTally (g : Graph) (fuel : ℕ) : Tally → Type 0 where
  ended : {journal : List Entry} {last : Graph} {stuck : ℕ} → RunsTo g fuel journal last →
      IsComplete (net_of last) → HasStuck (net_of last) stuck →
      IsRunTally g fuel (net_tally journal stuck None true)
  cut : {journal : List Entry} {last : Graph} {stuck : ℕ} → RunsTo g fuel journal last →
      RanOut fuel journal last → HasStuck (net_of last) stuck →
      IsRunTally g fuel (net_tally journal stuck None false)

-- a place whose head was asked
abbrev pub is_read : ReadNode → Bool
is_read node.Cut = false
is_read _ = true

-- how many subterms were read: those that aren't printed as `...`
abbrev pub places_read : List ReadNode → ℕ
places_read tree = count_by is_read tree

-- the readback of this tree
abbrev pub readback : List ReadNode → (crossings : ℕ) → Readback
readback tree crossings = record { places = places_read tree; crossings = crossings }

-- The on-demand reduction of the net, with the crossings of the readback of its last net. It has ended if each
-- subterm was read, and else the number of heads or the fuel has cut it. A net without a free port has nothing to read.
pub data IsDemandTally (g : Graph) (heads fuel : ℕ) : Tally → Type 0 where
  reads : {tree : List ReadNode} {journal : List Entry} {last : Graph} {stuck crossings : ℕ} →
      IsAnswer g heads fuel last (Done tree journal) → HasStuck (net_of last) stuck →
      IsReadBackBy (net_of last) heads crossings → IsDemandTally g heads fuel
      (net_tally journal stuck (Some (readback tree crossings)) (places_read tree == length tree))
  cut : {journal : List Entry} {last : Graph} {stuck : ℕ} → IsAnswer g heads fuel last (Spent journal) →
      HasStuck (net_of last) stuck → IsDemandTally g heads fuel (net_tally journal stuck None false)
  no_root : g.free ≡ 0 → IsDemandTally g heads fuel nothing

-- the beta steps of an order of reduction
abbrev pub IsOrderTally : Order → ℕ → Tree → Tally → Type 0
IsOrderTally order most t tally =
    (n : ℕ) × (e : Bool) × IsOrderCount order t most n e × (tally ≡ steps_tally n e)

-- the beta steps of call-by-need
abbrev pub IsNeedTally : ℕ → Tree → Tally → Type 0
IsNeedTally moves t tally = (n : ℕ) × (e : Bool) × IsNeedCount t moves n e × (tally ≡ steps_tally n e)

-- the families of the redexes that leftmost reduction contracts; none if the term itself is out of bounds
pub data IsFamilyTally (most : ℕ) (t : Tree) : Tally → Type 0 where
  counted : {n : ℕ} {e : Bool} → IsFamilyCount t most n e → IsFamilyTally most t (steps_tally n e)
  large : IsPast t → IsFamilyTally most t (steps_tally 0 false)

-- what holds of the term, if there is one
abbrev pub OfTerm : (Tree → Tally → Type 0) → Option Tree → Tally → Type 0
OfTerm P (Some t) tally = P t tally
OfTerm P None tally = tally ≡ nothing

-- what a way comes to, of a net with its term, or of a net alone
abbrev pub IsTally : Graph → Option Tree → Bounds → Way → Tally → Type 0
IsTally g t b Run = IsRunTally g b.fuel.most
IsTally g t b Demand = IsDemandTally g b.heads.most b.fuel.most
IsTally g t b Leftmost = OfTerm (IsOrderTally order.Leftmost b.steps) t
IsTally g t b Applicative = OfTerm (IsOrderTally order.Applicative b.steps) t
IsTally g t b Need = OfTerm (IsNeedTally b.moves) t
IsTally g t b Families = OfTerm (IsFamilyTally b.steps) t
