-- Private: chains of wires in the words of a closed table, as they are followed from an end that owns a word.
use Rattle.std.specs.Prelude.{◌≡◌, ◌≢◌, ℕ, zero, suc, ◌+◌, ◌<◌, Bool, true, List, slice_index, ◌⊎◌}
use Rattle.ol_law_edges.specs.Edges.{IsIn}
use Rattle.ol_net.specs.Nets.{NamedNet}
use Rattle.ol_rules.specs.declared.journal.NodeName.{NodeName}
use Rattle.ol_reduce.specs.declared.chains.Goal.{Goal}
use Rattle.ol_reduce.specs.declared.chains.Goal.TheVariants.{Node, Port, Wire}
use Rattle.ol_wire.specs.References.{wire_ref, slot_ref, place_in, IsNodeRef, IsWireRef}
use Rattle.ol_wire.specs.Layout.{part_of_word, port_word, table_size}
use Rattle.ol_wire.specs.Edges.{edge_in}
use Rattle.ol_wire.specs.Closed.{ClosedTable}
use Rattle.ol_wire.specs.Standing.{WordsStandFor, IsWirePart}

-- word n isn't empty, and is that of the end e
pub record OwnsWord (w : ClosedTable) (net : NamedNet NodeName) (reached : ℕ → Bool) (n e : ℕ) : Type 0 where
  pub within : n < table_size w.plan.parts
  pub filled : slice_index w.words n ≢ 0
  pub end : (e ≡ wire_ref n) ⊎ (e ≡ slot_ref n)
  pub edge : IsIn {X = ℕ × ℕ} (e, slice_index w.words n)
      (edge_in net (reached n) (part_of_word w.plan.parts n) n (slice_index w.words n) (slice_index w.words (suc n)))

-- the chain of e leads to t, through words of wires
pub data LeadsTo (w : ClosedTable) (net : NamedNet NodeName) (reached : ℕ → Bool) : ℕ → ℕ → Type 0 where
  last : {e t : ℕ} (n : ℕ) → OwnsWord w net reached n e → slice_index w.words n ≡ t → LeadsTo w net reached e t
  more : {e t : ℕ} (n : ℕ) → OwnsWord w net reached n e → LeadsTo w net reached (slice_index w.words n) t
      → LeadsTo w net reached e t

-- the word n of a port's end e holds this value
pub record IsStart (w : ClosedTable) (net : NamedNet NodeName) (reached : ℕ → Bool) (e value : ℕ) : Type 0 where
  pub n : ℕ
  pub owns : OwnsWord w net reached n e
  pub no_wire : IsWirePart (part_of_word w.plan.parts n) → ⊥
  pub holds : slice_index w.words n ≡ value

-- a value that a port's word holds
abbrev pub IsFirst : ClosedTable → ℕ → Type 0
IsFirst w value = (net : NamedNet NodeName) × (reached : ℕ → Bool) × (e : ℕ) × WordsStandFor w net reached
    × IsStart w net reached e value

-- where the chain of e ends
abbrev pub EndsAt : ClosedTable → NamedNet NodeName → (ℕ → Bool) → ℕ → Goal → Type 0
EndsAt w net reached e (Node r) = IsNodeRef r × LeadsTo w net reached e r
EndsAt w net reached e (Port k) = (k < w.plan.parts.free) × LeadsTo w net reached e (wire_ref (port_word k))
EndsAt w net reached e (Wire u) = (reached u ≡ true) × (slice_index w.words u ≡ 0)
    × LeadsTo w net reached e (wire_ref u)

-- the value after k words of wires
abbrev pub value_after : List ℕ → ℕ → ℕ → ℕ
value_after words first zero = first
value_after words first (suc k) = slice_index words (place_in (value_after words first k))

-- it names a wire whose word isn't empty
abbrev pub IsPassed : ClosedTable → ℕ → Type 0
IsPassed w v = IsWireRef v × (w.plan.parts.free + 1 < place_in v) × (slice_index w.words (place_in v) ≢ 0)

-- at is the value after k words, all of wires
abbrev pub IsValueAfter : ClosedTable → ℕ → ℕ → ℕ → Type 0
IsValueAfter w first k at = (value_after w.words first k ≡ at)
    × ((j : ℕ) → j < k → IsPassed w (value_after w.words first j))

-- where the chain of each port ends whose word holds this value
abbrev pub EndsFrom : ClosedTable → ℕ → Goal → Type 0
EndsFrom w first end = (net : NamedNet NodeName) (reached : ℕ → Bool) (e : ℕ) → WordsStandFor w net reached
    → IsStart w net reached e first → EndsAt w net reached e end
