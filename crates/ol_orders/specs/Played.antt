-- Private: words of private contracts alone: the active pairs of a net by numbers, and a round that is played.
use Rattle.std.specs.Prelude.{◌≡◌, ◌≢◌, ℕ, ◌<◌, true, List, [], ◌∷◌, length, ◌⊎◌}
use Rattle.std.specs.Ordering.{nat_cmp}
use Rattle.std.specs.BTreeSet.{BTreeSet, contains}
use Rattle.ol_law_edges.specs.Edges.{IsIn}
use Rattle.ol_net.specs.declared.parts.Rule.{Rule}
use Rattle.ol_net.specs.Graph.{Graph}
use Rattle.ol_net.specs.Nets.{slot, Linked}
use Rattle.ol_net.specs.Numbered.{net_of}
use Rattle.ol_net.specs.Pairs.{IsInActive}
use Rattle.ol_rules.specs.declared.journal.Entry.{Entry}
use Rattle.ol_rules.specs.declared.one_thread.Ended.{Ended}
use Rattle.ol_rules.specs.declared.one_thread.Ended.TheVariants.{Done, Spent}
use Rattle.ol_orders.specs.declared.replaying.Replay.{Replay}
use Rattle.ol_orders.specs.Replays.{ReplaysPair}
use Rattle.ol_orders.specs.Rounds.{EndsInRounds, GoesOnInRounds}

-- x and y, of which x has the smaller number, are an active pair with this rule
pub record IsPair (g : Graph) (x y : ℕ) (rule : Rule) : Type 0 where
  pub lesser : x < y
  pub linked : Linked (net_of g) (slot x 0) (slot y 0)
  pub active : IsInActive (net_of g) x rule

-- the smaller number of each pair is smaller than those of the later ones
abbrev pub AreRisingPairs : List (ℕ × ℕ) → Type 0
AreRisingPairs [] = Unit {0}
AreRisingPairs (p ∷ ps) = ((q : ℕ × ℕ) → IsIn q ps → p.0 < q.0) × AreRisingPairs ps

-- the active pairs, all of them and each once, in the order of their smaller numbers
pub record ArePairs (g : Graph) (pairs : List (ℕ × ℕ)) : Type 0 where
  pub each : (p : ℕ × ℕ) → IsIn p pairs → (rule : Rule) × IsPair g p.0 p.1 rule
  pub all : (x y : ℕ) (rule : Rule) → IsPair g x y rule → IsIn (x, y) pairs
  pub rising : AreRisingPairs pairs

-- what waits in old waits in new
abbrev pub StillWait : BTreeSet ℕ → BTreeSet ℕ → Type 0
StillWait old new = (x : ℕ) → contains nat_cmp old x ≡ true → contains nat_cmp new x ≡ true

-- After a step of x and y, the nodes of an active pair wait that were in none before.
abbrev pub NewWait : Graph → Graph → (x y : ℕ) → BTreeSet ℕ → Type 0
NewWait old new x y waiting = (z : ℕ) (r : Rule) → IsInActive (net_of new) z r →
    (contains nat_cmp waiting z ≡ true) ⊎ (IsInActive (net_of old) z r × (z ≢ x) × (z ≢ y))

-- The second run is the first after some of these pairs, in their order, up to those that are left.
pub data Plays : Replay → List (ℕ × ℕ) → List (ℕ × ℕ) → Replay → Type 0 where
  stop : {r : Replay} {left : List (ℕ × ℕ)} → Plays r left left r
  go : {r s t : Replay} {p : ℕ × ℕ} {ps left : List (ℕ × ℕ)} → ReplaysPair r s p.0 p.1 →
      Plays s ps left t → Plays r (p ∷ ps) left t

-- the fuel was used up before some of the pairs
pub record IsCut (fuel : ℕ) (r : Replay) (pairs : List (ℕ × ℕ)) (s : Replay) : Type 0 where
  pub next : ℕ × ℕ
  pub later : List (ℕ × ℕ)
  pub plays : Plays r pairs (next ∷ later) s
  pub spent : length s.run.journal ≡ fuel

-- how the run in rounds ended
abbrev pub IsPlayed : Graph → ℕ → List Entry → Ended → Type 0
IsPlayed g fuel journal Done = EndsInRounds g fuel journal
IsPlayed g fuel journal Spent = GoesOnInRounds g fuel journal
