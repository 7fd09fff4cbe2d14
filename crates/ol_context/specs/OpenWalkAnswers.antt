-- What an open walk answers.
use Rattle.std.specs.Prelude.{◌≡◌, ℕ, ◌<◌, ◌≤◌, ◌↔◌, List, map}
use Rattle.ol_net.specs.Graph.{Graph}
use Rattle.ol_net.specs.Numbered.{net_of}
use Rattle.ol_net.specs.Nets.{NamedNet, free}
use Rattle.ol_context.specs.Contexts.{Level, Context}
use Rattle.ol_context.specs.Shapes.{value, AreHeld, context_of}
use Rattle.ol_context.specs.Asked.{asked}
use Rattle.ol_context.specs.Ways.{Exits, Stops, WalkStands}
use Rattle.ol_context.specs.declared.answers.OpenWalk.{OpenWalk}
use Rattle.ol_context.specs.declared.answers.OpenWalk.TheVariants as walk

-- the walk that asks for n abstractions tries as crossing k, of no more than edges, one that is not defined
abbrev pub BreaksOff : NamedNet ℕ → ℕ → List Level → ℕ → ℕ → ℕ → Type 0
BreaksOff N p ls edges n k = Stops N (free p) (asked ls n) edges k

-- each walk that asks for fewer than n abstractions breaks off
abbrev pub AllBelowBreakOff : NamedNet ℕ → ℕ → List Level → ℕ → ℕ → Type 0
AllBelowBreakOff N p ls edges n = (m : ℕ) → m < n → (k : ℕ) × BreaksOff N p ls edges m k

-- the answer is an exit with n abstractions, by port q with context d after k crossings
abbrev pub IsOpenExit : List Level → OpenWalk → ℕ → ℕ → Context → ℕ → Type 0
IsOpenExit vs (walk.Exit n' q' ms k') n q d k = (n' ≡ n) × (q' ≡ q) × (context_of vs ms ≡ d) × (k' ≡ k)
IsOpenExit vs (walk.Undefined n' k') n q d k = ⊥
IsOpenExit vs (walk.Budget n') n q d k = ⊥

-- An exit with n abstractions comes exactly where the walk that asks for n leaves within the
-- crossings, by that port with that context and in that number of crossings, and each that asks for
-- fewer breaks off.
abbrev pub OpenExitsExactly : NamedNet ℕ → ℕ → List Level → ℕ → List Level → OpenWalk → Type 0
OpenExitsExactly N p ls edges vs w =
    (n q : ℕ) (d : Context) (k : ℕ) → IsOpenExit vs w n q d k ↔
    (Exits N (free p) (asked ls n) edges q d k × AllBelowBreakOff N p ls edges n)

-- Budget with n abstractions comes exactly where the walk that asks for n stands at a node after
-- all crossings, and each that asks for fewer breaks off.
abbrev pub OpenStandsExactly : NamedNet ℕ → ℕ → List Level → ℕ → OpenWalk → Type 0
OpenStandsExactly N p ls edges w = (n : ℕ) →
    (w ≡ walk.Budget n) ↔ (WalkStands N (free p) (asked ls n) edges × AllBelowBreakOff N p ls edges n)

-- every walk breaks off, none later than at crossing k, and n is the least number of abstractions
-- for which it does so there
pub record AllBreakOff (N : NamedNet ℕ) (p : ℕ) (ls : List Level) (edges n k : ℕ) : Type 0 where
  pub all : (m : ℕ) → (j : ℕ) × (j ≤ k) × BreaksOff N p ls edges m j
  pub last : BreaksOff N p ls edges n k
  pub least : (m : ℕ) → m < n → BreaksOff N p ls edges m k → ⊥

-- Undefined comes exactly where every walk breaks off, with the greatest number of the crossing at
-- which one does, and the least number of abstractions with which one does there.
abbrev pub OpenStopsExactly : NamedNet ℕ → ℕ → List Level → ℕ → OpenWalk → Type 0
OpenStopsExactly N p ls edges w = (n k : ℕ) → (w ≡ walk.Undefined n k) ↔ AllBreakOff N p ls edges n k

-- the context of an exit is of this holder
abbrev pub IsHeldOpenExit : List Level → OpenWalk → Type 0
IsHeldOpenExit vs (walk.Exit n q ms k) = AreHeld vs ms
IsHeldOpenExit vs (walk.Undefined n k) = Unit {0}
IsHeldOpenExit vs (walk.Budget n) = Unit {0}

-- The same of a graph, and of levels by their numbers.
abbrev pub OpenExits : Graph → ℕ → List Level → List ℕ → ℕ → List Level → OpenWalk → Type 0
OpenExits g p old ns edges new w = OpenExitsExactly (net_of g) p (map (value old) ns) edges new w

abbrev pub OpenStands : Graph → ℕ → List Level → List ℕ → ℕ → OpenWalk → Type 0
OpenStands g p old ns edges w = OpenStandsExactly (net_of g) p (map (value old) ns) edges w

abbrev pub OpenStops : Graph → ℕ → List Level → List ℕ → ℕ → OpenWalk → Type 0
OpenStops g p old ns edges w = OpenStopsExactly (net_of g) p (map (value old) ns) edges w
