-- Private: chains of a graph, from a question on.
use Rattle.std.specs.Prelude.{◌≡◌, ℕ, Option, MatchOption, List}
use Rattle.ol_net.specs.declared.parts.Facing.TheVariants.{Active}
use Rattle.ol_net.specs.declared.parts.NodeId.{NodeId}
use Rattle.ol_net.specs.declared.parts.Port.{Port}
use Rattle.ol_net.specs.declared.parts.Rule.{Rule}
use Rattle.ol_net.specs.Graph.{Graph, facing_at}
use Rattle.ol_net.specs.Nets.{slot}
use Rattle.ol_net.specs.Numbered.{net_of, numbered_port}
use Rattle.ol_net.specs.Pairs.{IsInActive}
use Rattle.ol_context.specs.Contexts.{Level, Context}
use Rattle.ol_context.specs.Shapes.{AreHeld, context_of}
use Rattle.ol_demand.specs.Chains.{IsAtPair, IsAtNoPair, Ends, met, left, undefined, budget}
use Rattle.ol_decoding.specs.declared.chaining.End.{End}
use Rattle.ol_decoding.specs.declared.chaining.End.TheVariants as code

-- the node is in an active pair
abbrev pub IsInPair : Graph → NodeId → Type 0
IsInPair g x = (r : Rule) × (facing_at g x ≡ Active r) × IsInActive (net_of g) x.0 r

-- the node in an active pair whose principal port this is, or None where there is none
abbrev pub FindsNode : Graph → Port → Option NodeId → Type 0
FindsNode g at found =
    MatchOption found (IsAtNoPair (net_of g) (numbered_port at)) (λ x. (numbered_port at ≡ slot x.0 0) × IsInPair g x)

-- The chain from the free port p with context c ends so.
abbrev pub IsEndOf : Graph → ℕ → Context → List Level → End → Type 0
IsEndOf g p c vs (code.Met x) = IsInPair g x
    × ((f k : ℕ) (r : Rule) → IsAtPair (net_of g) (slot x.0 0) f k r → Ends (net_of g) p c (met f k r))
IsEndOf g p c vs (code.Left q ms) = Ends (net_of g) p c (left q (context_of vs ms))
IsEndOf g p c vs code.Undefined = Ends (net_of g) p c undefined
IsEndOf g p c vs code.Budget = Ends (net_of g) p c budget

-- the context at the end is of this holder
abbrev pub IsHeldEnd : List Level → End → Type 0
IsHeldEnd vs (code.Left q ms) = AreHeld vs ms
IsHeldEnd vs _ = Unit {0}

-- where the chain leaves, all values are kept, and else the first ones alone, as many
abbrev pub KeepsFirst : List Level → List Level → List Level → End → Type 0
KeepsFirst first old new (code.Left q ms) = new ≡ old
KeepsFirst first old new _ = new ≡ first
