-- Private: chains of a graph.
use Rattle.std.specs.Prelude.{◌≡◌, ℕ, suc, ◌*◌, ◌≤◌, ◌⊎◌, List, [], ◌∷◌, ◌++◌, Option, MatchOption, take}
use Rattle.ol_net.specs.declared.parts.NodeId.{NodeId}
use Rattle.ol_net.specs.declared.parts.Port.{Port}
use Rattle.ol_net.specs.declared.parts.Port.TheVariants as port
use Rattle.ol_net.specs.declared.parts.Rule.{Rule}
use Rattle.ol_net.specs.Graph.{Graph}
use Rattle.ol_net.specs.Nets.{NamedNet, slot, Linked}
use Rattle.ol_net.specs.Numbered.{net_of, numbered_port}
use Rattle.ol_net.specs.Pairs.{IsInActive}
use Rattle.ol_context.specs.Contexts.{Level, Context}
use Rattle.ol_context.specs.Shapes.{AreHeld, context_of}
use Rattle.ol_context.specs.Short.{live}
use Rattle.ol_rules.specs.UnderWay.{IsPair}
use Rattle.ol_demand.specs.Chains.{IsAtPair, IsAtNoPair, Chain, Ends, met, left, undefined, budget}
use Rattle.ol_demand.specs.declared.answers.Walker.{Walker}
use Rattle.ol_demand.specs.declared.answers.End.{End}
use Rattle.ol_demand.specs.declared.answers.End.TheVariants as answer

-- the active pair at this port, given first the node of the port, or None where there is none
abbrev pub FindsPair : Graph → Port → Option (NodeId × NodeId) → Type 0
FindsPair g at found =
    MatchOption found (IsAtNoPair (net_of g) (numbered_port at))
    (λ pair. (numbered_port at ≡ slot pair.0.0 0) × ((r : Rule) × IsPair (net_of g) pair.0.0 pair.1.0 r))

-- x and y are an active pair, and the chain from the free port p with context c meets it, whichever of the two acts
pub record MetBy (N : NamedNet ℕ) (p : ℕ) (c : Context) (x y : ℕ) : Type 0 where
  pub rule : Rule
  pub pair : IsPair N x y rule
  pub ends : (f g : ℕ) (r : Rule) → IsAtPair N (slot x 0) f g r → Ends N p c (met f g r)

-- A chain has come as far as the walker, whose numbers are of this holder: so many crossings were made, and the last
-- node was left by this port with this context.
abbrev pub HasCome : Graph → ℕ → Context → List Level → Walker → Type 0
HasCome g p c vs w = Chain (net_of g) p c w.made (numbered_port w.at) (context_of vs w.context)

-- The chain from the free port p with context c ends so. Where it met a pair, it has come to the principal port of the
-- first node, as far as the walker.
abbrev pub IsEndOf : Graph → ℕ → Context → List Level → End → Type 0
IsEndOf g p c vs (answer.Met pair w) =
    MetBy (net_of g) p c pair.0.0 pair.1.0 × (numbered_port w.at ≡ slot pair.0.0 0) × HasCome g p c vs w
IsEndOf g p c vs (answer.Left q ms) = Ends (net_of g) p c (left q (context_of vs ms))
IsEndOf g p c vs answer.Undefined = Ends (net_of g) p c undefined
IsEndOf g p c vs answer.Budget = Ends (net_of g) p c budget

-- whatever chain has come as far as this ends so
abbrev pub GoesOnTo : Graph → List Level → Walker → List Level → End → Type 0
GoesOnTo g vs w ws end = (p : ℕ) (c : Context) → HasCome g p c vs w → IsEndOf g p c ws end

-- the context at the end is of this holder
abbrev pub IsHeldEnd : List Level → End → Type 0
IsHeldEnd vs (answer.Met pair w) = AreHeld vs w.context
IsHeldEnd vs (answer.Left q ms) = AreHeld vs ms
IsHeldEnd vs answer.Undefined = Unit {0}
IsHeldEnd vs answer.Budget = Unit {0}

-- some chain has come to the principal port of a node
pub record IsAtPrincipal (g : Graph) (vs : List Level) (w : Walker) : Type 0 where
  pub from : ℕ
  pub question : Context
  pub node : ℕ
  pub at : numbered_port w.at ≡ slot node 0
  pub chain : HasCome g from question vs w

-- The walker w' is w before its last crossing, which enters an auxiliary port next.
pub record StepsBack (g : Graph) (old : List Level) (w : Walker) (new : List Level) (w' : Walker) : Type 0 where
  pub held : AreHeld new w'.context
  pub node : ℕ
  pub at : ℕ
  pub linked : Linked (net_of g) (numbered_port w'.at) (slot node (suc at))
  pub chain : (p : ℕ) (c : Context) → HasCome g p c old w → HasCome g p c new w'

-- the levels of the question
abbrev pub question_of : List ℕ → ℕ → List ℕ
question_of ls mark = ls ++ mark ∷ []

-- the walker before the first crossing of this question
abbrev pub IsQuestion : ℕ → List ℕ → ℕ → Walker → Type 0
IsQuestion from ls mark w = w ≡ record { at = port.Free from; context = question_of ls mark; made = 0 }

-- all values are kept, or the first ones alone, as many
abbrev pub IsKeptOrCut : ℕ → List Level → List Level → Type 0
IsKeptOrCut count old new = (new ≡ old) ⊎ (new ≡ take count old)

-- The chain goes on where it was, within the budget of the net, and keeps all values, or it begins anew.
abbrev pub GoesOnOrBegins : Graph → ℕ → List ℕ → ℕ → Walker → List Level → Walker → List Level → Type 0
GoesOnOrBegins g from ls mark before old w new =
    ((w ≡ before) × (before.made ≤ 2 * live (net_of g)) × (new ≡ old)) ⊎ IsQuestion from ls mark w
