-- Private: a demand run on its way.
use Rattle.std.specs.Prelude.{◌≡◌, ℕ, ◌+◌, ◌*◌, ◌<◌, ◌≤◌, true, List, [], ◌∷◌, ◌++◌, length, Option, Some, None, ◌⊎◌}
use Rattle.ol_net.specs.Graph.{Graph}
use Rattle.ol_net.specs.Nets.{net_under}
use Rattle.ol_net.specs.Numbered.{net_of}
use Rattle.ol_context.specs.Contexts.{Level}
use Rattle.ol_rules.specs.declared.journal.NodeName.{NodeName}
use Rattle.ol_rules.specs.declared.journal.NodeName.TheVariants.{Init, Born}
use Rattle.ol_rules.specs.Names.{comes_before}
use Rattle.ol_rules.specs.declared.under_way.UnderWay.{UnderWay}
use Rattle.ol_rules.specs.UnderWay.{name_by, AtMostOneStep, Advances}
use Rattle.ol_readback.specs.Frames.{Frame}
use Rattle.ol_readback.specs.Heads.{answer_of}
use Rattle.ol_readback.specs.ReadTrees.{Subterm, framed}
use Rattle.ol_readback.specs.declared.answers.Head.{Head}
use Rattle.ol_readback.specs.declared.answers.ReadNode.{ReadNode}
use Rattle.ol_demand.specs.Demands.{Asking, asks, place_of, next, Turns, GoesOn}
use Rattle.ol_demand.specs.Answers.{start_of, StopsOnTheWay}

-- Names of all numbers: a start node's number names it, a greater number has a later name, and from
-- next on come the nodes that this ticket will make.
pub record IsNaming (start next ticket : ℕ) (m : ℕ → NodeName) : Type 0 where
  pub room : start ≤ next
  pub initial : (k : ℕ) → k < start → m k ≡ Init k
  pub rising : (j k : ℕ) → j < k → comes_before (m j) (m k) ≡ true
  pub born : (p : ℕ) → m (next + p) ≡ Born ticket p

-- The names of a run's numbers, from the graph old to g.
pub record AreNamesOf (old g : Graph) (run : UnderWay) (m : ℕ → NodeName) : Type 0 where
  pub naming : IsNaming (length old.nodes) (length g.nodes) (length run.journal) m
  pub start : run.names.start ≡ length old.nodes
  pub listed : (k : ℕ) → k < length g.nodes → name_by run.names k ≡ m k

-- The run has made turns of the demand run from the graph old, and this is what is to be read.
pub record IsUnderWay (old g : Graph) (run : UnderWay) (heads : ℕ) (places : List ReadNode) (a : Asking) : Type 0 where
  pub names : ℕ → NodeName
  pub are_names : AreNamesOf old g run names
  pub turns : ℕ
  pub made : Turns (start_of old) heads turns run.journal places (net_under names (net_of g)) a

-- It has more turns that rewrite.
pub record IsLeftOff (old g : Graph) (run : UnderWay) (heads : ℕ) : Type 0 where
  pub names : ℕ → NodeName
  pub are_names : AreNamesOf old g run names
  pub goes_on : GoesOn (start_of old) heads run.journal (net_under names (net_of g))

-- there are as many names as numbers since the start, and room for all that the fuel allows
pub record IsRunning (g : Graph) (run : UnderWay) (fuel : ℕ) : Type 0 where
  pub names : run.names.start + length run.names.born.items ≡ length g.nodes
  pub within : length run.journal ≤ fuel
  pub few : length g.nodes + 4 * fuel ≤ 2000000000 + 4 * length run.journal

-- Whatever demand run it is, if the first subterm that is left has the last of the frames F and is
-- asked for no abstraction yet, P holds of the graph it began with, of the number of heads, of the
-- places, the other frames, this subterm and the later ones.
abbrev pub Whatever : Graph → UnderWay → List Frame →
    (Graph → ℕ → List ReadNode → List Frame → Subterm → List Subterm → Type 0) → Type 0
Whatever g run F P =
    (old : Graph) (heads : ℕ) (places : List ReadNode) (front : List Frame) (s : Subterm) (ss : List Subterm) →
    F ≡ front ++ framed s 0 ∷ [] → length front < heads →
    IsUnderWay old g run heads places (asks front (s ∷ ss) 0) → P old heads places front s ss

-- the subterm was found to be what h says, or the fuel is used up
abbrev pub IsAnswered : Graph → Graph → UnderWay → UnderWay → List Frame → List Level → Option Head → Type 0
IsAnswered g g' run run' F vs (Some h) =
    Whatever g run F (λ old heads places front s ss.
    IsUnderWay old g' run' heads (places ++ place_of (answer_of vs h) ∷ []) (next front s ss (answer_of vs h)))
IsAnswered g g' run run' F vs None = Whatever g run F (λ old heads places front s ss. IsLeftOff old g' run' heads)

abbrev pub IsSpentIfNone : {T : Type 0} → UnderWay → ℕ → Option T → Type 0
IsSpentIfNone run fuel (Some h) = Unit {0}
IsSpentIfNone run fuel None = length run.journal ≡ fuel

-- no memory was found on the way
abbrev pub IsStopped : Graph → Graph → UnderWay → List Frame → ℕ → Type 0
IsStopped g g' run F fuel = Whatever g run F (λ old heads places front s ss. StopsOnTheWay old heads fuel g')

-- the step of the pair x and y, the one with the smaller number first
abbrev pub AdvancesEither : UnderWay → UnderWay → Graph → Graph → ℕ → ℕ → Type 0
AdvancesEither old new g g' x y = ((x < y) × Advances old new g g' x y) ⊎ ((y < x) × Advances old new g g' y x)

-- no memory was found for it
abbrev pub StopsEither : Graph → Graph → ℕ → ℕ → Type 0
StopsEither g g' x y = ((x < y) × AtMostOneStep g g' x) ⊎ ((y < x) × AtMostOneStep g g' y)
