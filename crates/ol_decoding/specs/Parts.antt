-- The Böhm tree of a term down to some depth, part by part: the head of each part by demand, within a fuel for each part
-- and one for all of them (Barendregt, The Lambda Calculus, 1984, section 10.1).
use Rattle.std.specs.Prelude.{◌≡◌, ℕ, suc, ◌-◌, ◌<◌, ◌≤◌, ◌⊎◌, List, [], ◌∷◌, ◌++◌, length, map, Option, Some, None}
use Rattle.ol_limits.specs.Limits.{most_fuel}
use Rattle.ol_net.specs.declared.parts.Rule.{Rule}
use Rattle.ol_net.specs.Graph.{Graph}
use Rattle.ol_net.specs.Numbered.{net_of}
use Rattle.ol_context.specs.Contexts.{Context}
use Rattle.ol_context.specs.Short.{live}
use Rattle.ol_rules.specs.Steps.{StepsAt}
use Rattle.ol_readback.specs.Frames.{Frame, frame_at, asked}
use Rattle.ol_readback.specs.Heads.{Answer, no_head, IsMatched}
use Rattle.ol_readback.specs.ReadTrees.{Subterm, whole_term, framed}
use Rattle.ol_readback.specs.declared.answers.ReadNode.{ReadNode}
use Rattle.ol_readback.specs.declared.answers.ReadNode.TheVariants as node
use Rattle.ol_demand.specs.Chains.{met, left, undefined, budget, Ends}
use Rattle.ol_demand.specs.Demands.{next, place_of}

-- so many parts stand round one with this parent
pub data HasDepth (frames : List Frame) : Option ℕ → ℕ → Type 0 where
  whole : HasDepth frames None 0
  inside : {p d : ℕ} → HasDepth frames (frame_at frames p).parent d → HasDepth frames (Some p) (suc d)

-- The chain that asks part s for n abstractions meets an active pair, and its step leaves graph h.
pub record MeetsPair (g : Graph) (s : Subterm) (n : ℕ) (h : Graph) : Type 0 where
  pub at : ℕ
  pub rule : Rule
  pub step : StepsAt g h at rule
  pub ends : Ends (net_of g) s.port (asked s.levels n) (met step.f step.g rule)

-- Part s, whose places before have these frames, is asked in graph g for n abstractions, and then for more. Each active
-- pair that its chain meets is rewritten, as many as the fuel at most. After so many steps, which leave graph h, it has
-- this head, or none was found: no chain leaves, or one goes on without a pair, or it meets one more pair than the fuel.
pub data Finds (frames : List Frame) (s : Subterm) : (fuel n : ℕ) → Graph → (made : ℕ) → Answer → Graph → Type 0 where
  rewrites : {k n made : ℕ} {g i h : Graph} {a : Answer} → MeetsPair g s n i → Finds frames s k n i made a h →
      Finds frames s (suc k) n g (suc made) a h
  one_more : {k n made : ℕ} {g h : Graph} {a : Answer} → Ends (net_of g) s.port (asked s.levels n) undefined →
      n < live (net_of g) → Finds frames s k (suc n) g made a h → Finds frames s k n g made a h
  leaves : {k n q : ℕ} {X : Context} {g : Graph} {a : Answer} → Ends (net_of g) s.port (asked s.levels n) (left q X) →
      IsMatched (frames ++ framed s 0 ∷ []) (length frames) n q X a → Finds frames s k n g 0 a g
  never : {k n : ℕ} {g : Graph} → Ends (net_of g) s.port (asked s.levels n) undefined → live (net_of g) ≤ n →
      Finds frames s k n g 0 no_head g
  goes_on : {k n : ℕ} {g : Graph} → Ends (net_of g) s.port (asked s.levels n) budget → Finds frames s k n g 0 no_head g
  spends : {n x y : ℕ} {r : Rule} {g : Graph} → Ends (net_of g) s.port (asked s.levels n) (met x y r) →
      Finds frames s 0 n g 0 no_head g

-- the lesser one of two numbers
pub record IsLesser (a b c : ℕ) : Type 0 where
  pub first : c ≤ a
  pub second : c ≤ b
  pub one_of : (c ≡ a) ⊎ (c ≡ b)

-- The parts that are left, in preorder, have these places in graph g, where these frames are those of the places before.
-- Of the first heads places, those that are too deep among them, each one that is less deep than depth is asked, with
-- this fuel or what is left for all of them, if that is less. Every other place is Cut. So a place is NoHead also if it
-- was asked with less than its fuel.
pub data HaveParts (depth heads fuel : ℕ) : Graph → (all : ℕ) → List Frame → List Subterm → List ReadNode → Type 0 where
  end : {g : Graph} {all : ℕ} {frames : List Frame} → HaveParts depth heads fuel g all frames [] []
  past : {g : Graph} {all : ℕ} {frames : List Frame} {ss : List Subterm} → heads ≤ length frames →
      HaveParts depth heads fuel g all frames ss (map (λ s. node.Cut) ss)
  below : {g : Graph} {all d : ℕ} {frames : List Frame} {s : Subterm} {ss : List Subterm} {ns : List ReadNode} →
      length frames < heads → HasDepth frames s.parent d → depth ≤ d →
      HaveParts depth heads fuel g all (frames ++ framed s 0 ∷ []) ss ns →
      HaveParts depth heads fuel g all frames (s ∷ ss) (node.Cut ∷ ns)
  asks : {g h : Graph} {all d k made : ℕ} {frames : List Frame} {s : Subterm} {ss : List Subterm} {ns : List ReadNode}
      {a : Answer} →
      length frames < heads → HasDepth frames s.parent d → d < depth → IsLesser fuel all k →
      Finds frames s k 0 g made a h →
      HaveParts depth heads fuel h (all - made) (next frames s ss a).frames (next frames s ss a).waiting ns →
      HaveParts depth heads fuel g all frames (s ∷ ss) (place_of a ∷ ns)

-- the whole tree of a net, read from free port 0
abbrev pub IsBoehmTree : Graph → (depth heads fuel : ℕ) → List ReadNode → Type 0
IsBoehmTree g depth heads fuel ns = HaveParts depth heads fuel g most_fuel [] (whole_term ∷ []) ns
