-- The head of a frame: the least number of abstractions for which a walk leaves the net, and what its exit says.
use Rattle.std.specs.Prelude.{ℕ, suc, ◌<◌, ◌≤◌, List, map}
use Rattle.ol_net.specs.Nets.{NamedNet, free}
use Rattle.ol_context.specs.Contexts.{Level, Context}
use Rattle.ol_context.specs.Paths.{Path}
use Rattle.ol_context.specs.Shapes.{value, AreHeld}
use Rattle.ol_context.specs.Ways.{Exits, WalkStands}
pub use Rattle.ol_context.specs.Short.{live}
use Rattle.ol_readback.specs.Frames.{Frame, frame_at, asked}
use Rattle.ol_readback.specs.Matching.{Matches, MatchesNothing}
use Rattle.ol_readback.specs.declared.answers.HeadVar.{HeadVar}
use Rattle.ol_readback.specs.declared.answers.Head.{Head}
use Rattle.ol_readback.specs.declared.answers.Head.TheVariants as code

-- What a frame is asked for: abstractions, variable, number of arguments, and the levels that the
-- arguments' frames begin with; or no head; or a walk used up its budget.
pub data Answer : Type 0 where
  head : ℕ → HeadVar → ℕ → List Level → Answer
  no_head : Answer
  budget : Answer

-- The exit by port q with context X of the walk that asked frame i for n abstractions: its head by
-- what matches, or none.
pub data IsMatched (frames : List Frame) (i n q : ℕ) (X : Context) : Answer → Type 0 where
  matched : {v : HeadVar} {k : ℕ} {ls : List Level} → Matches frames q X i n v k ls →
      IsMatched frames i n q X (head n v k ls)
  unmatched : MatchesNothing frames q X i n → IsMatched frames i n q X no_head

abbrev pub NoPath : {A : Type 0} → NamedNet A → ℕ → Context → Type 0
NoPath N p c = (q : ℕ) (X : Context) → Path N (free p) c q X → ⊥

-- The head of frame i: the least n for which some path leaves, of any length, and what its exit says.
pub data IsHead {A : Type 0} (N : NamedNet A) (frames : List Frame) (i : ℕ) : Answer → Type 0 where
  leaves : {n q : ℕ} {X : Context} {a : Answer} →
      ((m : ℕ) → m < n → NoPath N (frame_at frames i).port (asked (frame_at frames i).levels m)) →
      Path N (free (frame_at frames i).port) (asked (frame_at frames i).levels n) q X →
      IsMatched frames i n q X a → IsHead N frames i a
  never : ((n : ℕ) → NoPath N (frame_at frames i).port (asked (frame_at frames i).levels n)) → IsHead N frames i no_head

-- Some path of no more than edges crossings leads from the free port p to the free port q with context X.
abbrev pub LeavesWithin : {A : Type 0} → NamedNet A → ℕ → Context → ℕ → ℕ → Context → Type 0
LeavesWithin N p c edges q X = (n : ℕ) × Exits N (free p) c edges q X n

-- The walk neither leaves within edges crossings nor makes them all: one of them is not defined.
pub record Fails {A : Type 0} (N : NamedNet A) (p : ℕ) (c : Context) (edges : ℕ) : Type 0 where
  pub stays : (q : ℕ) (X : Context) → LeavesWithin N p c edges q X → ⊥
  pub breaks_off : WalkStands N (free p) c edges → ⊥

-- each try below n fails
abbrev pub FailsBelow : {A : Type 0} → NamedNet A → Frame → ℕ → ℕ → Type 0
FailsBelow N f edges n = (m : ℕ) → m < n → Fails N f.port (asked f.levels m) edges

-- The head of frame i by the tries 0, 1 and so on to the number of live nodes, each of no more than
-- edges crossings, up to
-- the first that doesn't fail. It is the budget where that one makes all its crossings and stands at a node.
pub data IsHeadWithin {A : Type 0} (N : NamedNet A) (frames : List Frame) (i edges : ℕ) : Answer → Type 0 where
  leaves : {n q : ℕ} {X : Context} {a : Answer} → n ≤ live N → FailsBelow N (frame_at frames i) edges n →
      LeavesWithin N (frame_at frames i).port (asked (frame_at frames i).levels n) edges q X →
      IsMatched frames i n q X a → IsHeadWithin N frames i edges a
  spends : {n : ℕ} → n ≤ live N → FailsBelow N (frame_at frames i) edges n →
      WalkStands N (free (frame_at frames i).port) (asked (frame_at frames i).levels n) edges →
      IsHeadWithin N frames i edges budget
  never : FailsBelow N (frame_at frames i) edges (suc (live N)) → IsHeadWithin N frames i edges no_head

-- what the code answers, its level values read from their holder
abbrev pub answer_of : List Level → Head → Answer
answer_of vs (code.Is lams v args at) = head lams v args (map (value vs) at)
answer_of vs code.NoHead = no_head
answer_of vs code.Budget = budget

-- the level values of the answer are of this holder
abbrev pub IsHeldHead : List Level → Head → Type 0
IsHeldHead vs (code.Is lams v args at) = AreHeld vs at
IsHeldHead vs code.NoHead = Unit {0}
IsHeldHead vs code.Budget = Unit {0}
