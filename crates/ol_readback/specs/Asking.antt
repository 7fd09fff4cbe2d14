-- What asking a frame answers. The net is that of graph g, and old are the values of the frames fs
-- before the call, new those after it.
use Rattle.std.specs.Prelude.{◌≡◌, ◌≢◌, ◌↔◌, ℕ, ◌*◌, ◌≤◌, List}
use Rattle.ol_net.specs.Graph.{Graph}
use Rattle.ol_net.specs.Numbered.{net_of}
use Rattle.ol_context.specs.Contexts.{Level}
use Rattle.ol_context.specs.Short.{HasNoFacing, live}
use Rattle.ol_readback.specs.Frames.{frame_at, frames_of}
use Rattle.ol_readback.specs.Heads.{Answer, no_head, IsHead, IsHeadWithin, answer_of}
use Rattle.ol_readback.specs.Sources.{MeetsRing}
use Rattle.ol_readback.specs.declared.answers.Head.{Head}
use Rattle.ol_readback.specs.declared.answers.Head.TheVariants as head
use Rattle.ol_readback.specs.declared.frames.Frame.{Frame}

-- each answer comes exactly where frame i has it within so many crossings
abbrev pub IsAnswerOfAsking : Graph → List Level → List Frame → ℕ → ℕ → List Level → Head → Type 0
IsAnswerOfAsking g old fs i edges new h = (a : Answer) →
    (answer_of new h ≡ a) ↔ IsHeadWithin (net_of g) (frames_of old fs) i edges a

-- a head that was found is the head by paths of any length
abbrev pub IsHeadIfFound : Graph → List Level → List Frame → ℕ → List Level → Head → Type 0
IsHeadIfFound g old fs i new h = h ≢ head.Budget → h ≢ head.NoHead →
    IsHead (net_of g) (frames_of old fs) i (answer_of new h)

-- where no two principal ports are linked, a frame that was found to have no head has none by paths of any length
abbrev pub IsLostIfNoHead : Graph → List Level → List Frame → ℕ → Head → Type 0
IsLostIfNoHead g old fs i h = h ≡ head.NoHead → HasNoFacing (net_of g) → IsHead (net_of g) (frames_of old fs) i no_head

-- and with a budget of twice as many crossings as there are nodes, the budget is met only where a walk goes on for ever
abbrev pub IsRingIfBudget : Graph → List Level → List Frame → ℕ → ℕ → Head → Type 0
IsRingIfBudget g old fs i edges h =
    h ≡ head.Budget → HasNoFacing (net_of g) → 2 * live (net_of g) ≤ edges →
    MeetsRing (net_of g) (frame_at (frames_of old fs) i) edges

-- where no head was found there are no new values
abbrev pub IsUnchangedUnlessFound : List Level → List Level → Head → Type 0
IsUnchangedUnlessFound old new (head.Is lams v args at) = Unit {0}
IsUnchangedUnlessFound old new head.NoHead = new ≡ old
IsUnchangedUnlessFound old new head.Budget = new ≡ old
