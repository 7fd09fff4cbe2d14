-- How far a reading has come, and what is known of it each time that a frame was asked. The
-- relations are those of one who asks frames: `reads` says of a reading that began with the first
-- two values how far it has come with the second two, where so many places are asked; `ends`, that
-- it ends without a tree; `stops`, that no memory was found.
use Rattle.std.specs.Prelude.{◌≡◌, ℕ, ◌+◌, ◌<◌, ◌≤◌, ◌⊎◌, List, [], ◌∷◌, ◌++◌, length, map, Option, Some, None}
use Rattle.ol_context.specs.Contexts.{Level}
use Rattle.ol_readback.specs.Frames.{Frame}
use Rattle.ol_readback.specs.Heads.{Answer, head, no_head, budget, answer_of, IsHeldHead}
use Rattle.ol_readback.specs.ReadTrees.{Subterm, whole_term, framed, port_of, arguments}
use Rattle.ol_readback.specs.Reading.{IsFrameList, IsKnown}
use Rattle.ol_readback.specs.Skipping.{AreSkipsOf}
use Rattle.ol_readback.specs.declared.answers.Head.{Head}
use Rattle.ol_readback.specs.declared.answers.Head.TheVariants as code
use Rattle.ol_readback.specs.declared.answers.ReadNode.{ReadNode}
use Rattle.ol_readback.specs.declared.answers.ReadNode.TheVariants as node
use Rattle.ol_readback.specs.declared.frames.Frame as listed

-- The frames of the places that were asked, the subterms that are left, in preorder, and the places.
pub record Reading : Type 0 where
  pub frames : List Frame
  pub waiting : List Subterm
  pub places : List ReadNode

abbrev pub so_far : List Frame → List Subterm → List ReadNode → Reading
so_far F ss ns = record { frames = F; waiting = ss; places = ns }

-- nothing was asked yet
abbrev pub the_start : Reading
the_start = so_far [] (whole_term ∷ []) []

-- once subterm s, the first one that was left, is found to be what the answer says
abbrev pub found : List ReadNode → List Frame → Subterm → List Subterm → Answer → Reading
found ns F s ss (head n v k ls) = so_far (F ++ framed s n ∷ [])
    (arguments (length F) (port_of (F ++ framed s n ∷ []) v) ls 0 k ++ ss) (ns ++ node.Head n v k ∷ [])
found ns F s ss no_head = so_far (F ++ framed s 0 ∷ []) ss (ns ++ node.NoHead ∷ [])
found ns F s ss budget = so_far (F ++ framed s 0 ∷ []) ss (ns ++ node.Cut ∷ [])

-- The frame with the last number of a list, its skips among those of the list: each parent stands
-- before its child, at one of so many free ports, the levels are of this holder.
pub record IsLastAsked (free : ℕ) (vs : List Level) (fs : List listed.Frame)
    (skips : List (Option ℕ)) (at : ℕ) : Type 0 where
  pub list : IsFrameList free vs fs
  pub skipped : AreSkipsOf fs skips
  pub last : at + 1 ≡ length fs

-- Whatever reading it is that came so far with s and n, if F are its frames and that of the subterm
-- that is asked next, P holds of what it began with, of the number of places that are asked, of the
-- places, of the frames before, of that subterm and of the later ones.
abbrev pub Whatever : {S N : Type 0} → (S → N → S → N → ℕ → Reading → Type 0) → S → N → List Frame →
    (S → N → ℕ → List ReadNode → List Frame → Subterm → List Subterm → Type 0) → Type 0
Whatever {S} {N} reads s n F P =
    (s0 : S) (n0 : N) (heads : ℕ) (places : List ReadNode) (front : List Frame) (t : Subterm) (ss : List Subterm) →
    F ≡ front ++ framed t 0 ∷ [] → length front < heads →
    reads s0 n0 s n heads (so_far front (t ∷ ss) places) → P s0 n0 heads places front t ss

-- the subterm was found to be what h says, or the reading ends without a tree
abbrev pub IsAnswered : {S N : Type 0} → (S → N → S → N → ℕ → Reading → Type 0) →
    (S → N → S → N → ℕ → Type 0) → S → N → S → N → List Frame → List Level → Option Head → Type 0
IsAnswered reads ends s n s' n' F vs (Some h) = Whatever reads s n F
    (λ s0 n0 heads places front t ss. reads s0 n0 s' n' heads (found places front t ss (answer_of vs h)))
IsAnswered reads ends s n s' n' F vs None = Whatever reads s n F
    (λ s0 n0 heads places front t ss. ends s0 n0 s' n' heads)

-- no memory was found on the way
abbrev pub IsStopped : {S N : Type 0} → (S → N → S → N → ℕ → Reading → Type 0) →
    (S → N → S → N → ℕ → Type 0) → S → N → S → N → List Frame → Type 0
IsStopped reads stops s n s' n' F = Whatever reads s n F (λ s0 n0 heads places front t ss. stops s0 n0 s' n' heads)

-- the level values of the answer are of this holder
abbrev pub IsHeldIfSome : List Level → Option Head → Type 0
IsHeldIfSome vs (Some h) = IsHeldHead vs h
IsHeldIfSome vs None = Unit {0}

-- the variable of the answer is a binder of one of these frames or a free name, and its port one of so many free ports
abbrev pub IsKnownHead : ℕ → List Frame → Head → Type 0
IsKnownHead free F (code.Is lams v args at) = IsKnown (length F) v × (port_of F v < free)
IsKnownHead free F code.NoHead = Unit {0}
IsKnownHead free F code.Budget = Unit {0}

abbrev pub IsKnownIfSome : ℕ → List Frame → Option Head → Type 0
IsKnownIfSome free F (Some h) = IsKnownHead free F h
IsKnownIfSome free F None = Unit {0}

-- The reading is over: no subterm is left, or so many places were asked. These are the places,
-- where all that is left is Cut.
pub record IsOver (heads : ℕ) (r : Reading) (ns : List ReadNode) : Type 0 where
  pub over : (r.waiting ≡ []) ⊎ (heads ≤ length r.frames)
  pub all : ns ≡ r.places ++ map (λ s. node.Cut) r.waiting

-- these are the places of a reading that is over
abbrev pub IsReadTo : {S N : Type 0} → (S → N → S → N → ℕ → Reading → Type 0) → S → N → S → N → ℕ →
    List ReadNode → Type 0
IsReadTo reads s n s' n' heads ns = (r : Reading) × reads s n s' n' heads r × IsOver heads r ns
