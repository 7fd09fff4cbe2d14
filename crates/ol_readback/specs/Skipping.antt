-- Frames that bind nothing are passed over.
use Rattle.std.specs.Prelude.{◌≡◌, ℕ, List, [], ◌∷◌, ◌++◌, Option, Some, slice_get}
use Rattle.ol_context.specs.Contexts.{Level}
use Rattle.ol_readback.specs.Frames.{Frame, frame_at, frames_of, ParentsFirst}
use Rattle.ol_readback.specs.declared.frames.Frame as code

-- From frame p, if there is one, to frame r, if there is one: from parent to parent, over frames without abstractions.
pub data SkipsTo (frames : List Frame) : Option ℕ → Option ℕ → Type 0 where
  stays : {p : Option ℕ} → SkipsTo frames p p
  over : {p : ℕ} {r : Option ℕ} → (frame_at frames p).lams ≡ 0 →
      SkipsTo frames (frame_at frames p).parent r → SkipsTo frames (Some p) r

-- entry i of the list, if there is one, is a frame to which one skips from the parent of frame i
abbrev pub AreSkips : List Frame → List (Option ℕ) → Type 0
AreSkips frames skips = (i : ℕ) (r : Option ℕ) → slice_get skips i ≡ Some r →
    SkipsTo frames (frame_at frames i).parent r

-- the same of the code's frames, whatever their levels are
abbrev pub AreSkipsOf : List code.Frame → List (Option ℕ) → Type 0
AreSkipsOf fs skips = (vs : List Level) → AreSkips (frames_of vs fs) skips

abbrev pub SkipsFrom : List code.Frame → Option ℕ → Option ℕ → Type 0
SkipsFrom fs p r = (vs : List Level) → SkipsTo (frames_of vs fs) p r

-- from the parent of frame i
abbrev pub SkipsPast : List code.Frame → ℕ → Option ℕ → Type 0
SkipsPast fs i r = (vs : List Level) → SkipsTo (frames_of vs fs) (frame_at (frames_of vs fs) i).parent r

-- what stays true of the skips whatever number of abstractions frame f will have, once it is added to the frames
abbrev pub HaveSkip : List code.Frame → code.Frame → List (Option ℕ) → Type 0
HaveSkip fs f skips = (n : ℕ) → AreSkipsOf
    (fs ++ record { port = f.port; levels = f.levels; parent = f.parent; lams = n } ∷ []) skips

-- each parent stands before its child, whatever the levels are
abbrev pub AreParentsFirst : List code.Frame → Type 0
AreParentsFirst fs = (vs : List Level) → ParentsFirst (frames_of vs fs)
