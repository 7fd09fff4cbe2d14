-- Private: reading one place after another, whoever asks the frames.
use Rattle.std.specs.Prelude.{◌≡◌, ℕ, ◌<◌, List, [], ◌∷◌, ◌++◌, length, Option, Some, None}
use Rattle.ol_context.specs.Contexts.{Level}
use Rattle.ol_readback.specs.Frames.{frames_of}
use Rattle.ol_readback.specs.Groups.{subterm_of, subterms_in, AreHeldIn, ArePlacedIn}
use Rattle.ol_readback.specs.ReadTrees.{Subterm}
use Rattle.ol_readback.specs.Reading.{IsFrameList}
use Rattle.ol_readback.specs.Skipping.{AreSkipsOf}
use Rattle.ol_readback.specs.Askers.{Reading, so_far}
use Rattle.ol_readback.specs.declared.answers.ReadNode.{ReadNode}
use Rattle.ol_readback.specs.declared.frames.Frame.{Frame}
use Rattle.ol_readback.specs.declared.groups.Group.{Group}

-- the frames of a reader, with an entry of the skips for each
pub record IsReader (free : ℕ) (vs : List Level) (fs : List Frame) (skips : List (Option ℕ)) : Type 0 where
  pub list : IsFrameList free vs fs
  pub skipped : AreSkipsOf fs skips
  pub each : length skips ≡ length fs

-- Whatever reading it is that came so far with s and n, if frame f is that of the first subterm
-- that is left, after the frames
-- fs, P holds of what it began with, of the number of places that are asked, of the places and of the later subterms.
abbrev pub WhateverNext : {S N : Type 0} → (S → N → S → N → ℕ → Reading → Type 0) → S → N →
    List Level → List Frame → Frame → (S → N → ℕ → List ReadNode → List Subterm → Type 0) → Type 0
WhateverNext {S} {N} reads s n vs fs f P =
    (s0 : S) (n0 : N) (heads : ℕ) (places : List ReadNode) (ss : List Subterm) → length fs < heads →
    reads s0 n0 s n heads (so_far (frames_of vs fs) (subterm_of vs f ∷ ss) places) → P s0 n0 heads places ss

-- the place was found, and what is left to be read are its arguments and then the later subterms;
-- or the reading ends here
abbrev pub IsReadNext : {S N : Type 0} → (S → N → S → N → ℕ → Reading → Type 0) →
    (S → N → S → N → ℕ → Type 0) → S → N → S → N →
    List Level → List Level → List Frame → Frame → List Frame → Option (ReadNode × Option Group) → Type 0
IsReadNext reads ends s n s' n' vs ws fs f gs (Some r) =
    WhateverNext reads s n vs fs f (λ s0 n0 heads places ss.
    reads s0 n0 s' n' heads (so_far (frames_of ws gs) (subterms_in ws r.1 ++ ss) (places ++ r.0 ∷ [])))
IsReadNext reads ends s n s' n' vs ws fs f gs None = WhateverNext reads s n vs fs f
    (λ s0 n0 heads places ss. ends s0 n0 s' n' heads)

-- no memory was found on the way
abbrev pub StopsNext : {S N : Type 0} → (S → N → S → N → ℕ → Reading → Type 0) →
    (S → N → S → N → ℕ → Type 0) → S → N → S → N → List Level → List Frame → Frame → Type 0
StopsNext reads stops s n s' n' vs fs f = WhateverNext reads s n vs fs f
    (λ s0 n0 heads places ss. stops s0 n0 s' n' heads)

abbrev pub AreHeldIfSome : List Level → Option (ReadNode × Option Group) → Type 0
AreHeldIfSome vs (Some r) = AreHeldIn vs r.1
AreHeldIfSome vs None = Unit {0}

abbrev pub ArePlacedIfSome : ℕ → ℕ → Option (ReadNode × Option Group) → Type 0
ArePlacedIfSome free count (Some r) = ArePlacedIn free count r.1
ArePlacedIfSome free count None = Unit {0}
