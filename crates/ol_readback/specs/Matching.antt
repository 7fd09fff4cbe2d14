-- What an exit says against a frame and the frames round it.
use Rattle.std.specs.Prelude.{◌≡◌, ℕ, suc, ◌<◌, ◌≤◌, List, [], ◌∷◌, ◌++◌, Some, None}
use Rattle.ol_context.specs.Contexts.{Level, empty, star, Context, levels}
use Rattle.ol_readback.specs.Frames.{os, Frame, frame_at}
use Rattle.ol_readback.specs.declared.answers.HeadVar.{HeadVar}
use Rattle.ol_readback.specs.declared.answers.HeadVar.TheVariants as var

-- Context X is that of binder j + 1, of l, of a frame with these levels, with k arguments.
pub record Fits (ls : List Level) (l : ℕ) (X : Context) (j k : ℕ) (d : Level) : Type 0 where
  pub below : j < l
  pub is : X ≡ levels (ls ++ (os j (star d) ∷ (os k empty ∷ [])))

-- The exit by port q with context X is no binder of a frame with l abstractions.
abbrev pub NoFit : Frame → ℕ → ℕ → Context → Type 0
NoFit f l q X = (j k : ℕ) (d : Level) → f.port ≡ q → Fits f.levels l X j k d → ⊥

-- Context X is that of a free name, with k arguments.
abbrev pub IsOpen : Context → Level → ℕ → Type 0
IsOpen X v k = X ≡ levels (v ∷ (os k empty ∷ []))

-- What the exit by port q with context X is against frame i with l abstractions and the frames
-- round it: a variable with k arguments, whose frames begin with levels ls. The nearest frame that
-- fits decides. Where none does, the port isn't the root's and the context is that of a free name,
-- it is the free name of the port.
pub data Matches (frames : List Frame) (q : ℕ) (X : Context) : ℕ → ℕ → HeadVar → ℕ → List Level → Type 0 where
  here : {i l j k : ℕ} {d : Level} → (frame_at frames i).port ≡ q → Fits (frame_at frames i).levels l X j k d →
      Matches frames q X i l (var.Bound i (suc j)) k ((frame_at frames i).levels ++ os j (star d) ∷ [])
  above : {i l p k : ℕ} {v : HeadVar} {ls : List Level} → NoFit (frame_at frames i) l q X →
      (frame_at frames i).parent ≡ Some p →
      Matches frames q X p (frame_at frames p).lams v k ls → Matches frames q X i l v k ls
  name : {i l k : ℕ} {v : Level} → NoFit (frame_at frames i) l q X →
      (frame_at frames i).parent ≡ None → 1 ≤ q → IsOpen X v k →
      Matches frames q X i l (var.Free q) k (v ∷ [])

-- nothing matches
abbrev pub MatchesNothing : List Frame → ℕ → Context → ℕ → ℕ → Type 0
MatchesNothing frames q X i l = (v : HeadVar) (k : ℕ) (ls : List Level) → Matches frames q X i l v k ls → ⊥
