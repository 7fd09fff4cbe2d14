-- Private: what an exit says against one frame.
use Rattle.std.specs.Prelude.{◌≡◌, ℕ, ◌<◌, ◌≤◌, List, [], ◌∷◌, length, Bool, Option, Some, None}
use Rattle.std.specs.Prelude.{slice_index_or, MatchBool}
use Rattle.ol_context.specs.Contexts.{Level, empty, o, star, Context}
use Rattle.ol_context.specs.Shapes.{value}
use Rattle.ol_readback.specs.Frames.{os, Frame}
use Rattle.ol_readback.specs.Matching.{Fits, NoFit, IsOpen}
use Rattle.ol_readback.specs.Heads.{Answer, head, no_head}
use Rattle.ol_readback.specs.declared.answers.HeadVar.TheVariants as var

abbrev pub IsNoO : Level → Type 0
IsNoO v = (w : Level) → v ≡ o w → ⊥

abbrev pub IsNoStar : Level → Type 0
IsNoStar v = (w : Level) → v ≡ star w → ⊥

abbrev pub IsSomeStar : Level → Type 0
IsSomeStar v = (d : Level) × (v ≡ star d)

-- v is n times o before the value of w, which is no o
pub record Stripped (vs : List Level) (v n w : ℕ) : Type 0 where
  pub held : w < length vs
  pub is : value vs v ≡ os n (value vs w)
  pub last : IsNoO (value vs w)

-- the binder, counted from 0, and the number of arguments
abbrev pub IsFit : List Level → ℕ → Context → Option (ℕ × ℕ) → Type 0
IsFit ls l X None = (j k : ℕ) (d : Level) → Fits ls l X j k d → ⊥
IsFit ls l X (Some r) = (d : Level) × Fits ls l X r.0 r.1 d

-- the first levels of X are these
abbrev pub BeginsWith : List Level → Context → Type 0
BeginsWith ls X = (i : ℕ) → i < length ls → X i ≡ slice_index_or ls i empty

abbrev pub BeginsNotWith : List Level → Context → Type 0
BeginsNotWith ls X = BeginsWith ls X → ⊥

-- whether they are
abbrev pub TellsBegin : List Level → Context → Bool → Type 0
TellsBegin ls X r = MatchBool r (BeginsWith ls X) (BeginsNotWith ls X)

-- how many o stand before a star
abbrev pub IsMark : Level → Option ℕ → Type 0
IsMark v None = (j : ℕ) (d : Level) → v ≡ os j (star d) → ⊥
IsMark v (Some j) = (d : Level) × (v ≡ os j (star d))

-- how many o stand before empty
abbrev pub IsCount : Level → Option ℕ → Type 0
IsCount v None = (k : ℕ) → v ≡ os k empty → ⊥
IsCount v (Some k) = v ≡ os k empty

-- the same at level m, where all later levels are empty
abbrev pub IsLastCount : ℕ → Context → Option ℕ → Type 0
IsLastCount m X None = (k : ℕ) → X m ≡ os k empty → ((i : ℕ) → m < i → X i ≡ empty) → ⊥
IsLastCount m X (Some k) = (X m ≡ os k empty) × ((i : ℕ) → m < i → X i ≡ empty)

-- the same with the port
abbrev pub IsFitOf : Frame → ℕ → ℕ → Context → Option (ℕ × ℕ) → Type 0
IsFitOf f l q X None = NoFit f l q X
IsFitOf f l q X (Some r) = (f.port ≡ q) × IsFit f.levels l X (Some r)

-- the number of arguments of a free name
abbrev pub IsNameOf : ℕ → Context → Option ℕ → Type 0
IsNameOf q X None = (v : Level) (k : ℕ) → 1 ≤ q → IsOpen X v k → ⊥
IsNameOf q X (Some k) = (1 ≤ q) × IsOpen X (X 0) k

-- the free name of port q, or no head
pub data IsNamed (n q : ℕ) (X : Context) : Answer → Type 0 where
  name : {v : Level} {k : ℕ} → 1 ≤ q → IsOpen X v k → IsNamed n q X (head n (var.Free q) k (v ∷ []))
  nameless : ((v : Level) (k : ℕ) → 1 ≤ q → IsOpen X v k → ⊥) → IsNamed n q X no_head
