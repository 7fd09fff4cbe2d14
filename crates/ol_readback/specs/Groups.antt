-- Private: arguments that are still to be read, head by head.
use Rattle.std.specs.Prelude.{◌≡◌, ℕ, ◌-◌, ◌<◌, List, [], ◌∷◌, ◌++◌, map, Option, Some, None, MatchOption}
use Rattle.ol_context.specs.Contexts.{Level, empty, star}
use Rattle.ol_context.specs.Shapes.{value, AreHeld, IsNumberOf}
use Rattle.ol_readback.specs.Frames.{os}
use Rattle.ol_readback.specs.ReadTrees.{Subterm, arguments}
use Rattle.ol_readback.specs.declared.frames.Frame.{Frame}
use Rattle.ol_readback.specs.declared.groups.Group.{Group}

-- the subterms that are left of a group
abbrev pub subterms_of : List Level → Group → List Subterm
subterms_of vs g = arguments g.parent g.port (map (value vs) g.at) g.done (g.args - g.done)

abbrev pub subterms_in : List Level → Option Group → List Subterm
subterms_in vs None = []
subterms_in vs (Some g) = subterms_of vs g

-- of all groups, the last one first
abbrev pub pending_of : List Level → List Group → List Subterm
pending_of vs [] = []
pending_of vs (g ∷ gs) = pending_of vs gs ++ subterms_of vs g

-- the group's values are of this holder, its mark is that of its next argument, and some argument is left
pub record IsHeldGroup (vs : List Level) (g : Group) : Type 0 where
  pub held : AreHeld vs g.at
  pub mark : IsNumberOf vs g.mark (os g.done (star empty))
  pub left : g.done < g.args

abbrev pub AreHeldGroups : List Level → List Group → Type 0
AreHeldGroups vs [] = Unit {0}
AreHeldGroups vs (g ∷ gs) = IsHeldGroup vs g × AreHeldGroups vs gs

abbrev pub AreHeldIn : List Level → Option Group → Type 0
AreHeldIn vs None = Unit {0}
AreHeldIn vs (Some g) = IsHeldGroup vs g

-- the group's port is one of so many free ports, its parent one of so many frames
pub record IsPlacedGroup (free count : ℕ) (g : Group) : Type 0 where
  pub port : g.port < free
  pub parent : g.parent < count

abbrev pub ArePlacedGroups : ℕ → ℕ → List Group → Type 0
ArePlacedGroups free count [] = Unit {0}
ArePlacedGroups free count (g ∷ gs) = IsPlacedGroup free count g × ArePlacedGroups free count gs

abbrev pub ArePlacedIn : ℕ → ℕ → Option Group → Type 0
ArePlacedIn free count None = Unit {0}
ArePlacedIn free count (Some g) = IsPlacedGroup free count g

-- the subterm of a frame
abbrev pub subterm_of : List Level → Frame → Subterm
subterm_of vs f = record { port = f.port; levels = map (value vs) f.levels; parent = f.parent }

-- the frame stands at one of so many free ports, in one of so many frames, its levels are of this holder, and its
-- abstractions aren't known yet
pub record IsNextFrame (free count : ℕ) (vs : List Level) (f : Frame) : Type 0 where
  pub held : AreHeld vs f.levels
  pub port : f.port < free
  pub parent : (p : ℕ) → f.parent ≡ Some p → p < count
  pub fresh : f.lams ≡ 0

-- no argument is left
abbrev pub NoneLeft : List Level → List Group → Type 0
NoneLeft vs gs = pending_of vs gs ≡ []

-- f is the frame of the next argument, and the groups gs become hs
pub record IsNext (old new : List Level) (gs hs : List Group) (f : Frame) : Type 0 where
  pub first : pending_of old gs ≡ subterm_of new f ∷ pending_of new hs
  pub held : AreHeldGroups new hs
  pub placed : (free count : ℕ) → ArePlacedGroups free count gs →
      ArePlacedGroups free count hs × IsNextFrame free count new f

-- the frame of the next argument was taken off, or no argument is left
abbrev pub HasTaken : List Level → List Level → List Group → List Group → Option Frame → Type 0
HasTaken old new gs hs r = MatchOption r (NoneLeft old gs) (λ f. IsNext old new gs hs f)

-- the group of all arguments of a head
pub record IsGroupOf (old new : List Level) (parent port args : ℕ) (at : List ℕ) (r : Option Group) : Type 0 where
  pub is : subterms_in new r ≡ arguments parent port (map (value old) at) 0 args
  pub held : AreHeldIn new r
  pub placed : (free count : ℕ) → port < free → parent < count → ArePlacedIn free count r
