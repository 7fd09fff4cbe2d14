-- Where the spots of a subterm's interface stand in a net that is read back, and which binder the exits are of.
use Rattle.std.specs.Prelude.{◌≡◌, ℕ, zero, suc, ◌-◌, ◌<◌, ◌≤◌, ◌⊎◌, List, [], ◌∷◌, ◌++◌, length, Option, Some, None}
use Rattle.ol_net.specs.Nets.{NamedNet, free}
use Rattle.ol_context.specs.Paths.{Path}
use Rattle.ol_readback.specs.Frames.{Frame, frame_at}
use Rattle.ol_law_meaning.specs.Spots.{place, applications}
use Rattle.ol_law_meaning.specs.Contraction.{Translation, Tree, Level, star, Context, cons, Wire, bound, name, empty}
use Rattle.ol_law_meaning.specs.Contraction.{under, Place, root, wire, at, Leads}
use Rattle.ol_law_meaning.specs.Heads.{os, Steps, SameAlong, Arg, StandsAt}

-- a context with these levels put before it
abbrev pub ahead : List Level → Context → Context
ahead [] c = c
ahead (v ∷ vs) c = cons v (ahead vs c)

-- a wire under so many more abstractions
abbrev pub unders : ℕ → Wire → Wire
unders zero z = z
unders (suc l) z = unders l (under z)

-- ---- the frames round a subterm

-- frames with their numbers, the nearest first
abbrev pub Chain : Type 0
Chain = List (ℕ × Frame)

-- These are the frames from this parent outwards. Each number is less than the one before it, and
-- the first one less than b.
abbrev pub IsChain : List Frame → ℕ → Option ℕ → Chain → Type 0
IsChain F b o [] = o ≡ None
IsChain F b o (x ∷ xs) = (o ≡ Some x.0) × (x.0 < b) × (x.0 < length F) × (frame_at F x.0 ≡ x.1)
    × IsChain F x.0 x.1.parent xs

-- their numbers, each with its number of abstractions
abbrev pub scope : Chain → List (ℕ × ℕ)
scope [] = []
scope (x ∷ xs) = (x.0, x.1.lams) ∷ scope xs

-- an exit by port q with these first levels is no binder of the frame
abbrev pub IsNotOf : Frame → ℕ → List Level → Type 0
IsNotOf f q ls = (j : ℕ) (d : Level) (c c' : Context) → f.port ≡ q →
    ahead ls c ≡ ahead f.levels (cons (os j (star d)) c') → ⊥

-- Wire z of a subterm with these frames round it leaves by port q with these first levels: as
-- binder j + 1 of the nearest frame, or,
-- none of its binders, as a wire from outside of that frame; and where no frame is left, as a free name.
abbrev pub LeavesAs : Chain → Wire → ℕ → List Level → Type 0
LeavesAs [] (bound y) q ls = ⊥
LeavesAs [] (name f) q ls = (q ≡ suc f) × (v : Level) × (ls ≡ v ∷ [])
LeavesAs (x ∷ xs) z q ls =
    ((j : ℕ) × (d : Level) × (j < x.1.lams) × (z ≡ bound (x.1.lams - suc j)) × (q ≡ x.1.port)
    × (ls ≡ x.1.levels ++ os j (star d) ∷ []))
    ⊎ (IsNotOf x.1 q ls × (y : Wire) × (z ≡ unders x.1.lams y) × LeavesAs xs y q ls)

-- ---- a subterm in the net

-- a spot of an interface, and a free port with a context at which it stands
abbrev pub Seats : Type 1
Seats = Place → Level → Context → ℕ → Context → Type 0

-- Subterm P, with these frames round it, is seen in the net at free port p behind these levels.
-- Each spot of its root stands there, and each of its wires stands where the binder's or the name's
-- exits are; no two stand at the same, nor one at two. From where a spot stands the paths lead to
-- just those exits at which the spots stand that it leads to in P alone, where it crosses no more
-- applications than the path.
pub record IsSeen {A : Type 0} (τ : Translation) (N : NamedNet A) (ch : Chain) (p : ℕ)
    (ls : List Level) (P : Tree) (S : Seats) : Type 0 where
  pub at_root : (v : Level) (c : Context) → S root v c p (ahead ls (cons v c))
  pub at_wire : (z : Wire) (v : Level) (c : Context) (q : ℕ) (X : Context) → S (wire z) v c q X →
      (ms : List Level) × LeavesAs ch z q ms × ((d : Context) → S (wire z) v d q (ahead ms d))
      × (X ≡ ahead ms c)
  pub one : (x y : Place) (v w : Level) (c d : Context) (q r : ℕ) (X Y : Context) → S x v c q X →
      S y w d r Y →
      (at x v c ≡ at y w d → (q ≡ r) × (X ≡ Y)) × (q ≡ r → X ≡ Y → at x v c ≡ at y w d)
  pub forth : (x y : Place) (v w : Level) (c d : Context) (n q : ℕ) (X : Context) → S x v c q X →
      Leads τ P (at x v c) (at y w d) n →
      (r : ℕ) × (Y : Context) × S y w d r Y × Path N (free q) X r Y
  pub back : (x : Place) (v : Level) (c : Context) (q r : ℕ) (X Y : Context) → S x v c q X →
      (t : Path N (free q) X r Y) →
      (y : Place) × (w : Level) × (d : Context) × (n : ℕ) × S y w d r Y
      × Leads τ P (at x v c) (at y w d) n × (n ≤ applications t)

-- a whole term's spots stand at its net's own free ports
abbrev pub WholeSeats : Seats
WholeSeats x v c q X = (x ≡ place q) × (X ≡ cons v c)

-- an argument's spots stand where those of the head normal form stand, in a term from which head steps lead to this
abbrev pub ArgSeats : Translation → {P u Q : Tree} {m i : ℕ} → Steps P u m → Arg u i Q → Seats →
    Seats
ArgSeats τ s k S x v c q X =
    (y : Place) × (b : Level) × (d : Context) × StandsAt τ k empty x v c y b d × (w : Level)
    × SameAlong τ s y w b × S y w d q X

-- ---- subterms of a term

-- How one comes from a term to what its tree's places show: to the term itself, and to an argument
-- of a head normal form, to which head steps lead from one that one came to before.
pub data Within (t : Tree) : Tree → Type 0 where
  whole : Within t t
  argument : {P u Q : Tree} {m i : ℕ} → Within t P → Steps P u m → Arg u i Q → Within t Q

-- where its spots stand in the term's net
abbrev pub seats_of : Translation → {t P : Tree} → Within t P → Seats
seats_of τ whole = WholeSeats
seats_of τ (argument w s k) = ArgSeats τ s k (seats_of τ w)
