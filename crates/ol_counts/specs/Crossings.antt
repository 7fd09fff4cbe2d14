-- The crossings of the paths by which a net is read back.
use Rattle.std.specs.Prelude.{◌≡◌, ℕ, ◌+◌, ◌*◌, ◌<◌, ◌≤◌, List, [], ◌∷◌, ◌++◌, length}
use Rattle.ol_net.specs.Nets.{NamedNet, free}
use Rattle.ol_context.specs.Contexts.{Context}
use Rattle.ol_context.specs.Short.{live}
use Rattle.ol_context.specs.Ways.{Exits}
use Rattle.ol_readback.specs.Frames.{Frame, frame_at, asked}
use Rattle.ol_readback.specs.Heads.{Answer, head, no_head, budget, IsHeadWithin}
use Rattle.ol_readback.specs.ReadTrees.{Subterm, whole_term, framed}
use Rattle.ol_demand.specs.Demands.{next}

-- The crossings of the path that leads from frame i to its head. There are none if no head was found.
abbrev pub HasCrossings : {A : Type 0} → NamedNet A → List Frame → (i edges : ℕ) → Answer → ℕ → Type 0
HasCrossings N frames i edges (head n v k ls) c =
    (q : ℕ) × (X : Context) × Exits N (free (frame_at frames i).port) (asked (frame_at frames i).levels n) edges q X c
HasCrossings N frames i edges no_head c = c ≡ 0
HasCrossings N frames i edges budget c = c ≡ 0

-- The paths to the heads of the subterms that are left, in preorder, have so many crossings altogether. The
-- frames are those of the places before. The first heads places are asked, each by paths of at most edges
-- crossings.
pub data AreReadBy {A : Type 0} (N : NamedNet A) (heads edges : ℕ) : List Frame → List Subterm → ℕ → Type 0 where
  end : {F : List Frame} → AreReadBy N heads edges F [] 0
  past : {F : List Frame} {ss : List Subterm} → heads ≤ length F → AreReadBy N heads edges F ss 0
  asks : {F : List Frame} {s : Subterm} {ss : List Subterm} {a : Answer} {m : ℕ} (c : ℕ) → length F < heads →
      IsHeadWithin N (F ++ framed s 0 ∷ []) (length F) edges a →
      HasCrossings N (F ++ framed s 0 ∷ []) (length F) edges a c →
      AreReadBy N heads edges (next F s ss a).frames (next F s ss a).waiting m →
      AreReadBy N heads edges F (s ∷ ss) (c + m)

-- The readback of a net has so many crossings, where each path has at most twice as many as there are nodes.
abbrev pub IsReadBackBy : {A : Type 0} → NamedNet A → (heads : ℕ) → ℕ → Type 0
IsReadBackBy N heads c = AreReadBy N heads (2 * live N) [] (whole_term ∷ []) c
