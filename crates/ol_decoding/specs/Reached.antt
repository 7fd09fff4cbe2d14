-- How far the reading of a net has come, place by place.
use Rattle.std.specs.Prelude.{◌≡◌, ℕ, ◌<◌, List, [], ◌∷◌, ◌++◌, length}
use Rattle.ol_net.specs.Nets.{NamedNet}
use Rattle.ol_readback.specs.Askers.{Reading, so_far, the_start, found}
use Rattle.ol_readback.specs.Frames.{Frame}
use Rattle.ol_readback.specs.Heads.{Answer, IsHeadWithin}
use Rattle.ol_readback.specs.ReadTrees.{Subterm, framed}
use Rattle.ol_readback.specs.declared.answers.ReadNode.{ReadNode}

-- a reading of the net comes so far, if so many places are asked
pub data ReachesPlace (N : NamedNet ℕ) (heads edges : ℕ) : Reading → Type 0 where
  start : ReachesPlace N heads edges the_start
  on : {F : List Frame} {s : Subterm} {ss : List Subterm} {ns : List ReadNode} {a : Answer} →
      ReachesPlace N heads edges (so_far F (s ∷ ss) ns) → length F < heads →
      IsHeadWithin N (F ++ framed s 0 ∷ []) (length F) edges a →
      ReachesPlace N heads edges (found ns F s ss a)

-- place k is asked, and this is its subterm
pub record IsAskedAt (N : NamedNet ℕ) (heads edges k : ℕ) (s : Subterm) : Type 0 where
  pub frames : List Frame
  pub later : List Subterm
  pub places : List ReadNode
  pub reached : ReachesPlace N heads edges (so_far frames (s ∷ later) places)
  pub is_there : length frames ≡ k
  pub within : k < heads
