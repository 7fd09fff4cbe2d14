-- The read-back tree: the list of its subterms in preorder, arguments from the first to the last.
use Rattle.std.specs.Prelude.{ℕ, zero, suc, ◌<◌, ◌≤◌, List, [], ◌∷◌, ◌++◌, length, map, Option, Some, None}
use Rattle.ol_net.specs.Nets.{NamedNet}
use Rattle.ol_context.specs.Contexts.{Level, empty, star}
use Rattle.ol_readback.specs.Frames.{os, Frame, frame_at}
use Rattle.ol_readback.specs.Heads.{head, no_head, budget, IsHeadWithin}
use Rattle.ol_readback.specs.declared.answers.HeadVar.{HeadVar}
use Rattle.ol_readback.specs.declared.answers.HeadVar.TheVariants as var
use Rattle.ol_readback.specs.declared.answers.ReadNode.{ReadNode}
use Rattle.ol_readback.specs.declared.answers.ReadNode.TheVariants as node

-- what is still to be read: the frame of a subterm, before its abstractions are known
pub record Subterm : Type 0 where
  pub port : ℕ
  pub levels : List Level
  pub parent : Option ℕ

abbrev pub whole_term : Subterm
whole_term = record { port = 0; levels = []; parent = None }

-- its frame, with l abstractions
abbrev pub framed : Subterm → ℕ → Frame
framed s l = record { port = s.port; levels = s.levels; parent = s.parent; lams = l }

-- the port by which a head's walk left: that of the frame that binds it, or that of its free name
abbrev pub port_of : List Frame → HeadVar → ℕ
port_of frames (var.Bound i j) = (frame_at frames i).port
port_of frames (var.Free q) = q

-- arguments j + 1 to j + k of the head of frame i, which left by port q and matched levels ls
abbrev pub arguments : ℕ → ℕ → List Level → ℕ → ℕ → List Subterm
arguments i q ls j zero = []
arguments i q ls j (suc k) = record {
  port = q;
  levels = ls ++ os j (star empty) ∷ [];
  parent = Some i;
} ∷ arguments i q ls (suc j) k

-- The subterms still to be read, in preorder, give this list, where these frames are those of the
-- places before. The first heads places are asked. Every later one is Cut, and so is one that meets
-- the budget.
pub data ReadsBack {A : Type 0} (N : NamedNet A) (heads edges : ℕ) : List Frame → List Subterm →
    List ReadNode → Type 0 where
  end : {frames : List Frame} → ReadsBack N heads edges frames [] []
  past : {frames : List Frame} {ss : List Subterm} → heads ≤ length frames →
      ReadsBack N heads edges frames ss (map (λ s. node.Cut) ss)
  spent : {frames : List Frame} {s : Subterm} {ss : List Subterm} {ns : List ReadNode} → length frames < heads →
      IsHeadWithin N (frames ++ framed s 0 ∷ []) (length frames) edges budget →
      ReadsBack N heads edges (frames ++ framed s 0 ∷ []) ss ns →
      ReadsBack N heads edges frames (s ∷ ss) (node.Cut ∷ ns)
  lost : {frames : List Frame} {s : Subterm} {ss : List Subterm} {ns : List ReadNode} → length frames < heads →
      IsHeadWithin N (frames ++ framed s 0 ∷ []) (length frames) edges no_head →
      ReadsBack N heads edges (frames ++ framed s 0 ∷ []) ss ns →
      ReadsBack N heads edges frames (s ∷ ss) (node.NoHead ∷ ns)
  found : {frames : List Frame} {s : Subterm} {ss : List Subterm} {ns : List ReadNode} {n k : ℕ}
      {v : HeadVar} {ls : List Level} → length frames < heads →
      IsHeadWithin N (frames ++ framed s 0 ∷ []) (length frames) edges (head n v k ls) →
      ReadsBack N heads edges (frames ++ framed s n ∷ [])
      (arguments (length frames) (port_of (frames ++ framed s n ∷ []) v) ls 0 k ++ ss) ns →
      ReadsBack N heads edges frames (s ∷ ss) (node.Head n v k ∷ ns)

-- the tree of a net, read from the root's frame
abbrev pub IsTree : {A : Type 0} → NamedNet A → ℕ → ℕ → List ReadNode → Type 0
IsTree N heads edges ns = ReadsBack N heads edges [] (whole_term ∷ []) ns
