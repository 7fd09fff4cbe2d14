-- Heads of a tree that are heads of another net, whose paths are the same.
use Rattle.std.specs.Prelude.{◌≡◌, ℕ, ◌≤◌, List, [], ◌∷◌, ◌++◌, length, Bool, true, false}
use Rattle.ol_net.specs.Nets.{NamedNet, free, IsNet}
use Rattle.ol_context.specs.Contexts.{Level, Context}
use Rattle.ol_context.specs.Paths.{Path, HaveSamePaths}
use Rattle.ol_context.specs.Short.{HasNoFacing, live}
use Rattle.ol_context.specs.Ways.{WalkStands}
use Rattle.ol_readback.specs.Frames.{Frame, asked}
use Rattle.ol_readback.specs.Heads.{head, no_head, IsHead, IsHeadWithin, FailsBelow}
use Rattle.ol_readback.specs.ReadTrees.{Subterm, whole_term, framed, port_of, arguments, IsTree}
use Rattle.ol_readback.specs.declared.answers.HeadVar.{HeadVar}
use Rattle.ol_readback.specs.declared.answers.ReadNode.{ReadNode}
use Rattle.ol_readback.specs.declared.answers.ReadNode.TheVariants as node

-- The subterms still to be read, in preorder, have these places, where these frames are those of
-- the places before. A head is
-- the one that net N gives for its frame, by paths of any length; the frames after it are those
-- that this head gives. Where
-- lost_too is true, a place without a head has none in N either. Of a place that was cut nothing is said.
pub data HaveHeadsOf {A : Type 0} (N : NamedNet A) (lost_too : Bool) : List Frame → List Subterm →
    List ReadNode → Type 0 where
  end : {frames : List Frame} → HaveHeadsOf N lost_too frames [] []
  cut : {frames : List Frame} {s : Subterm} {ss : List Subterm} {ns : List ReadNode} →
      HaveHeadsOf N lost_too (frames ++ framed s 0 ∷ []) ss ns → HaveHeadsOf N lost_too frames (s ∷ ss) (node.Cut ∷ ns)
  lost : {frames : List Frame} {s : Subterm} {ss : List Subterm} {ns : List ReadNode} →
      (lost_too ≡ true → IsHead N (frames ++ framed s 0 ∷ []) (length frames) no_head) →
      HaveHeadsOf N lost_too (frames ++ framed s 0 ∷ []) ss ns →
      HaveHeadsOf N lost_too frames (s ∷ ss) (node.NoHead ∷ ns)
  found : {frames : List Frame} {s : Subterm} {ss : List Subterm} {ns : List ReadNode} {n k : ℕ}
      {v : HeadVar} {ls : List Level} →
      IsHead N (frames ++ framed s 0 ∷ []) (length frames) (head n v k ls) →
      HaveHeadsOf N lost_too (frames ++ framed s n ∷ [])
      (arguments (length frames) (port_of (frames ++ framed s n ∷ []) v) ls 0 k ++ ss) ns →
      HaveHeadsOf N lost_too frames (s ∷ ss) (node.Head n v k ∷ ns)

-- the same of a whole tree, read from the root's frame
abbrev pub HasHeadsOf : {A : Type 0} → NamedNet A → Bool → List ReadNode → Type 0
HasHeadsOf N lost_too ns = HaveHeadsOf N lost_too [] (whole_term ∷ []) ns

-- In a net without facing pairs, a number of abstractions for which a walk leaves is found among
-- the first ones, as many as there are nodes.
abbrev pub FewAreEnough : Type 0 → Type 0
FewAreEnough A = (N : NamedNet A) → IsNet N → HasNoFacing N →
    (p : ℕ) (ls : List Level) (n q : ℕ) (X : Context) → Path N (free p) (asked ls n) q X →
    (m : ℕ) × (q' : ℕ) × (X' : Context) × (m ≤ live N) × (m ≤ n) × Path N (free p) (asked ls m) q' X'

-- In such a net a frame that was found within a budget to have no head has none.
abbrev pub NoHeadIsNoHead : Type 0 → Type 0
NoHeadIsNoHead A = (N : NamedNet A) → IsNet N → HasNoFacing N →
    (frames : List Frame) (i edges : ℕ) → IsHeadWithin N frames i edges no_head → IsHead N frames i no_head

-- The heads of a tree are those of each net with the same paths; and where the net that was read
-- has no facing pairs, so are the places without a head.
abbrev pub PrintedHeads : Type 0 → Type 0 → Type 0
PrintedHeads A B = (N : NamedNet A) (M : NamedNet B) → HaveSamePaths N M → IsNet M →
    (heads edges : ℕ) (ns : List ReadNode) → IsTree M heads edges ns →
    HasHeadsOf N false ns × (HasNoFacing M → HasHeadsOf N true ns)

-- Some try goes on for ever, and each one before it fails.
abbrev pub MeetsRing : {A : Type 0} → NamedNet A → Frame → ℕ → Type 0
MeetsRing N f edges = (n : ℕ) × (n ≤ live N) × FailsBelow N f edges n
    × ((made : ℕ) → WalkStands N (free f.port) (asked f.levels n) made)
