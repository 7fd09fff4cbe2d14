-- The laws of heads and trees.
use Rattle.std.specs.Prelude.{◌≡◌, ℕ, List}
use Rattle.ol_net.specs.Nets.{NamedNet, IsNet}
use Rattle.ol_context.specs.Paths.{HaveSamePaths}
use Rattle.ol_readback.specs.Frames.{Frame}
use Rattle.ol_readback.specs.Heads.{Answer, head, IsMatched, IsHead, IsHeadWithin}
use Rattle.ol_readback.specs.ReadTrees.{IsTree}
use Rattle.ol_readback.specs.Whole.{IsWholeTree}
use Rattle.ol_readback.specs.declared.answers.HeadVar.{HeadVar}
use Rattle.ol_readback.specs.declared.answers.ReadNode.{ReadNode}
use Rattle.ol_context.specs.Contexts.{Level, Context}

-- an exit says one thing
abbrev pub ExitIsOne : Type 0
ExitIsOne = (frames : List Frame) (i n q : ℕ) (X : Context) (a b : Answer) →
    IsMatched frames i n q X a → IsMatched frames i n q X b → a ≡ b

-- a frame has one head
abbrev pub HeadIsOne : Type 0 → Type 0
HeadIsOne A = (N : NamedNet A) → IsNet N → (frames : List Frame) (i : ℕ) (a b : Answer) →
    IsHead N frames i a → IsHead N frames i b → a ≡ b

-- and within a budget too
abbrev pub HeadWithinIsOne : Type 0 → Type 0
HeadWithinIsOne A = (N : NamedNet A) → IsNet N →
    (frames : List Frame) (i edges : ℕ) (a b : Answer) → IsHeadWithin N frames i edges a →
    IsHeadWithin N frames i edges b → a ≡ b

-- a net has one tree
abbrev pub TreeIsOne : Type 0 → Type 0
TreeIsOne A = (N : NamedNet A) → IsNet N → (heads edges : ℕ) (ns ms : List ReadNode) →
    IsTree N heads edges ns → IsTree N heads edges ms → ns ≡ ms

-- a tree is whole
abbrev pub TreeIsWhole : Type 0 → Type 0
TreeIsWhole A = (N : NamedNet A) (heads edges : ℕ) (ns : List ReadNode) → IsTree N heads edges ns → IsWholeTree ns

-- equal paths give equal heads
abbrev pub HeadsKept : Type 0 → Type 0 → Type 0
HeadsKept A B = (N : NamedNet A) (M : NamedNet B) → HaveSamePaths N M →
    (frames : List Frame) (i : ℕ) (a : Answer) → IsHead N frames i a → IsHead M frames i a

-- a head that was found within a budget is the head
abbrev pub HeadIsHead : Type 0 → Type 0
HeadIsHead A = (N : NamedNet A) (frames : List Frame) (i edges n k : ℕ) (v : HeadVar)
    (ls : List Level) → IsHeadWithin N frames i edges (head n v k ls) → IsHead N frames i (head n v k ls)
