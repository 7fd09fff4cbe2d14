-- Reading one place after another.
use Rattle.std.specs.Prelude.{ℕ, ◌<◌, List, map}
use Rattle.ol_context.specs.Contexts.{Level}
use Rattle.ol_readback.specs.Frames.{frames_of, ParentsFirst, AreHeldFrames, AreAtPorts}
use Rattle.ol_readback.specs.Groups.{pending_of}
use Rattle.ol_readback.specs.declared.answers.HeadVar.{HeadVar}
use Rattle.ol_readback.specs.declared.answers.HeadVar.TheVariants as var
use Rattle.ol_readback.specs.declared.answers.ReadNode.{ReadNode}
use Rattle.ol_readback.specs.declared.answers.ReadNode.TheVariants as node
use Rattle.ol_readback.specs.declared.frames.Frame.{Frame}
use Rattle.ol_readback.specs.declared.groups.Group.{Group}

-- the frames of the places that were read: each parent before its child, at one of so many free
-- ports, their levels of this holder
pub record IsFrameList (free : ℕ) (vs : List Level) (fs : List Frame) : Type 0 where
  pub parents : ParentsFirst (frames_of vs fs)
  pub held : AreHeldFrames vs fs
  pub ports : AreAtPorts free fs

-- a binder of one of so many frames, or a free name
abbrev pub IsKnown : ℕ → HeadVar → Type 0
IsKnown count (var.Bound i j) = i < count
IsKnown count (var.Free q) = Unit {0}

-- all arguments that are left are cut
abbrev pub cuts_of : List Level → List Group → List ReadNode
cuts_of vs gs = map (λ s. node.Cut) (pending_of vs gs)
