-- Frames, and what is asked of them.
use Rattle.std.specs.Prelude.{◌≡◌, ℕ, ◌<◌, List, [], ◌∷◌, map, Option, Some, None, slice_index_or}
use Rattle.ol_context.specs.Contexts.{Level}
pub use Rattle.ol_context.specs.Asked.{os, asked}
use Rattle.ol_context.specs.Shapes.{value, AreHeld}
use Rattle.ol_readback.specs.declared.frames.Frame as code

-- A frame: a free port, the levels that each question to it begins with, the number of the frame
-- round it, and the number of abstractions of the head that was found there.
pub record Frame : Type 0 where
  pub port : ℕ
  pub levels : List Level
  pub parent : Option ℕ
  pub lams : ℕ

-- the root's frame
abbrev pub root : Frame
root = record { port = 0; levels = []; parent = None; lams = 0 }

-- The number of a frame is its place in a list of frames.
abbrev pub frame_at : List Frame → ℕ → Frame
frame_at frames i = slice_index_or frames i root

-- each parent stands before its child
abbrev pub ParentsFirst : List Frame → Type 0
ParentsFirst frames = (i p : ℕ) → (frame_at frames i).parent ≡ Some p → p < i

-- the frame that has the levels of these numbers
abbrev pub frame_of : List Level → code.Frame → Frame
frame_of vs f = record { port = f.port; levels = map (value vs) f.levels; parent = f.parent; lams = f.lams }

abbrev pub frames_of : List Level → List code.Frame → List Frame
frames_of vs fs = map (frame_of vs) fs

-- the levels of all frames are of this holder
abbrev pub AreHeldFrames : List Level → List code.Frame → Type 0
AreHeldFrames vs [] = Unit {0}
AreHeldFrames vs (f ∷ fs) = AreHeld vs f.levels × AreHeldFrames vs fs

-- the port of each frame is one of so many free ports
abbrev pub AreAtPorts : ℕ → List code.Frame → Type 0
AreAtPorts free [] = Unit {0}
AreAtPorts free (f ∷ fs) = (f.port < free) × AreAtPorts free fs
