-- Lists of frames.
use Rattle.std.proofs.Common.{◌≡◌, ℕ, zero, suc, ◌<◌, List, [], ◌∷◌, length, get_or, refl, sym, ap, ◌∙◌, subst, arith}
use Rattle.std.proofs.lemmas.List.{get_or-map, length-map}
use Rattle.ol_context.specs.Contexts.{Level}
use Rattle.ol_context.specs.Shapes.{AreHeld, Extends}
use Rattle.ol_context.proofs.Shapes.{held_more, map_more}
use Rattle.ol_readback.specs.Frames.{Frame, root, frame_at, frame_of, frames_of, AreHeldFrames, AreAtPorts}
use Rattle.ol_readback.specs.declared.frames.Frame as code

-- frame i, read from the code's list
pub frame_is : (vs : List Level) (fs : List code.Frame) (i : ℕ) (f : code.Frame) → i < length fs →
    f ≡ get_or fs i f → frame_at (frames_of vs fs) i ≡ frame_of vs f
frame_is vs fs i f b e = get_or-map (frame_of vs) fs i f root b ∙ ap (frame_of vs) (sym e)

pub held_frame : (vs : List Level) (fs : List code.Frame) (i : ℕ) (f : code.Frame) →
    AreHeldFrames vs fs → i < length fs → AreHeld vs (get_or fs i f).levels
held_frame vs [] i f h b = absurd (omega arith)
held_frame vs (g ∷ fs) zero f h b = h.0
held_frame vs (g ∷ fs) (suc i) f h b = held_frame vs fs i f h.1 (omega arith)

pub held_this : (vs : List Level) (fs : List code.Frame) (i : ℕ) (f : code.Frame) →
    AreHeldFrames vs fs → i < length fs → f ≡ get_or fs i f → AreHeld vs f.levels
held_this vs fs i f h b e = subst (λ (g : code.Frame). AreHeld vs g.levels) (sym e) (held_frame vs fs i f h b)

port_frame : (free : ℕ) (fs : List code.Frame) (i : ℕ) (f : code.Frame) → AreAtPorts free fs →
    i < length fs → (get_or fs i f).port < free
port_frame free [] i f h b = absurd (omega arith)
port_frame free (g ∷ fs) zero f h b = h.0
port_frame free (g ∷ fs) (suc i) f h b = port_frame free fs i f h.1 (omega arith)

pub port_this : (free : ℕ) (fs : List code.Frame) (i : ℕ) (f : code.Frame) → AreAtPorts free fs →
    i < length fs → f ≡ get_or fs i f → f.port < free
port_this free fs i f h b e = subst (λ (g : code.Frame). g.port < free) (sym e) (port_frame free fs i f h b)

-- values that are put later change no frame
pub frames_more : (vs ws : List Level) (fs : List code.Frame) → Extends vs ws →
    AreHeldFrames vs fs → frames_of ws fs ≡ frames_of vs fs
frames_more vs ws [] x h = refl
frames_more vs ws (f ∷ fs) x h =
    ap (λ (ls : List Level). (let g : Frame = record {
      port = f.port;
      levels = ls;
      parent = f.parent;
      lams = f.lams;
    } in g) ∷ frames_of ws fs) (map_more vs ws f.levels x h.0)
    ∙ ap (λ r. frame_of vs f ∷ r) (frames_more vs ws fs x h.1)

pub held_frames_more : (vs ws : List Level) (fs : List code.Frame) → Extends vs ws →
    AreHeldFrames vs fs → AreHeldFrames ws fs
held_frames_more vs ws [] x h = tt
held_frames_more vs ws (f ∷ fs) x h = (held_more vs ws f.levels x h.0, held_frames_more vs ws fs x h.1)

pub count_frames : (vs : List Level) (fs : List code.Frame) → length (frames_of vs fs) ≡ length fs
count_frames vs fs = length-map fs (frame_of vs)
