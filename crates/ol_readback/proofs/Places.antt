-- The next place of a tree.
use Rattle.std.proofs.Common.{◌≡◌, ℕ, zero, suc, ◌<◌, ◌⊎◌, inl, inr, List, [], ◌∷◌, ◌++◌, length}
use Rattle.std.proofs.Common.{get_or, set, Some, None, refl, sym, ap, ◌∙◌, subst, arith}
use Rattle.std.proofs.lemmas.List.{map-append, length_push, get_or_push, get_or_past}
use Rattle.ol_net.specs.Nets as nets
use Rattle.ol_net.specs.Nets.{NamedNet, NamedPort, IsNet}
use Rattle.ol_context.specs.Contexts.{Level, Context}
use Rattle.ol_context.specs.Paths.{Path, ends, goes}
use Rattle.ol_context.specs.Shapes.{AreHeld, Extends}
use Rattle.ol_readback.specs.Frames.{Frame, root, frame_at, frame_of, frames_of, ParentsFirst}
use Rattle.ol_readback.specs.Frames.{AreHeldFrames, AreAtPorts}
use Rattle.ol_readback.specs.Matching.{Matches, here, above, name}
use Rattle.ol_readback.specs.Heads.{head, matched, IsHeadWithin, leaves, answer_of}
use Rattle.ol_readback.specs.ReadTrees.{Subterm, framed, port_of}
use Rattle.ol_readback.specs.Groups.{subterm_of, IsNextFrame}
use Rattle.ol_readback.specs.Reading.{IsFrameList, IsKnown}
use Rattle.ol_readback.specs.declared.answers.HeadVar.{HeadVar}
use Rattle.ol_readback.specs.declared.answers.HeadVar.TheVariants as var
use Rattle.ol_readback.specs.declared.answers.Head.{Head}
use Rattle.ol_readback.specs.declared.frames.Frame as code
use Rattle.ol_readback.proofs.FrameLists.{count_frames, frames_more, held_frames_more}
use Rattle.ol_readback.proofs.Forests.{frame_stays, frame_last, matches_head}

-- the ports of exits
pub path_port : {N : NamedNet ℕ} → IsNet N → {p : NamedPort ℕ} {c : Context} {q : ℕ} {d : Context} →
    Path N p c q d → q < N.free_ports
path_port n {p = p} {q = q} (ends l) = (n.of_ports p (nets.free q) l).1
path_port n (goes l h x r) = path_port n r

pub port_is : {F : List Frame} {q : ℕ} {X : Context} {i l k : ℕ} {v : HeadVar} {ls : List Level} →
    Matches F q X i l v k ls → port_of F v ≡ q
port_is (here e f) = e
port_is (above n e m) = port_is m
port_is (name n e b o) = refl

pub known : {F : List Frame} {q : ℕ} {X : Context} {i l k : ℕ} {v : HeadVar} {ls : List Level} →
    ParentsFirst F → Matches F q X i l v k ls → (n : ℕ) → i < n → IsKnown n v
known h (here e f) n b = b
known h (above {i = i} {p = p} z e m) n b = let c = h i p e in known h m n (omega arith)
known h (name z e b' o) n b = tt

pub head_known : {N : NamedNet ℕ} {F : List Frame} {i e n k : ℕ} {v : HeadVar} {ls : List Level} →
    ParentsFirst F → IsHeadWithin N F i e (head n v k ls) → (count : ℕ) → i < count → IsKnown count v
head_known h x count b = known h (matches_head x).2 count b

pub head_port : {N : NamedNet ℕ} {F : List Frame} {i e n k : ℕ} {v : HeadVar} {ls : List Level} →
    IsNet N → IsHeadWithin N F i e (head n v k ls) → port_of F v < N.free_ports
head_port z (leaves b h w (matched m)) = let c = path_port z w.1.path in let e = port_is m in omega arith

-- one frame more
parent_last : (F : List Frame) (f : Frame) → ParentsFirst F →
    ((p : ℕ) → f.parent ≡ Some p → p < length F) → ParentsFirst (F ++ f ∷ [])
parent_last F f h g i p e = go (cases i (length F))
  where
    cases : (i n : ℕ) → (i < n) ⊎ ((i ≡ n) ⊎ (n < i))
    cases i n = grind arith

    go : (i < length F) ⊎ ((i ≡ length F) ⊎ (length F < i)) → p < i
    go (inl b) = h i p (ap (λ (f : Frame). f.parent) (sym (frame_stays F f i b)) ∙ e)
    go (inr (inl b)) =
        let z = g p (ap (λ (f : Frame). f.parent) (sym (frame_last F f))
        ∙ ap (λ i. (frame_at (F ++ f ∷ []) i).parent) (sym b) ∙ e) in omega arith
    go (inr (inr b)) =
        let l = length_push F f in
        let y : None ≡ Some p = ap (λ (f : Frame). f.parent)
        (sym (get_or_past (F ++ f ∷ []) i root (omega arith))) ∙ e in absurd (cc)

pub frames_push : (vs : List Level) (fs : List code.Frame) (f : code.Frame) →
    frames_of vs (fs ++ f ∷ []) ≡ frames_of vs fs ++ frame_of vs f ∷ []
frames_push vs fs f = map-append (frame_of vs) fs (f ∷ [])

held_last : (vs : List Level) (fs : List code.Frame) (f : code.Frame) → AreHeldFrames vs fs →
    AreHeld vs f.levels → AreHeldFrames vs (fs ++ f ∷ [])
held_last vs [] f h k = (k, tt)
held_last vs (g ∷ fs) f h k = (h.0, held_last vs fs f h.1 k)

ports_last : (free : ℕ) (fs : List code.Frame) (f : code.Frame) → AreAtPorts free fs →
    f.port < free → AreAtPorts free (fs ++ f ∷ [])
ports_last free [] f h k = (k, tt)
ports_last free (g ∷ fs) f h k = (h.0, ports_last free fs f h.1 k)

-- the frame with its abstractions
abbrev pub with_lams : code.Frame → ℕ → code.Frame
with_lams f n = record { port = f.port; levels = f.levels; parent = f.parent; lams = n }

module _ (free : ℕ) (vs : List Level) (fs : List code.Frame) (f : code.Frame)
    (h : IsFrameList free vs fs) (k : IsNextFrame free (length fs) vs f) where
  pub list_push : (n : ℕ) → IsFrameList free vs (fs ++ with_lams f n ∷ [])
  list_push n = record {
    parents = subst ParentsFirst (sym (frames_push vs fs (with_lams f n)))
        (parent_last (frames_of vs fs) (frame_of vs (with_lams f n)) h.parents
        (λ p e. let b = k.parent p e in let l = count_frames vs fs in omega arith));
    held = held_last vs fs (with_lams f n) h.held k.held;
    ports = ports_last free fs (with_lams f n) h.ports k.port;
  }

  pub same_frame : with_lams f 0 ≡ f
  same_frame = ap (with_lams f) (sym k.fresh)

pub list_pushed : (free : ℕ) (vs : List Level) (fs : List code.Frame) (f : code.Frame) →
    IsFrameList free vs fs → IsNextFrame free (length fs) vs f → (gs : List code.Frame) →
    gs ≡ fs ++ f ∷ [] → IsFrameList free vs gs
list_pushed free vs fs f h k gs e =
    subst (λ (gs : List code.Frame). IsFrameList free vs gs) (sym e)
    (subst (λ (f : code.Frame). IsFrameList free vs (fs ++ f ∷ []))
    (same_frame free vs fs f h k) (list_push free vs fs f h k 0))

pub list_more : (free : ℕ) (vs ws : List Level) (fs : List code.Frame) → Extends vs ws →
    IsFrameList free vs fs → IsFrameList free ws fs
list_more free vs ws fs x h = record {
  parents = subst ParentsFirst (sym (frames_more vs ws fs x h.held)) h.parents;
  held = held_frames_more vs ws fs x h.held;
  ports = h.ports;
}

-- a write to the last one
pub set_last : {A : Type 0} (fs : List A) (f g : A) (n : ℕ) → n ≡ length fs → set (fs ++ f ∷ []) n g ≡ fs ++ g ∷ []
set_last [] f g zero e = refl
set_last [] f g (suc n) e = absurd (omega arith)
set_last (x ∷ fs) f g zero e = absurd (omega arith)
set_last (x ∷ fs) f g (suc n) e = ap (λ r. x ∷ r) (set_last fs f g n (omega arith))

pub written : (fs : List code.Frame) (f : code.Frame) (gs : List code.Frame) (r : code.Frame)
    (n i : ℕ) → gs ≡ fs ++ f ∷ [] → i ≡ length fs → r ≡ get_or gs i r →
    set gs i (with_lams r n) ≡ fs ++ with_lams f n ∷ []
written fs f gs r n i e b z =
    let q : r ≡ f = z ∙ ap (λ (gs : List code.Frame). get_or gs i r) e ∙ get_or_push fs f r i (sym b) in
    ap (λ (gs : List code.Frame). set gs i (with_lams r n)) e ∙ set_last fs f (with_lams r n) i b
    ∙ ap (λ (r : code.Frame). fs ++ with_lams r n ∷ []) q

-- what is known of an answer
pub head_is : (N : NamedNet ℕ) (F : List Frame) (i j e : ℕ) (vs : List Level) (a b : Head) →
    IsHeadWithin N F i e (answer_of vs a) → a ≡ b → i ≡ j → IsHeadWithin N F j e (answer_of vs b)
head_is N F i j e vs a b h q z = subst (λ (j : ℕ). IsHeadWithin N F j e (answer_of vs b)) z
    (subst (λ (a : Head). IsHeadWithin N F i e (answer_of vs a)) q h)

-- the port doesn't depend on abstractions
pub port_same : (F : List Frame) (s : Subterm) (m n : ℕ) (v : HeadVar) →
    port_of (F ++ framed s m ∷ []) v ≡ port_of (F ++ framed s n ∷ []) v
port_same F s m n (var.Free q) = refl
port_same F s m n (var.Bound i j) = go F i
  where
    go : (F : List Frame) (i : ℕ) → (frame_at (F ++ framed s m ∷ []) i).port ≡ (frame_at (F ++ framed s n ∷ []) i).port
    go [] zero = refl
    go [] (suc i) = refl
    go (f ∷ F) zero = refl
    go (f ∷ F) (suc i) = go F i

module _ (free : ℕ) (vs ws : List Level) (fs : List code.Frame) (f : code.Frame)
    (h : IsFrameList free vs fs) (k : IsNextFrame free (length fs) vs f) (x : Extends vs ws) where
  -- the frames after it, read from the later holder
  pub frames_after : (n : ℕ) → frames_of ws (fs ++ with_lams f n ∷ []) ≡ frames_of vs fs ++ framed
      (subterm_of vs f) n ∷ []
  frames_after n = frames_more vs ws (fs ++ with_lams f n ∷ []) x
      (list_push free vs fs f h k n).held ∙ frames_push vs fs (with_lams f n)

  pub asked_frames : frames_of vs (fs ++ f ∷ []) ≡ frames_of vs fs ++ framed (subterm_of vs f) 0 ∷ []
  asked_frames = ap (λ f. frames_of vs (fs ++ f ∷ [])) (sym (same_frame free vs fs f h k))
      ∙ frames_push vs fs (with_lams f 0)

  pub after_none : frames_of ws (fs ++ f ∷ []) ≡ frames_of vs fs ++ framed (subterm_of vs f) 0 ∷ []
  after_none = ap (λ f. frames_of ws (fs ++ f ∷ [])) (sym (same_frame free vs fs f h k)) ∙ frames_after 0
