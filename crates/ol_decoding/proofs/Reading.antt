-- A reading part by part.
use Rattle.std.proofs.Common.{◌≡◌, ℕ, zero, suc, ◌+◌, ◌-◌, ◌<◌, ◌≤◌, ◌⊎◌, inl, inr, List, ◌∷◌, [], ◌++◌, length, map}
use Rattle.std.proofs.Common.{Option, Some, None, get_or, refl, sym, ap, ◌∙◌, subst, arith, append_assoc}
use Rattle.std.proofs.lemmas.List.{length_push}
use Rattle.ol_net.specs.Graph.{Graph}
use Rattle.ol_readback.specs.Askers.{Reading, so_far, found, IsOver}
use Rattle.ol_readback.specs.Frames.{Frame, frame_at, frames_of, ParentsFirst}
use Rattle.ol_readback.specs.Heads.{Answer, head, no_head, budget}
use Rattle.ol_readback.specs.ReadTrees.{Subterm, whole_term, framed}
use Rattle.ol_readback.specs.declared.answers.ReadNode.{ReadNode}
use Rattle.ol_readback.specs.declared.answers.ReadNode.TheVariants as node
use Rattle.ol_context.specs.Contexts.{Level}
use Rattle.ol_readback.specs.declared.frames.Frame as listed
use Rattle.ol_readback.proofs.FrameLists.{count_frames, frame_is}
use Rattle.ol_readback.proofs.Forests.{frame_stays, frame_last}
use Rattle.ol_demand.specs.Demands.{next, place_of}
use Rattle.ol_decoding.specs.Parts.{HasDepth, whole, inside, Finds, IsLesser, HaveParts, end, past, below, asks}
use Rattle.ol_decoding.specs.Asking.{IsReadByParts}

-- ---- depths

-- how deep a part is doesn't depend on frames that are added
module _ (F : List Frame) (f : Frame) (h : (i p : ℕ) → i < length F → (frame_at F i).parent ≡ Some p → p < length F) where
  pub stays : (d : ℕ) (o : Option ℕ) → ((p : ℕ) → o ≡ Some p → p < length F) → HasDepth (F ++ f ∷ []) o d →
      HasDepth F o d
  stays zero None b whole = whole
  stays zero (Some p) b x = elim x [ ]
  stays (suc d) None b x = elim x [ ]
  stays (suc d) (Some p) b (inside r) =
      let c = b p refl in
      let e : (frame_at (F ++ f ∷ []) p).parent ≡ (frame_at F p).parent = ap (λ (f : Frame). f.parent) (frame_stays F f p c) in
      inside (stays d (frame_at F p).parent (λ q z. h p q c z)
      (subst (λ (o : Option ℕ). HasDepth (F ++ f ∷ []) o d) e r))

module _ (vs : List Level) (fs : List listed.Frame) (i : ℕ) (f : listed.Frame) (b : i < length fs)
    (e : f ≡ get_or fs i f) where
  pub parent_is : (frame_at (frames_of vs fs) i).parent ≡ f.parent
  parent_is = ap (λ (f : Frame). f.parent) (frame_is vs fs i f b e)

  pub at_root : f.parent ≡ None → HasDepth (frames_of vs fs) (frame_at (frames_of vs fs) i).parent 0
  at_root q = subst (λ (o : Option ℕ). HasDepth (frames_of vs fs) o 0) (sym (parent_is ∙ q)) whole

  pub one_deeper : (p d : ℕ) → f.parent ≡ Some p →
      HasDepth (frames_of vs fs) (frame_at (frames_of vs fs) p).parent d →
      HasDepth (frames_of vs fs) (frame_at (frames_of vs fs) i).parent (suc d)
  one_deeper p d q h = subst (λ (o : Option ℕ). HasDepth (frames_of vs fs) o (suc d)) (sym (parent_is ∙ q)) (inside h)

-- the last frame's number
pub at_front : (vs : List Level) (fs : List listed.Frame) (at : ℕ) (front : List Frame) (t : Subterm) →
    at + 1 ≡ length fs → frames_of vs fs ≡ front ++ framed t 0 ∷ [] → at ≡ length front
at_front vs fs at front t l z =
    let c = count_frames vs fs in
    let p = length_push front (framed t 0) in
    let y = ap (λ (F : List Frame). length F) z in
    omega arith

-- the depth of the part with the last frame
module _ (G : List Frame) (parents : ParentsFirst G) (front : List Frame) (t : Subterm)
    (z : G ≡ front ++ framed t 0 ∷ []) where
  last_parent : (p : ℕ) → t.parent ≡ Some p → p < length front
  last_parent p e = parents (length front) p
      (ap (λ (F : List Frame). (frame_at F (length front)).parent) z
      ∙ ap (λ (f : Frame). f.parent) (frame_last front (framed t 0)) ∙ e)

  earlier_parents : (i p : ℕ) → i < length front → (frame_at front i).parent ≡ Some p → p < length front
  earlier_parents i p b e =
      let c = parents i p (ap (λ (F : List Frame). (frame_at F i).parent) z
      ∙ ap (λ (f : Frame). f.parent) (frame_stays front (framed t 0) i b) ∙ e) in
      omega arith

  pub depth_last : (at d : ℕ) → at ≡ length front → HasDepth G (frame_at G at).parent d → HasDepth front t.parent d
  depth_last at d e h =
      let q : (frame_at G at).parent ≡ t.parent =
      ap (λ (F : List Frame). (frame_at F at).parent) z
      ∙ ap (λ i. (frame_at (front ++ framed t 0 ∷ []) i).parent) e
      ∙ ap (λ (f : Frame). f.parent) (frame_last front (framed t 0)) in
      stays front (framed t 0) earlier_parents d t.parent last_parent
      (subst (λ (F : List Frame). HasDepth F t.parent d) z (subst (λ (o : Option ℕ). HasDepth G o d) q h))

-- ---- one part more

module _ (depth fuel : ℕ) (g : Graph) (all depth' fuel' : ℕ) (g' : Graph) (all' : ℕ) (h : Graph) (all'' heads : ℕ)
    (F : List Frame) (t : Subterm) (ss : List Subterm) (places : List ReadNode)
    (r : IsReadByParts depth fuel g all depth' fuel' g' all' heads (so_far F (t ∷ ss) places)) where
  one_more : (n : ReadNode) (G : List Frame) (ts : List Subterm) →
      ((ns : List ReadNode) → HaveParts depth heads fuel h all'' G ts ns →
      HaveParts depth heads fuel g' all' F (t ∷ ss) (n ∷ ns)) →
      IsReadByParts depth fuel g all depth' fuel' h all'' heads (so_far G ts (places ++ n ∷ []))
  one_more n G ts step = record {
    same_depth = r.same_depth;
    same_fuel = r.same_fuel;
    tree = λ ns y. subst (λ (ms : List ReadNode). HaveParts depth heads fuel g all [] (whole_term ∷ []) ms)
        (sym (append_assoc places (n ∷ []) ns)) (r.tree (n ∷ ns) (step ns y));
  }

  read_on : (a : Answer) → ((ns : List ReadNode) →
      HaveParts depth heads fuel h all'' (next F t ss a).frames (next F t ss a).waiting ns →
      HaveParts depth heads fuel g' all' F (t ∷ ss) (place_of a ∷ ns)) →
      IsReadByParts depth fuel g all depth' fuel' h all'' heads (found places F t ss a)
  read_on (head n v k ls) step = one_more (node.Head n v k) _ _ step
  read_on no_head step = one_more node.NoHead _ _ step
  read_on budget step = one_more node.Cut _ _ step

  module _ (b : length F < heads) (d : ℕ) (deep : HasDepth F t.parent d) where
    pub asked_deep : depth' ≤ d → g' ≡ h → all' ≡ all'' →
        IsReadByParts depth fuel g all depth' fuel' h all'' heads (found places F t ss budget)
    asked_deep l e q = read_on budget (λ ns y. below b deep (let x = r.same_depth in omega arith)
        (subst (λ (g : Graph). HaveParts depth heads fuel g all' (F ++ framed t 0 ∷ []) ss ns) (sym e)
        (subst (λ (n : ℕ). HaveParts depth heads fuel h n (F ++ framed t 0 ∷ []) ss ns) (sym q) y)))

    pub asked_part : (k made : ℕ) (a : Answer) → d < depth' → IsLesser fuel' all' k → Finds F t k 0 g' made a h →
        all'' ≡ all' - made → IsReadByParts depth fuel g all depth' fuel' h all'' heads (found places F t ss a)
    asked_part k made a l m f q = read_on a (λ ns y. asks b deep (let x = r.same_depth in omega arith)
        (subst (λ n. IsLesser n all' k) r.same_fuel m) f
        (subst (λ (n : ℕ). HaveParts depth heads fuel h n (next F t ss a).frames (next F t ss a).waiting ns) q y))

-- the reading is over
pub over : (depth fuel : ℕ) (g : Graph) (all depth' fuel' : ℕ) (g' : Graph) (all' heads : ℕ) (r : Reading)
    (ns : List ReadNode) → IsReadByParts depth fuel g all depth' fuel' g' all' heads r → IsOver heads r ns →
    HaveParts depth heads fuel g all [] (whole_term ∷ []) ns
over depth fuel g all depth' fuel' g' all' heads r ns w o = subst
    (λ (ms : List ReadNode). HaveParts depth heads fuel g all [] (whole_term ∷ []) ms) (sym o.all)
    (w.tree (map (λ (s : Subterm). node.Cut) r.waiting) (go o.over))
  where
    go : (r.waiting ≡ []) ⊎ (heads ≤ length r.frames) →
        HaveParts depth heads fuel g' all' r.frames r.waiting (map (λ (s : Subterm). node.Cut) r.waiting)
    go (inl e) = subst (λ (ss : List Subterm).
        HaveParts depth heads fuel g' all' r.frames ss (map (λ (s : Subterm). node.Cut) ss)) (sym e) end
    go (inr b) = past b
