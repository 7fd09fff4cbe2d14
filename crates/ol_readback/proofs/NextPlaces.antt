-- The next place, and what is left to be read after it, whoever asks the frames.
use Rattle.std.proofs.Common.{◌≡◌, ℕ, ◌<◌, List, [], ◌∷◌, ◌++◌, length, map, Option, Some, None}
use Rattle.std.proofs.Common.{sym, ap, ◌∙◌, subst, arith}
use Rattle.ol_context.specs.Contexts.{Level}
use Rattle.ol_context.specs.Shapes.{value, Extends}
use Rattle.ol_readback.specs.Askers.{Reading, so_far, IsAnswered, IsStopped}
use Rattle.ol_readback.specs.Frames.{Frame, frames_of}
use Rattle.ol_readback.specs.Groups.{subterm_of, subterms_in, IsNextFrame, IsGroupOf}
use Rattle.ol_readback.specs.NextPlaces.{IsReadNext, StopsNext}
use Rattle.ol_readback.specs.ReadTrees.{Subterm, framed, port_of, arguments}
use Rattle.ol_readback.specs.Reading.{IsFrameList}
use Rattle.ol_readback.specs.declared.answers.HeadVar.{HeadVar}
use Rattle.ol_readback.specs.declared.answers.Head.{Head}
use Rattle.ol_readback.specs.declared.answers.Head.TheVariants as code
use Rattle.ol_readback.specs.declared.answers.ReadNode.TheVariants as node
use Rattle.ol_readback.specs.declared.frames.Frame as frame
use Rattle.ol_readback.specs.declared.groups.Group.{Group}
use Rattle.ol_readback.proofs.FrameLists.{count_frames}
use Rattle.ol_readback.proofs.Places.{port_same, frames_after, asked_frames, after_none, with_lams}

module _ {S N : Type 0} (reads : S → N → S → N → ℕ → Reading → Type 0)
    (ends stops : S → N → S → N → ℕ → Type 0) (s : S) (n : N) (s' : S) (n' : N) (free : ℕ)
    (vs us : List Level) (fs : List frame.Frame) (f : frame.Frame)
    (h : IsFrameList free vs fs) (k : IsNextFrame free (length fs) vs f) (x : Extends vs us)
    (gs : List frame.Frame) (e : gs ≡ fs ++ f ∷ []) where
  is_last : frames_of vs gs ≡ frames_of vs fs ++ framed (subterm_of vs f) 0 ∷ []
  is_last = ap (frames_of vs) e ∙ asked_frames free vs us fs f h k x

  below_here : (heads : ℕ) → length fs < heads → length (frames_of vs fs) < heads
  below_here heads b = let c = count_frames vs fs in omega arith

  pub read_stopped : IsStopped reads stops s n s' n' (frames_of vs gs) → StopsNext reads stops s n s' n' vs fs f
  read_stopped a s0 n0 heads places ss b u = a s0 n0 heads places (frames_of vs fs)
      (subterm_of vs f) ss is_last (below_here heads b) u

  pub read_ended : (o : Option Head) → IsAnswered reads ends s n s' n' (frames_of vs gs) us o →
      o ≡ None → IsReadNext reads ends s n s' n' vs us fs f gs None
  read_ended o a q s0 n0 heads places ss b u =
      (subst (IsAnswered reads ends s n s' n' (frames_of vs gs) us) q a) s0 n0 heads places
      (frames_of vs fs) (subterm_of vs f) ss is_last (below_here heads b) u

  module _ (o : Option Head) (i : Head) (a : IsAnswered reads ends s n s' n' (frames_of vs gs) us o)
      (q : o ≡ Some i) where
    answered : IsAnswered reads ends s n s' n' (frames_of vs gs) us (Some i)
    answered = subst (IsAnswered reads ends s n s' n' (frames_of vs gs) us) q a

    pub read_stopped_after : ((s : S) (n : N) (s' : S) (n' : N) (heads : ℕ) (r : Reading) →
        reads s n s' n' heads r → stops s n s' n' heads) → StopsNext reads stops s n s' n' vs fs f
    read_stopped_after law s0 n0 heads places ss b u = law s0 n0 s' n' heads _
        (answered s0 n0 heads places (frames_of vs fs) (subterm_of vs f) ss is_last (below_here heads b) u)

    as_found : (j : Head) → i ≡ j → IsAnswered reads ends s n s' n' (frames_of vs gs) us (Some j)
    as_found j z = subst (λ (i : Head). IsAnswered reads ends s n s' n' (frames_of vs gs) us (Some i)) z answered

    pub read_none : i ≡ code.NoHead → IsReadNext reads ends s n s' n' vs us fs f gs (Some (node.NoHead, None))
    read_none z s0 n0 heads places ss b u =
        let t = as_found code.NoHead z s0 n0 heads places (frames_of vs fs)
        (subterm_of vs f) ss is_last (below_here heads b) u in
        subst (λ (F : List Frame). reads s0 n0 s' n' heads
        (so_far F ss (places ++ node.NoHead ∷ []))) (sym (ap (frames_of us) e ∙ after_none free vs us fs f h k x)) t

    pub read_cut : i ≡ code.Budget → IsReadNext reads ends s n s' n' vs us fs f gs (Some (node.Cut, None))
    read_cut z s0 n0 heads places ss b u =
        let t = as_found code.Budget z s0 n0 heads places (frames_of vs fs)
        (subterm_of vs f) ss is_last (below_here heads b) u in
        subst (λ (F : List Frame). reads s0 n0 s' n' heads (so_far F ss (places ++ node.Cut ∷ [])))
        (sym (ap (frames_of us) e ∙ after_none free vs us fs f h k x)) t

    module _ (ws : List Level) (y : Extends vs ws) (hs : List frame.Frame) (l p args : ℕ)
        (v : HeadVar) (at : List ℕ) (group : Option Group) (z : hs ≡ fs ++ with_lams f l ∷ [])
        (exit : (us : List Level) → p ≡ port_of (frames_of us gs) v)
        (r : IsGroupOf us ws (length fs) p args at group) where
      port_now : p ≡ port_of (frames_of vs fs ++ framed (subterm_of vs f) l ∷ []) v
      port_now = exit vs ∙ ap (λ (F : List Frame). port_of F v) is_last
          ∙ port_same (frames_of vs fs) (subterm_of vs f) 0 l v

      arguments_are : subterms_in ws group ≡ arguments (length (frames_of vs fs))
          (port_of (frames_of vs fs ++ framed (subterm_of vs f) l ∷ []) v) (map (value us) at) 0 args
      arguments_are =
          r.is ∙ ap (λ q. arguments (length fs) q (map (value us) at) 0 args) port_now
          ∙ ap (λ i. arguments i (port_of (frames_of vs fs ++ framed (subterm_of vs f) l ∷ []) v)
          (map (value us) at) 0 args) (sym (count_frames vs fs))

      pub read_found : i ≡ code.Is l v args at →
          IsReadNext reads ends s n s' n' vs ws fs f hs (Some (node.Head l v args, group))
      read_found j s0 n0 heads places ss b u =
          let t = as_found (code.Is l v args at) j s0 n0 heads places (frames_of vs fs)
          (subterm_of vs f) ss is_last (below_here heads b) u in
          subst (λ (F : List Frame). reads s0 n0 s' n' heads
          (so_far F (subterms_in ws group ++ ss) (places ++ node.Head l v args ∷ [])))
          (sym (ap (frames_of ws) z ∙ frames_after free vs ws fs f h k y l))
          (subst (λ (ts : List Subterm). reads s0 n0 s' n' heads
          (so_far (frames_of vs fs ++ framed (subterm_of vs f) l ∷ []) (ts ++ ss)
          (places ++ node.Head l v args ∷ []))) (sym arguments_are) t)
