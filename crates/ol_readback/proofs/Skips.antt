-- Passing over frames that bind nothing.
use Rattle.std.proofs.Common.{◌≡◌, ℕ, zero, suc, ◌^◌, ◌<◌, ◌⊎◌, inl, inr, List, [], ◌∷◌, ◌++◌, length, slice_get}
use Rattle.std.proofs.Common.{Option, Some, None, refl, sym, ap, ◌∙◌, subst, arith}
use Rattle.ol_context.specs.Contexts.{Level, Context}
use Rattle.ol_readback.specs.Frames.{Frame, frame_at, frame_of, frames_of, ParentsFirst}
use Rattle.ol_readback.specs.Matching.{NoFit}
use Rattle.ol_readback.specs.Fitting.{IsNamed}
use Rattle.ol_readback.specs.Heads.{Answer, IsMatched}
use Rattle.ol_readback.specs.Skipping.{SkipsTo, stays, over, AreSkips, AreSkipsOf, SkipsFrom, HaveSkip, AreParentsFirst}
use Rattle.ol_readback.specs.declared.frames.Frame as code
use Rattle.ol_readback.proofs.Climbing.{Climbing, climb_on, climb_end}
use Rattle.ol_readback.proofs.Forests.{frame_stays, frame_last}
use Rattle.ol_readback.proofs.FrameLists.{count_frames}
use Rattle.ol_readback.proofs.Places.{frames_push, with_lams}

-- a frame to which one skips stands before
pub skip_below : (F : List Frame) → ParentsFirst F → (m : ℕ) {p r : Option ℕ} → SkipsTo F p r →
    ((q : ℕ) → p ≡ Some q → q < m) → (n : ℕ) → r ≡ Some n → n < m
skip_below F h m stays b n e = b n e
skip_below F h m (over {p = p} z s) b n e = let c = b p refl in
    skip_below F h m s (λ q y. let d = h p q y in omega arith) n e

module _ (F : List Frame) (at lams q : ℕ) (X : Context) (h : ParentsFirst F) where
  -- where one has skipped to
  abbrev pub Arrived : Option ℕ → Type 0
  Arrived None = (a : Answer) → IsNamed lams q X a → IsMatched F at lams q X a
  Arrived (Some n) = Climbing F at lams q X n (frame_at F n).lams

  pub climb_to : (i l : ℕ) → Climbing F at lams q X i l → NoFit (frame_at F i) l q X →
      {p r : Option ℕ} → SkipsTo F p r → (frame_at F i).parent ≡ p →
      ((n : ℕ) → r ≡ Some n → (frame_at F n).lams < 2 ^ 32) → Arrived r
  climb_to i l c n (stays {p = None}) e w = λ a m. climb_end F at lams q X i l c a n e m
  climb_to i l c n (stays {p = Some p}) e w = climb_on F at lams q X i l c p n e (h i p e) (w p refl)
  climb_to i l c n (over {p = p} z s) e w =
      let c' = climb_on F at lams q X i l c p n e (h i p e) (omega arith) in
      climb_to p (frame_at F p).lams c' (λ j k d a f. let b = f.below in absurd (omega arith)) s refl w

pub few_at : (F : List Frame) (r : Option ℕ) (m : ℕ) → r ≡ Some m → (frame_at F m).lams < 2 ^ 32 →
    (n : ℕ) → r ≡ Some n → (frame_at F n).lams < 2 ^ 32
few_at F r m e b n z = let y : Some m ≡ Some n = sym e ∙ z in let x : m ≡ n = cc in
    subst (λ (n : ℕ). (frame_at F n).lams < 2 ^ 32) x b

pub none_few : (F : List Frame) (r : Option ℕ) → r ≡ None → (n : ℕ) → r ≡ Some n → (frame_at F n).lams < 2 ^ 32
none_few F r e n z = let y : None ≡ Some n = sym e ∙ z in absurd (cc)

-- the parents don't depend on the levels
parent_same : (us vs : List Level) (fs : List code.Frame) (i : ℕ) →
    (frame_at (frames_of us fs) i).parent ≡ (frame_at (frames_of vs fs) i).parent
parent_same us vs [] i = refl
parent_same us vs (f ∷ fs) zero = refl
parent_same us vs (f ∷ fs) (suc i) = parent_same us vs fs i

pub parents_any : (vs : List Level) (fs : List code.Frame) → ParentsFirst (frames_of vs fs) → AreParentsFirst fs
parents_any vs fs h us i p e = h i p (parent_same vs us fs i ∙ e)

pub no_skips : (fs : List code.Frame) (skips : List (Option ℕ)) → skips ≡ [] → AreSkipsOf fs skips
no_skips fs skips e vs i r z =
    let y : slice_get [] i ≡ Some r = subst (λ (skips : List (Option ℕ)). slice_get skips i ≡ Some r) e z in
    let x : None ≡ Some r = y in absurd (cc)

-- a frame that is added changes nothing before it
skip_stays : (F : List Frame) (f : Frame) → ParentsFirst F → {p r : Option ℕ} → SkipsTo F p r →
    ((q : ℕ) → p ≡ Some q → q < length F) → SkipsTo (F ++ f ∷ []) p r
skip_stays F f h stays b = stays
skip_stays F f h (over {p = p} {r = r} z s) b =
    let c = b p refl in
    let e = frame_stays F f p c in
    over (ap (λ (f : Frame). f.lams) e ∙ z)
    (subst (λ (o : Option ℕ). SkipsTo (F ++ f ∷ []) o r) (ap (λ (f : Frame). f.parent) (sym e))
    (skip_stays F f h s (λ q y. let d = h p q y in omega arith)))

entry : (skips : List (Option ℕ)) (s : Option ℕ) (i : ℕ) (r : Option ℕ) →
    slice_get (skips ++ s ∷ []) i ≡ Some r →
    ((i < length skips) × (slice_get skips i ≡ Some r)) ⊎ ((i ≡ length skips) × (r ≡ s))
entry [] s zero r e = let y : Some s ≡ Some r = e in inr (refl, cc)
entry [] s (suc i) r e = let y : None ≡ Some r = e in absurd (cc)
entry (t ∷ skips) s zero r e = inl (omega arith, e)
entry (t ∷ skips) s (suc i) r e = later (entry skips s i r e)
  where
    later : ((i < length skips) × (slice_get skips i ≡ Some r)) ⊎ ((i ≡ length skips) × (r ≡ s)) →
        ((suc i < suc (length skips)) × (slice_get skips i ≡ Some r)) ⊎ ((suc i ≡ suc (length skips)) × (r ≡ s))
    later (inl x) = inl (omega (arith, x.0), x.1)
    later (inr x) = inr (ap suc x.0, x.1)

skips_push : (F : List Frame) (f : Frame) (skips : List (Option ℕ)) (s : Option ℕ) →
    ParentsFirst F → ((p : ℕ) → f.parent ≡ Some p → p < length F) → length skips ≡ length F →
    AreSkips F skips → SkipsTo F f.parent s → AreSkips (F ++ f ∷ []) (skips ++ s ∷ [])
skips_push F f skips s h b l a k i r e = by (entry skips s i r e)
  where
    by : ((i < length skips) × (slice_get skips i ≡ Some r)) ⊎ ((i ≡ length skips) × (r ≡ s)) →
        SkipsTo (F ++ f ∷ []) (frame_at (F ++ f ∷ []) i).parent r
    by (inl x) =
        let c : i < length F = omega (arith, x.0) in
        subst (λ (o : Option ℕ). SkipsTo (F ++ f ∷ []) o r)
        (ap (λ (f : Frame). f.parent) (sym (frame_stays F f i c)))
        (skip_stays F f h (a i r x.1) (λ q y. let d = h i q y in omega arith))
    by (inr x) =
        let c : i ≡ length F = x.0 ∙ l in
        subst (λ (o : Option ℕ). SkipsTo (F ++ f ∷ []) o r)
        (ap (λ (f : Frame). f.parent) (sym (frame_last F f)) ∙ ap (λ i. (frame_at (F ++ f ∷ []) i).parent) (sym c))
        (subst (λ (r : Option ℕ). SkipsTo (F ++ f ∷ []) f.parent r) (sym x.1) (skip_stays F f h k b))

pub have_skip : (fs : List code.Frame) (f : code.Frame) (skips new : List (Option ℕ))
    (s : Option ℕ) → AreParentsFirst fs → ((p : ℕ) → f.parent ≡ Some p → p < length fs) →
    length skips ≡ length fs → AreSkipsOf fs skips → SkipsFrom fs f.parent s → new ≡ skips ++ s ∷ [] → HaveSkip fs f new
have_skip fs f skips new s h b l a k e n vs =
    subst (λ (new : List (Option ℕ)). AreSkips (frames_of vs (fs ++ with_lams f n ∷ [])) new) (sym e)
    (subst (λ (F : List Frame). AreSkips F (skips ++ s ∷ [])) (sym (frames_push vs fs (with_lams f n)))
    (skips_push (frames_of vs fs) (frame_of vs (with_lams f n)) skips s (h vs)
    (λ p y. let c = b p y in let d = count_frames vs fs in omega arith)
    (l ∙ sym (count_frames vs fs)) (a vs) (k vs)))
