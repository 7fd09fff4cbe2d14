-- From a frame to the frames round it.
use Rattle.std.proofs.Common.{◌≡◌, ℕ, suc, ◌^◌, ◌<◌, List, [], ◌∷◌, ◌++◌, length, map, Option, Some}
use Rattle.std.proofs.Common.{None, sym, ap, ◌∙◌, subst, arith}
use Rattle.std.proofs.lemmas.List.{map-append}
use Rattle.ol_context.specs.Contexts.{Level, star, Context}
use Rattle.ol_context.specs.Shapes.{value}
use Rattle.ol_readback.specs.Frames.{os, Frame, frame_at}
use Rattle.ol_readback.specs.Matching.{Fits, NoFit, Matches, here, above, name}
use Rattle.ol_readback.specs.Fitting.{IsFit, IsFitOf, IsNameOf, IsNamed, nameless}
use Rattle.ol_readback.specs.Fitting as fitting
use Rattle.ol_readback.specs.Heads.{Answer, head, IsMatched, matched, unmatched}
use Rattle.ol_readback.specs.declared.answers.HeadVar.{HeadVar}
use Rattle.ol_readback.specs.declared.answers.HeadVar.TheVariants as var
use Rattle.ol_readback.proofs.Fits.{mark_of}

module _ (frames : List Frame) (q : ℕ) (X : Context) where
  up : {i l p k : ℕ} {v : HeadVar} {ls : List Level} → NoFit (frame_at frames i) l q X →
      (frame_at frames i).parent ≡ Some p → Matches frames q X i l v k ls →
      Matches frames q X p (frame_at frames p).lams v k ls
  up n e (here {j = j} {k = k} {d = d} a f) = absurd (n j k d a f)
  up n e (above {l = l} {p = p'} {k = k} {v = v} {ls = ls} n' e' m) =
      let z : Some p' ≡ Some _ = sym e' ∙ e in
      subst (λ p. Matches frames q X p (frame_at frames p).lams v k ls) (cc) m
  up n e (name n' e' b o) = let z = sym e' ∙ e in absurd (cc)

-- What the exit says against frame i is what it says against frame at.
pub record Climbing (frames : List Frame) (at lams q : ℕ) (X : Context) (i l : ℕ) : Type 0 where
  pub below : i < length frames
  pub few : l < 2 ^ 32
  pub to : (v : HeadVar) (k : ℕ) (ls : List Level) → Matches frames q X i l v k ls → Matches frames q X at lams v k ls
  pub from : (v : HeadVar) (k : ℕ) (ls : List Level) → Matches frames q X at lams v k ls → Matches frames q X i l v k ls

module _ (frames : List Frame) (at lams q : ℕ) (X : Context) where
  pub climb_start : at < length frames → lams < 2 ^ 32 → Climbing frames at lams q X at lams
  climb_start b w = record { below = b; few = w; to = λ v k ls m. m; from = λ v k ls m. m }

  module _ (i l : ℕ) (c : Climbing frames at lams q X i l) where
    pub climb_on : (p : ℕ) → NoFit (frame_at frames i) l q X → (frame_at frames i).parent ≡ Some p →
        p < i → (frame_at frames p).lams < 2 ^ 32 → Climbing frames at lams q X p (frame_at frames p).lams
    climb_on p n e b w = record {
      few = w;
      below = let a = c.below in omega arith;
      to = λ v k ls m. c.to v k ls (above n e m);
      from = λ v k ls m. up frames q X n e (c.from v k ls m);
    }

    pub climb_found : (j k : ℕ) (d : Level) → (frame_at frames i).port ≡ q → Fits (frame_at frames i).levels l X j k d →
        IsMatched frames at lams q X (head lams (var.Bound i (suc j)) k
        ((frame_at frames i).levels ++ os j (star d) ∷ []))
    climb_found j k d e f = matched (c.to (var.Bound i (suc j)) k
        ((frame_at frames i).levels ++ os j (star d) ∷ []) (here e f))

    pub climb_end : (a : Answer) → NoFit (frame_at frames i) l q X →
        (frame_at frames i).parent ≡ None → IsNamed lams q X a → IsMatched frames at lams q X a
    climb_end a n e (fitting.name {v = v} {k = k} b o) = matched (c.to (var.Free q) k (v ∷ []) (name n e b o))
    climb_end a n e (nameless h) = unmatched (λ v k ls m. none (c.from v k ls m))
      where
        none : {v : HeadVar} {k : ℕ} {ls : List Level} → Matches frames q X i l v k ls → ⊥
        none (here {j = j} {k = k} {d = d} a f) = n j k d a f
        none (above n' e' m) = let z = sym e' ∙ e in absurd (cc)
        none (name {k = k} {v = v} n' e' b o) = h v k b o

-- the levels of a match, as numbers
pub levels_found : (vs : List Level) (ns ms : List ℕ) (x j k l : ℕ) (d : Level) (X : Context) →
    Fits (map (value vs) ns) l X j k d → ms ≡ ns ++ x ∷ [] → value vs x ≡ X (length (map (value vs) ns)) →
    map (value vs) ms ≡ map (value vs) ns ++ os j (star d) ∷ []
levels_found vs ns ms x j k l d X f e g = ap (map (value vs)) e ∙ map-append (value vs) ns (x ∷ [])
    ∙ ap (λ v. map (value vs) ns ++ v ∷ []) (g ∙ mark_of (map (value vs) ns) l X j k d f)

pub found_is : (frames : List Frame) (at lams q : ℕ) (X : Context) (i l : ℕ) →
    Climbing frames at lams q X i l → (f : Frame) → frame_at frames i ≡ f → (r : ℕ × ℕ) →
    IsFitOf f l q X (Some r) → (j : ℕ) → j ≡ suc r.0 →
    (ls : List Level) → ((d : Level) → Fits f.levels l X r.0 r.1 d →
    ls ≡ f.levels ++ os r.0 (star d) ∷ []) → IsMatched frames at lams q X (head lams (var.Bound i j) r.1 ls)
found_is frames at lams q X i l c f e r h j z ls g = go
    (subst (λ f. IsFitOf f l q X (Some r)) (sym e) h)
    (subst (λ f. (d : Level) → Fits f.levels l X r.0 r.1 d → ls ≡ f.levels ++ os r.0 (star d) ∷ []) (sym e) g)
  where
    go : IsFitOf (frame_at frames i) l q X (Some r) →
        ((d : Level) → Fits (frame_at frames i).levels l X r.0 r.1 d →
        ls ≡ (frame_at frames i).levels ++ os r.0 (star d) ∷ []) →
        IsMatched frames at lams q X (head lams (var.Bound i j) r.1 ls)
    go h g =
        subst (λ j. IsMatched frames at lams q X (head lams (var.Bound i j) r.1 ls)) (sym z)
        (subst (λ ls. IsMatched frames at lams q X (head lams (var.Bound i (suc r.0)) r.1 ls))
        (sym (g h.1.0 h.1.1)) (climb_found frames at lams q X i l c r.0 r.1 h.1.0 h.0 h.1.1))

pub fit_of : (f : Frame) (l q : ℕ) (X : Context) (r : Option (ℕ × ℕ)) → f.port ≡ q →
    IsFit f.levels l X r → IsFitOf f l q X r
fit_of f l q X None e h = λ j k d a g. h j k d g
fit_of f l q X (Some r) e h = (e, h)

pub named_is : (vs : List Level) (ls : List ℕ) (x n q k : ℕ) (X : Context) → ls ≡ x ∷ [] →
    value vs x ≡ X 0 → IsNameOf q X (Some k) → IsNamed n q X (head n (var.Free q) k (map (value vs) ls))
named_is vs ls x n q k X e g h =
    subst (λ ls. IsNamed n q X (head n (var.Free q) k (map (value vs) ls))) (sym e)
    (subst (λ v. IsNamed n q X (head n (var.Free q) k (v ∷ []))) (sym g) (fitting.name h.0 h.1))
