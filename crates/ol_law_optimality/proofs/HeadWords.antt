-- A labelled head step keeps the words of redexes that walks from the root meet.
use Rattle.std.proofs.Common.{◌≡◌, ℕ, true, false, [], ◌++◌, ◌⊎◌, inl, inr, refl, sym, ap, ◌∙◌, subst}
use Rattle.std.proofs.lemmas.Option.{same_Some}
use Rattle.ol_beta.specs.Beta as beta_steps
use Rattle.ol_law_optimality.specs.Met.{IsMatched, IsMet, blank}
use Rattle.ol_law_optimality.proofs.Meeting.{app_is, lam_is, too_few}
use Rattle.ol_law_optimality.proofs.Lanes.{none_met}
use Rattle.ol_law_optimality.proofs.Sites.{base}
use Rattle.ol_law_meaning.specs.Heads.{os, outer}
use Rattle.ol_law_meaning.specs.Contraction.{Tree, lam, app, Level, empty, Context, Place, root, Spot, at, Edge, Trail}
use Rattle.ol_law_meaning.specs.Contraction.{here, on, back, HeadStep, is_abstraction, subst_for}
use Rattle.ol_law_meaning.specs.Contraction as spots
use Rattle.ol_law_meaning.specs.Steps.{Same, redex_root, before_root}
use Rattle.ol_law_meaning.proofs.LeftmostSteps.{subst_is}
use Rattle.ol_law_meaning.proofs.Walking.{passing, least_or, root_stays}
use Rattle.ol_law_optimality.specs.Labels.{Label, Labelled, none, erased, before, joined, substituted, contracted}
use Rattle.ol_law_optimality.specs.Labels as labels
use Rattle.ol_law_optimality.proofs.Erasing.{labels_erase}
use Rattle.ol_law_meaning.specs.Sites.{Site, spot_in, PartAt, function_at, abstraction_at}
use Rattle.ol_term.specs.declared.translations.Translation.{Translation}
use Rattle.ol_law_optimality.specs.Signs.{signs_of}
use Rattle.ol_law_optimality.specs.Readings.{word_along, word_of, function_label, moved, AreAlike, HeadContracts}
use Rattle.ol_law_optimality.specs.Readings.{at_redex, below_lam, before_argument, HeadStepsKeepWords, WordsAreDegrees}
use Rattle.ol_law_optimality.specs.Readings.{ready, contract}
use Rattle.ol_law_optimality.proofs.Keeping.{Goes, Keeps, follow}
use Rattle.ol_law_optimality.proofs.Motions.{Motion, Walks, moved_append}
use Rattle.ol_law_optimality.proofs.Nested.{lam_keeps, app_keeps}
use Rattle.ol_law_optimality.proofs.Redex.{redex_keeps}

-- a labelled head step as a head step of the tree
pub record Step (τ : Translation) (T : Labelled) (d : Label) (U : Labelled) : Type 1 where
  pub tree : Tree
  pub step : HeadStep (erased T) tree
  pub is : tree ≡ erased U
  pub keeps : Keeps τ (erased T) tree T U (Same τ step) d

erased_redex : (b c : Labelled) (v w : Label) → subst_for 0 (erased c) (erased b) ≡ erased (before (joined w (labels.over v none)) (substituted (before (labels.under v none) c) 0 b))
erased_redex b c v w =
    subst_is (erased b) (erased c) 0
    ∙ sym (same_Some (erased (before (joined w (labels.over v none)) (substituted (before (labels.under v none) c) 0 b))) (beta_steps.substituted (erased c) 0 (erased b)) (labels_erase (labels.app (labels.lam b v) c w) []))

module _ (τ : Translation) where
  root_is_kept : {R R' : Tree} (h : HeadStep R R') → is_abstraction R ≡ false → (v v' : Level) → Same τ h root v v' → v ≡ v'
  root_is_kept spots.beta e v v' redex_root = refl
  root_is_kept (spots.below h) e v v' r = absurd (cc)
  root_is_kept (spots.before f h) e v v' before_root = refl

  root_keeps : {R R' : Tree} (h : HeadStep R R') → is_abstraction R ≡ false → (v : Level) → Same τ h root v v
  root_keeps spots.beta e v = redex_root
  root_keeps (spots.below h) e v = absurd (cc)
  root_keeps (spots.before f h) e v = before_root

  pub step_of : {T U : Labelled} {d : Label} → HeadContracts T d U → Step τ T d U
  step_of (at_redex b c v w) = record { tree = subst_for 0 (erased c) (erased b); step = spots.beta; is = erased_redex b c v w; keeps = redex_keeps τ b c v w }
  step_of (below_lam {t = t} {u = u} {d = d} w h) =
      let k = step_of h in
      record { tree = lam k.tree; step = spots.below k.step; is = ap lam k.is; keeps = lam_keeps (erased t) k.tree t u (Same τ k.step) d w k.keeps }
  step_of (before_argument {f = f} {g = g} {d = d} a w e h) =
      let k = step_of h in
      record {
        tree = app k.tree (erased a);
        step = spots.before e k.step;
        is = ap (λ t. app t (erased a)) k.is;
        keeps = app_keeps (erased f) k.tree f g a (Same τ k.step) d w k.keeps e (root_is_kept k.step e) (root_keeps k.step e);
      }

  -- ---- words

  -- from a redex's function no trail leads on
  stuck : {t : Tree} (T : Labelled) (p : Site) → ((c : Context) (s : Spot) (n : ℕ) → (Edge τ t (spot_in p (base true empty c)) s n → ⊥) × (Edge τ t s (spot_in p (base true empty c)) n → ⊥)) →
      {s z : Spot} {n : ℕ} (u : Trail (Edge τ t) s z n) → s ≡ function_at p empty blank → word_along T u ≡ []
  stuck T p f here e = refl
  stuck {t} T p f (on {s' = s'} {w = w} k u h) e = absurd ((f blank s' w).0 (subst (λ s. Edge τ t s s' w) e k))
  stuck {t} T p f (back {s' = s'} {w = w} k u h) e = absurd ((f blank s' w).1 (subst (λ s. Edge τ t s' s w) e k))

  -- a word after the step
  pub record Kept (T : Labelled) (p : Site) (m : IsMatched τ (erased T) p) (t' : Tree) (U : Labelled) (q : Site) : Type 0 where
    pub matched : IsMatched τ t' q
    pub alike : AreAlike (word_of T p m) (signs_of (function_label U q) ++ word_along U matched.trail)

  module _ {T U : Labelled} {d : Label} {t' : Tree} {S : Place → Level → Level → Type 0} (w : Keeps τ (erased T) t' T U S d) where
    pub matched_goes : (p : Site) (m : IsMatched τ (erased T) p) (g : Goes t' T U w.K p) → Kept T p m t' U g.site
    matched_goes p m g =
        let k = follow w m.trail (g.all empty blank) in
        let c = w.comes m.other blank k.spot (lam m.inner, m.is_other, tt) k.rel in
        let f = app_is g.there.0 g.there.2 in
        let l = lam_is c.there.0 c.there.2 in
        let n : Walks τ t' U (function_at g.site empty blank) (abstraction_at c.site empty blank) k.motion = subst (λ z. Walks τ t' U (function_at g.site empty blank) z k.motion) c.is k.walks in
        record {
          matched = record {
            function = f.0;
            argument = f.1;
            is = subst (λ u. PartAt t' g.site u) f.2 g.there.1;
            other = c.site;
            inner = l.0;
            is_other = subst (λ u. PartAt t' c.site u) l.1 c.there.1;
            weight = n.weight;
            trail = n.trail;
          };
          alike = λ r x.
              let y = moved r (signs_of (function_label T p)) x in
              moved_append r (signs_of (function_label T p)) (word_along T m.trail) x
              ∙ sym (c.alike r (moved r (word_along T m.trail) y)) ∙ sym (k.alike r y)
              ∙ ap (k.motion r) (g.alike empty blank r x)
              ∙ sym (n.reads r (moved r (signs_of (function_label U g.site)) x))
              ∙ sym (moved_append r (signs_of (function_label U g.site)) (word_along U n.trail) x);
        }

    -- of an application that a walk from the root meets
    abbrev Next : (p : Site) (m : IsMatched τ (erased T) p) → Tree → Type 0
    Next p m t = (q : Site) × (k : IsMet τ t q) × AreAlike (word_of T p m) (signs_of (function_label U q) ++ word_along U k.matched.trail)

    met_goes_on : (p : Site) (m : IsMet τ (erased T) p) → S root (os m.lams empty) (os m.lams empty) → (p ≡ w.redex) ⊎ Next p m.matched t'
    met_goes_on p m e =
        let k = follow w m.way (w.start root (os m.lams empty) (os m.lams empty) m.first e) in
        of k.spot k.motion k.walks (w.goes p m.level m.later k.spot (app m.matched.function m.matched.argument, m.matched.is, tt) k.rel)
      where
        of : (z : Spot) (f : Motion) → Walks τ t' U (at root (os m.lams empty) m.first) z f → (p ≡ w.redex) ⊎ ((g : Goes t' T U w.K p) × (z ≡ spot_in g.site (base true m.level m.later))) →
            (p ≡ w.redex) ⊎ ((q : Site) × (k : IsMet τ t' q) × AreAlike (word_of T p m.matched) (signs_of (function_label U q) ++ word_along U k.matched.trail))
        of z f a (inl e) = inl e
        of z f a (inr (g, e)) =
            let j = matched_goes p m.matched g in
            let b : Walks τ t' U (at root (os m.lams empty) m.first) (function_at g.site m.level m.later) f = subst (λ z. Walks τ t' U (at root (os m.lams empty) m.first) z f) e a in
            inr (g.site, record { matched = j.matched; lams = m.lams; first = m.first; level = m.level; later = m.later; steps = b.weight; way = b.trail }, j.alike)

    pub redex_word : (p : Site) (m : IsMatched τ (erased T) p) → p ≡ w.redex → AreAlike (word_of T p m) (signs_of d)
    redex_word p m e r x =
        let s : word_along T m.trail ≡ [] = stuck T w.redex w.dead m.trail (ap (λ p. function_at p empty blank) e) in
        moved_append r (signs_of (function_label T p)) (word_along T m.trail) x
        ∙ ap (λ a. moved r a (moved r (signs_of (function_label T p)) x)) s
        ∙ ap (λ l. moved r (signs_of l) x) (ap (function_label T) e ∙ w.degree)

  head_step : {T U : Labelled} {d : Label} (k : Step τ T d U) (p : Site) (m : IsMet τ (erased T) p) →
      AreAlike (word_of T p m.matched) (signs_of d)
      ⊎ ((q : Site) × (n : IsMet τ (erased U) q) × AreAlike (word_of T p m.matched) (word_of U q n.matched))
  head_step {T} {U} {d} k p m = elim (least_or (outer (erased T)) m.lams) [
    | inl few ↦ absurd (too_few p m.lams m.steps m.first m.later m.level few m.way)
    | inr enough ↦ of (met_goes_on k.keeps p m (root_stays τ k.step m.lams (passing (erased T) m.lams enough)))
  ]
    where
      of : (p ≡ k.keeps.redex) ⊎ ((q : Site) × (n : IsMet τ k.tree q) × AreAlike (word_of T p m.matched) (signs_of (function_label U q) ++ word_along U n.matched.trail)) →
          AreAlike (word_of T p m.matched) (signs_of d) ⊎ ((q : Site) × (n : IsMet τ (erased U) q) × AreAlike (word_of T p m.matched) (word_of U q n.matched))
      of (inl e) = inl (redex_word k.keeps p m.matched e)
      of (inr x) = inr (subst (λ t. (q : Site) × (n : IsMet τ t q) × AreAlike (word_of T p m.matched) (signs_of (function_label U q) ++ word_along U n.matched.trail)) k.is x)

pub head_steps_keep_words : HeadStepsKeepWords
head_steps_keep_words τ T U d h p m = head_step τ (step_of τ h) p m

pub words_are_degrees : WordsAreDegrees
words_are_degrees τ T V ds ready q a j n p m = absurd (none_met n p m)
words_are_degrees τ T V ds (contract {U = U} {d = d} {ds = es} h r) q a j n p m = elim (head_steps_keep_words τ T U d h p m) [
  | inl e ↦ (d, inl refl, e)
  | inr x ↦ (let y = words_are_degrees τ U V es r q a j n x.0 x.1 in (y.0, inr y.1, λ k z. x.2 k z ∙ y.2 k z))
]
