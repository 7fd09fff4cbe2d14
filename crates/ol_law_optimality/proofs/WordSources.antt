-- Each redex that the root's walks meet after a labelled head step comes from one before it, with an alike word.
use Rattle.std.proofs.Common.{◌≡◌, ◌+◌, true, false, ◌++◌, ◌⊎◌, inl, inr, refl, sym, ap, ◌∙◌, subst, arith}
use Rattle.ol_law_optimality.specs.Met.{IsMatched, IsMet, blank}
use Rattle.ol_law_optimality.proofs.Meeting.{app_is, lam_is, too_few}
use Rattle.ol_law_optimality.proofs.Sites.{base, one_site}
use Rattle.ol_law_meaning.specs.Heads.{os, outer}
use Rattle.ol_law_meaning.specs.Contraction.{Tree, lam, app, empty, root, at}
use Rattle.ol_law_meaning.specs.Steps.{Same}
use Rattle.ol_law_meaning.proofs.Walking.{passing, least_or, root_stays, outer_grows}
use Rattle.ol_law_optimality.specs.Labels.{Label, Labelled, erased}
use Rattle.ol_law_meaning.specs.Sites.{Site, spot_in, PartAt, function_at}
use Rattle.ol_law_meaning.proofs.Trails.{tr_trans}
use Rattle.ol_term.specs.declared.translations.Translation.{Translation}
use Rattle.ol_law_optimality.specs.Signs.{Signs, signs_of}
use Rattle.ol_law_optimality.specs.Readings.{word_along, word_of, function_label, moved, AreAlike, ready, contract}
use Rattle.ol_law_optimality.specs.Readings.{DegreesAreWords}
use Rattle.ol_law_optimality.proofs.HeadWords.{Step, step_of, matched_goes}
use Rattle.ol_law_optimality.proofs.Keeping.{Goes, undo}
use Rattle.ol_law_optimality.proofs.Leading.{degrees_are_met}
use Rattle.ol_law_optimality.proofs.Sides.{tree_word}

module _ (τ : Translation) where
  abbrev labelled : (t : Tree) (U : Labelled) (q : Site) → IsMatched τ t q → Signs
  labelled t U q n = signs_of (function_label U q) ++ word_along U n.trail

  same_word : (t : Tree) (U : Labelled) (q q' : Site) → q ≡ q' → (y : IsMatched τ t q') (x : IsMatched τ t q) → AreAlike (labelled t U q' y) (labelled t U q x)
  same_word t U q q' e = subst (λ q'. (y : IsMatched τ t q') (x : IsMatched τ t q) → AreAlike (labelled t U q' y) (labelled t U q x)) e (λ y x. tree_word τ t U q y x)

  module _ {T U : Labelled} {d : Label} (k : Step τ T d U) (q : Site) (n : IsMet τ k.tree q) where
    source_enough : Same τ k.step root (os n.lams empty) (os n.lams empty) → (p : Site) × (m : IsMet τ (erased T) p) × AreAlike (word_of T p m.matched) (labelled k.tree U q n.matched)
    source_enough e =
        let w = k.keeps in
        let u = undo w n.way (at root (os n.lams empty) n.first) (w.start root (os n.lams empty) (os n.lams empty) n.first e) in
        let a = w.backs.source true q n.level n.later u.spot (λ f. absurd (cc)) (app n.matched.function n.matched.argument, n.matched.is, tt) u.rel in
        let v = undo w n.matched.trail (function_at a.site empty blank) (a.all empty blank (λ f. refl)) in
        let b = w.backs.source false n.matched.other empty blank v.spot (λ f. refl) (lam n.matched.inner, n.matched.is_other, tt) v.rel in
        let f = app_is a.there.0 a.there.2 in
        let l = lam_is b.there.0 b.there.2 in
        let m : IsMatched τ (erased T) a.site = record {
          function = f.0;
          argument = f.1;
          is = subst (λ u. PartAt (erased T) a.site u) f.2 a.there.1;
          other = b.site;
          inner = l.0;
          is_other = subst (λ u. PartAt (erased T) b.site u) l.1 b.there.1;
          weight = v.weight + b.weight;
          trail = tr_trans v.trail b.trail refl;
        } in
        let x : IsMet τ (erased T) a.site = record {
          matched = m;
          lams = n.lams;
          first = n.first;
          level = n.level;
          later = n.later;
          steps = u.weight + a.weight;
          way = tr_trans u.trail a.trail refl;
        } in (
          a.site,
          x,
          by a.site m (a.all empty blank (λ f. refl)) (w.goes a.site empty blank (function_at q empty blank) a.there (a.all empty blank (λ f. refl))),
        )
      where
        by : (p : Site) (m : IsMatched τ (erased T) p) → k.keeps.K.R (spot_in p (base true empty blank)) (function_at q empty blank) →
            (p ≡ k.keeps.redex) ⊎ ((g : Goes k.tree T U k.keeps.K p) × (function_at q empty blank ≡ spot_in g.site (base true empty blank))) →
            AreAlike (word_of T p m) (labelled k.tree U q n.matched)
        by p m c (inl e) = absurd (k.keeps.gone blank (function_at q empty blank) (subst (λ p. k.keeps.K.R (spot_in p (base true empty blank)) (function_at q empty blank)) e c))
        by p m c (inr (g, e)) =
            let a = matched_goes τ k.keeps p m g in
            λ r x. a.alike r x ∙ same_word k.tree U q g.site (one_site q g.site empty empty blank blank e) a.matched n.matched r x

    pub source : (p : Site) × (m : IsMet τ (erased T) p) × AreAlike (word_of T p m.matched) (labelled k.tree U q n.matched)
    source = elim (least_or (outer (erased T)) n.lams) [
      | inl few ↦ absurd (let g = outer_grows k.step in too_few q n.lams n.steps n.first n.later n.level (omega arith) n.way)
      | inr enough ↦ source_enough (root_stays τ k.step n.lams (passing (erased T) n.lams enough))
    ]

pub degrees_are_words : DegreesAreWords
degrees_are_words τ T V ds ready d i = absurd i
degrees_are_words τ T V ds (contract {U = U} {d = c} {ds = es} h r) d i = elim i [
  | inl e ↦ (
      let x = degrees_are_met τ T U c h in
      (x.0, x.1, λ k y. ap (λ a. moved k a y) (x.2 ∙ ap signs_of (sym e))))
  | inr i ↦ (
      let x = degrees_are_words τ U V es r d i in
      let k = step_of τ h in
      let y = subst (λ t. (n : IsMet τ t x.0) × AreAlike (signs_of (function_label U x.0) ++ word_along U n.matched.trail) (signs_of d)) (sym k.is) (x.1, x.2) in
      let z = source τ k x.0 y.0 in
      (z.0, z.1, λ r c. z.2 r c ∙ y.1 r c))
]
