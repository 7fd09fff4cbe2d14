-- Words of redexes that the root's walks meet, and the degrees of leftmost reduction.
use Rattle.std.proofs.Common.{◌≡◌, ℕ, ◌⊎◌, inl, inr, List, [], ◌∷◌, Some, None, refl, sym, ap, ◌∙◌, subst}
use Rattle.std.proofs.lemmas.Option.{same_Some, none-some}
use Rattle.ol_beta.specs.Leftmost.{leftmost}
use Rattle.ol_law_edges.specs.Edges.{IsIn}
use Rattle.ol_law_optimality.specs.Met.{IsMet}
use Rattle.ol_law_optimality.proofs.Lanes.{none_met}
use Rattle.ol_law_meaning.specs.Heads.{Normal}
use Rattle.ol_law_meaning.specs.Contraction.{Tree, Level, Place, HeadStep, beta, below, before}
use Rattle.ol_law_meaning.proofs.LeftmostSteps.{leftmost_step}
use Rattle.ol_law_meaning.proofs.Walking.{normal_or_step}
use Rattle.ol_law_optimality.specs.Labels.{Label, Labelled, erased, degree, contracted, LeftmostContracts}
use Rattle.ol_law_optimality.specs.Labels as labels
use Rattle.ol_law_meaning.specs.Sites.{Site}
use Rattle.ol_term.specs.declared.translations.Translation.{Translation}
use Rattle.ol_law_optimality.specs.Signs.{signs_of}
use Rattle.ol_law_optimality.specs.Readings.{AreAlike, word_of, HeadContracts, at_redex, below_lam, before_argument}
use Rattle.ol_law_optimality.specs.Readings.{WordsAreLeftmostDegrees}
use Rattle.ol_law_optimality.proofs.HeadWords.{head_steps_keep_words}
use Rattle.ol_law_optimality.proofs.Leading.{head_is_leftmost}

-- a head step with the labels of the term
pub labelled_step : (T : Labelled) {t' : Tree} → HeadStep (erased T) t' → (U : Labelled) × (d : Label) × HeadContracts T d U
labelled_step (labels.var y w) h = elim h [ ]
labelled_step (labels.free f w) h = elim h [ ]
labelled_step (labels.lam b w) (below h) = let r = labelled_step b h in (labels.lam r.0 w, r.1, below_lam w r.2)
labelled_step (labels.app (labels.lam b v) a w) beta = (_, v, at_redex b a v w)
labelled_step (labels.app (labels.lam b v) a w) (before e h) = absurd (cc)
labelled_step (labels.app (labels.var y v) a w) (before e h) = elim h [ ]
labelled_step (labels.app (labels.free f v) a w) (before e h) = elim h [ ]
labelled_step (labels.app (labels.app f c v) a w) (before e h) =
    let r = labelled_step (labels.app f c v) h in (labels.app r.0 a w, r.1, before_argument a w e r.2)

-- the leftmost step is this head step
pub record OneStep (T U : Labelled) (w : Label) (V : Labelled) (d : Label) : Type 0 where
  pub term : V ≡ U
  pub degrees : d ≡ w

pub one_step : (T U V : Labelled) (w d : Label) (at : List ℕ) → leftmost (erased T) ≡ Some at → degree T at ≡ Some w → contracted T at ≡ Some U → HeadContracts T d V → OneStep T U w V d
one_step T U V w d at e f g h =
    let l = head_is_leftmost T V d h in
    let a : at ≡ l.0 = same_Some at l.0 (sym e ∙ l.1) in
    record {
      term = same_Some _ _ (sym l.3 ∙ ap (contracted T) (sym a) ∙ g);
      degrees = same_Some _ _ (sym l.2 ∙ ap (degree T) (sym a) ∙ f);
    }

module _ (τ : Translation) where
  pub leftwards : (T v : Labelled) (ws : List Label) → LeftmostContracts T ws v → leftmost (erased v) ≡ None → (p : Site) (m : IsMet τ (erased T) p) →
      (w : Label) × IsIn w ws × AreAlike (word_of T p m.matched) (signs_of w)
  leftwards T v ws labels.ready z p m = by (normal_or_step (erased T))
    where
      by : ((q : Place) × (a : Level) × (j : ℕ) × Normal (erased T) q a j) ⊎ ((t' : Tree) × HeadStep (erased T) t') → (w : Label) × IsIn w [] × AreAlike (word_of T p m.matched) (signs_of w)
      by (inl n) = absurd (none_met n.3 p m)
      by (inr h) = let l = leftmost_step h.1 in absurd (none-some _ (sym z ∙ l.1))
  leftwards T v ws (labels.contract {u = U} {w = w} {ws = us} at e f g r) z p m =
      by (normal_or_step (erased T)) (λ q n. leftwards U v us r z q n)
    where
      by : ((q : Place) × (a : Level) × (j : ℕ) × Normal (erased T) q a j) ⊎ ((t' : Tree) × HeadStep (erased T) t') →
          ((q : Site) (n : IsMet τ (erased U) q) → (w : Label) × IsIn w us × AreAlike (word_of U q n.matched) (signs_of w)) →
          (d : Label) × IsIn d (w ∷ us) × AreAlike (word_of T p m.matched) (signs_of d)
      by (inl n) rest = absurd (none_met n.3 p m)
      by (inr h) rest = of k.0 k.1 (one_step T U k.0 w k.1 at e f g k.2) (head_steps_keep_words τ T k.0 k.1 k.2 p m)
        where
          k : (V : Labelled) × (d : Label) × HeadContracts T d V
          k = labelled_step T h.1

          of : (V : Labelled) (d : Label) → OneStep T U w V d →
              AreAlike (word_of T p m.matched) (signs_of d) ⊎ ((q : Site) × (n : IsMet τ (erased V) q) × AreAlike (word_of T p m.matched) (word_of V q n.matched)) →
              (d : Label) × IsIn d (w ∷ us) × AreAlike (word_of T p m.matched) (signs_of d)
          of V d o (inl a) = (w, inl refl, subst (λ d. AreAlike (word_of T p m.matched) (signs_of d)) o.degrees a)
          of V d o (inr x) =
              let y = subst (λ V. (q : Site) × (n : IsMet τ (erased V) q) × AreAlike (word_of T p m.matched) (word_of V q n.matched)) o.term x in
              let b = rest y.0 y.1 in
              (b.0, inr b.1, λ r c. y.2 r c ∙ b.2 r c)

pub words_are_leftmost_degrees : WordsAreLeftmostDegrees
words_are_leftmost_degrees τ T v ws r z p m = leftwards τ T v ws r z p m
