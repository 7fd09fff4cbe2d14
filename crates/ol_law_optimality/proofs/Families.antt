-- Redexes with different words are no more than the degrees that head reduction contracts.
use Rattle.std.proofs.Common.{◌≡◌, suc, inl, inr, List, [], ◌∷◌, length, refl, sym, ap, ◌∙◌, subst}
use Rattle.ol_law_edges.specs.Edges.{IsIn}
use Rattle.ol_law_optimality.specs.Met.{IsMet}
use Rattle.ol_law_optimality.specs.Labels.{Label, Labelled, erased}
use Rattle.ol_law_meaning.specs.Sites.{Site}
use Rattle.ol_term.specs.declared.translations.Translation.{Translation}
use Rattle.ol_law_optimality.specs.Signs.{signs_of}
use Rattle.ol_law_optimality.specs.Readings.{AreAlike, Met, word_met, HaveDifferentWords, AreDifferent}
use Rattle.ol_law_optimality.specs.Readings.{NoMoreThanFamilies, NoMoreThanLeftmostFamilies, word_of}
use Rattle.ol_law_optimality.proofs.HeadWords.{words_are_degrees}
use Rattle.ol_law_optimality.proofs.Leftwards.{words_are_leftmost_degrees}

module _ (τ : Translation) (T : Labelled) (ds : List Label) (each : (p : Site) (m : IsMet τ (erased T) p) → (d : Label) × IsIn d ds × AreAlike (word_of T p m.matched) (signs_of d)) where
  -- degrees of these, each with its application
  record Chosen (ps : List (Met τ T)) : Type 0 where
    families : List Label
    different : AreDifferent families
    contracted : (d : Label) → IsIn d families → IsIn d ds
    of : (d : Label) → IsIn d families → (y : Met τ T) × IsIn y ps × AreAlike (word_met T y) (signs_of d)
    count : length families ≡ length ps

  chosen : (ps : List (Met τ T)) → HaveDifferentWords T ps → Chosen ps
  chosen [] d = record { families = []; different = tt; contracted = λ d i. absurd i; of = λ d i. absurd i; count = refl }
  chosen (x ∷ ps) d =
      let r = chosen ps d.1 in
      let k = each x.0 x.1 in
      record {
        families = k.0 ∷ r.families;
        different = (
          (λ i. (let y = r.of k.0 i in d.0 y.0 y.1 (λ r x. k.2 r x ∙ sym (y.2 r x)))),
          r.different,
        );
        contracted = λ e i. elim i [ inl f ↦ subst (λ e. IsIn e ds) (sym f) k.1 | inr i ↦ r.contracted e i ];
        of = λ e i. elim i [
          | inl f ↦ (x, inl refl, subst (λ e. AreAlike (word_met T x) (signs_of e)) (sym f) k.2)
          | inr i ↦ (let y = r.of e i in (y.0, inr y.1, y.2))
        ];
        count = ap suc r.count;
      }

pub no_more_than_families : NoMoreThanFamilies
no_more_than_families τ T V ds h q a j n ps d =
    let r = chosen τ T ds (λ p m. words_are_degrees τ T V ds h q a j n p m) ps d in (r.families, r.different, r.contracted, r.count)

pub no_more_than_leftmost_families : NoMoreThanLeftmostFamilies
no_more_than_leftmost_families τ T v ws h z ps d =
    let r = chosen τ T ws (λ p m. words_are_leftmost_degrees τ T v ws h z p m) ps d in (r.families, r.different, r.contracted, r.count)
