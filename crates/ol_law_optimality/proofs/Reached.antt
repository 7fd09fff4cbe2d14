-- Whole families, each time that of the leftmost redex, lead to the normal form by as many steps as
-- leftmost reduction contracts different degrees.
use Rattle.std.proofs.Common.{◌≡◌, ℕ, zero, suc, ◌+◌, ◌≤◌, inl, inr, List, [], ◌∷◌, length, Option}
use Rattle.std.proofs.Common.{Some, None, refl, sym, ◌∙◌, subst, arith}
use Rattle.ol_beta.specs.Leftmost.{leftmost}
use Rattle.ol_law_edges.specs.Edges.{IsIn}
use Rattle.ol_law_optimality.specs.Readings.{AreDifferent}
use Rattle.ol_law_meaning.proofs.Endings.{no_redex}
use Rattle.ol_law_optimality.specs.Labels.{Label, Labelled, erased, degree, LeftmostContracts}
use Rattle.ol_law_optimality.specs.Labels as labels
use Rattle.ol_law_optimality.specs.LevysTheorem.{FewestIsReached}
use Rattle.ol_law_optimality.specs.Reductions.{LeftmostFamilies}
use Rattle.ol_law_optimality.specs.Reductions as reductions
use Rattle.ol_law_optimality.proofs.Counts.{no_more}
use Rattle.ol_law_optimality.proofs.Firsts.{IsStill, stays, first_of, first_degree}
use Rattle.ol_law_optimality.proofs.Needed.{Of, contraction_step, Row, done, more, beside_still}
use Rattle.ol_law_optimality.proofs.Needed.{first_is_needed, row_needed, contracts_row, spread}
use Rattle.ol_law_optimality.proofs.Once.{History, at_first, is_new, one_more, no_family_twice}
use Rattle.ol_law_optimality.proofs.Steps.{whole_family, whole_parallel, leftmost_families_are_whole}
use Rattle.ol_law_optimality.proofs.Steps.{leftmost_families_are_families}

-- leftmost reduction is a row of steps
leftmost_row : {T v : Labelled} {ws : List Label} → LeftmostContracts T ws v → Row T ws v
leftmost_row labels.ready = done
leftmost_row (labels.contract {t = t} {u = u} {w = w} at e g f r) =
    more (contraction_step t at w u g f) (leftmost_row r)

-- a row from a term without a redex stays there
row_stays : {T v : Labelled} {ws : List Label} → Row T ws v → IsStill T → v ≡ T
row_stays done s = refl
row_stays (more {t = t} {u = u} {d = d} p r) s =
    let k : u ≡ t = stays (Of d) p s in row_stays r (subst IsStill (sym k) s) ∙ k

-- the families that went, all of them of leftmost reduction, and what it has left to do
record Gone (ws hs : List Label) (T V : Labelled) : Type 0 where
  row : Row T ws V
  different : AreDifferent hs
  known : (w : Label) → IsIn w hs → IsIn w ws
  history : History hs T

-- the rest of a reduction by whole families
record Rest (ws : List Label) (T V : Labelled) : Type 0 where
  degrees : List Label
  families : LeftmostFamilies T degrees V
  within : (e : Label) → IsIn e degrees → IsIn e ws

module _ (ws : List Label) (V : Labelled) (still : IsStill V) where
  nothing_left : (hs : List Label) (T : Labelled) → Gone ws hs T V → IsStill T → Rest ws T V
  nothing_left hs T g s = record {
    degrees = [];
    families = subst (λ U. LeftmostFamilies T [] U) (sym (row_stays g.row s)) reductions.ready;
    within = λ e i. absurd i;
  }

  -- the leftmost redex is of a family that is wanted, and hasn't gone
  is_wanted : (hs : List Label) (T : Labelled) (at : List ℕ) (d : Label) →
      leftmost (erased T) ≡ Some at → degree T at ≡ Some d → Gone ws hs T V → IsIn d ws
  is_wanted hs T at d e f g = first_is_needed d g.row still (first_of T at d e f)

  one_gone : (hs : List Label) (T : Labelled) (at : List ℕ) (d : Label) →
      leftmost (erased T) ≡ Some at → degree T at ≡ Some d → Gone ws hs T V →
      Gone ws (d ∷ hs) (whole_family d T).0 V
  one_gone hs T at d e f g =
      let r = whole_family d T in
      record {
        row = beside_still (Of d) (whole_parallel r.1) g.row still;
        different = (is_new hs T at d g.history f, g.different);
        known =
            λ w i. elim i [
              | inl k ↦ subst (λ w. IsIn w ws) (sym k) (is_wanted hs T at d e f g)
              | inr j ↦ g.known w j
            ];
        history = one_more hs T r.0 at d g.history f r.1;
      }

  first_goes : (hs : List Label) (T : Labelled) (at : List ℕ) (d : Label) →
      leftmost (erased T) ≡ Some at → degree T at ≡ Some d → Gone ws hs T V →
      Rest ws (whole_family d T).0 V → Rest ws T V
  first_goes hs T at d e f g r = record {
    degrees = d ∷ r.degrees;
    families = reductions.contract at e f (whole_family d T).1 r.families;
    within =
        λ x i. elim i [
          | inl k ↦ subst (λ x. IsIn x ws) (sym k) (is_wanted hs T at d e f g)
          | inr j ↦ r.within x j
        ];
  }

  -- there are no more families than leftmost reduction contracts
  is_full : (hs : List Label) (T : Labelled) → Gone ws hs T V → length hs ≤ length ws
  is_full hs T g = no_more hs ws g.different g.known

  reach : (n : ℕ) (hs : List Label) (T : Labelled) → length ws ≤ n + length hs →
      Gone ws hs T V → Rest ws T V
  reach zero hs T b g = by (leftmost (erased T)) refl
    where
      by : (o : Option (List ℕ)) → leftmost (erased T) ≡ o → Rest ws T V
      by None e = nothing_left hs T g e
      by (Some at) e =
          let f = first_degree T at e in
          let k = is_full (f.0 ∷ hs) (whole_family f.0 T).0 (one_gone hs T at f.0 e f.1 g) in
          absurd (omega (arith, k, b))
  reach (suc n) hs T b g = by (leftmost (erased T)) refl (λ d U c h. reach n (d ∷ hs) U c h)
    where
      by : (o : Option (List ℕ)) → leftmost (erased T) ≡ o →
          ((d : Label) (U : Labelled) → length ws ≤ n + suc (length hs) → Gone ws (d ∷ hs) U V →
          Rest ws U V) → Rest ws T V
      by None e next = nothing_left hs T g e
      by (Some at) e next =
          let f = first_degree T at e in
          first_goes hs T at f.0 e f.1 g
          (next f.0 (whole_family f.0 T).0 (omega (arith, b)) (one_gone hs T at f.0 e f.1 g))

pub fewest_is_reached : FewestIsReached
fewest_is_reached T v ws l n letters =
    let s = no_redex (erased v) n in
    let r =
    reach ws v s (length ws) [] T (omega arith)
    (record {
      row = leftmost_row l;
      different = tt;
      known = λ w i. absurd i;
      history = at_first T letters;
    }) in
    let x = spread (leftmost_families_are_families T v r.degrees r.families) in (
      r.degrees,
      r.families,
      no_family_twice T v r.degrees (leftmost_families_are_whole T v r.degrees r.families) letters,
      λ d. (
        r.within d,
        λ i. x.known d (row_needed l (contracts_row x.steps) s d i),
      ),
    )
