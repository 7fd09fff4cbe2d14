-- Whole families, each time that of the head redex, lead to a head normal form by as many steps as
-- head reduction contracts different degrees.
use Rattle.std.proofs.Common.{◌≡◌, ℕ, zero, suc, ◌+◌, ◌≤◌, ◌⊎◌, inl, inr, List, [], ◌∷◌, length}
use Rattle.std.proofs.Common.{Some, sym, subst, arith}
use Rattle.ol_law_edges.specs.Edges.{IsIn}
use Rattle.ol_law_optimality.specs.Readings.{AreDifferent, HeadContracts, HeadReduces}
use Rattle.ol_law_optimality.specs.Readings as readings
use Rattle.ol_law_optimality.proofs.HeadFamilies.{betas_are_head_families}
use Rattle.ol_law_optimality.proofs.Leading.{head_is_leftmost}
use Rattle.ol_law_optimality.proofs.Leftwards.{labelled_step}
use Rattle.ol_law_meaning.specs.Heads.{Normal}
use Rattle.ol_law_meaning.specs.Shows.{IsHeadNormal}
use Rattle.ol_law_meaning.specs.Contraction.{Place, Level, HeadStep}
use Rattle.ol_law_meaning.proofs.Shapes.{normal_is}
use Rattle.ol_law_meaning.proofs.Walking.{normal_or_step}
use Rattle.ol_law_optimality.specs.Labels.{Label, Labelled, erased, degree}
use Rattle.ol_term.specs.Trees.{Tree}
use Rattle.ol_law_optimality.specs.Demand.{DemandIsAsShortForAHead}
use Rattle.ol_law_optimality.specs.LevysTheorem.{FewestForAHead, HeadFamiliesAreWhole}
use Rattle.ol_law_optimality.specs.Reductions.{WholeFamilies, HeadFamilies, FamilyReduces}
use Rattle.ol_law_optimality.specs.Reductions as reductions
use Rattle.ol_law_optimality.proofs.Counts.{no_more}
use Rattle.ol_law_optimality.proofs.HeadNeeded.{head_of, head_parallel, IsHeaded, headed, headed_stays}
use Rattle.ol_law_optimality.proofs.HeadNeeded.{head_is_needed, heads_needed, head_labels}
use Rattle.ol_law_optimality.proofs.Needed.{Of, Row, done, more, beside, contracts_row, spread}
use Rattle.ol_law_optimality.proofs.Once.{History, at_first, is_new, one_more, no_family_twice}
use Rattle.ol_law_optimality.proofs.Steps.{whole_family, whole_parallel, whole_families_are_families}

-- head reduction is a row of steps
pub head_row : {T v : Labelled} {ds : List Label} → HeadReduces T ds v → Row T ds v
head_row readings.ready = done
head_row (readings.contract h r) = more (head_parallel h) (head_row r)

-- where the head redex stands
record Stands (T : Labelled) (d : Label) : Type 0 where
  at : List ℕ
  is : degree T at ≡ Some d

stands : (T U : Labelled) (d : Label) → HeadContracts T d U → Stands T d
stands T U d h = let l = head_is_leftmost T U d h in record { at = l.0; is = l.2 }

pub head_families_are_whole : HeadFamiliesAreWhole
head_families_are_whole T V ds reductions.ready = reductions.ready
head_families_are_whole T V ds (reductions.contract {t = t} {s = s} {u = u} {d = d} {ds = es} h p r) =
    let l = stands t s d h in reductions.contract l.at l.is p (head_families_are_whole u V es r)

-- a head normal form, or a head redex
record HeadThere (T : Labelled) : Type 0 where
  next : Labelled
  degree : Label
  contracts : HeadContracts T degree next

normal_or_head : (T : Labelled) → IsHeadNormal (erased T) ⊎ HeadThere T
normal_or_head T = by (normal_or_step (erased T))
  where
    by : ((q : Place) × (a : Level) × (j : ℕ) × Normal (erased T) q a j)
        ⊎ ((t' : Tree) × HeadStep (erased T) t') → IsHeadNormal (erased T) ⊎ HeadThere T
    by (inl n) = inl (normal_is n.3)
    by (inr h) =
        let r = labelled_step T h.1 in
        inr (record { next = r.0; degree = r.1; contracts = r.2 })

-- the families that went, all of them of head reduction, and what it has left to do
record Gone (ds hs : List Label) (T : Labelled) : Type 0 where
  term : Labelled
  row : Row T ds term
  is_headed : IsHeaded term
  different : AreDifferent hs
  known : (d : Label) → IsIn d hs → IsIn d ds
  history : History hs T

-- the rest of a reduction by whole families
record Rest (ds : List Label) (T : Labelled) : Type 0 where
  degrees : List Label
  term : Labelled
  families : HeadFamilies T degrees term
  normal : IsHeadNormal (erased term)
  within : (e : Label) → IsIn e degrees → IsIn e ds

module _ (ds : List Label) where
  nothing_left : (T : Labelled) → IsHeadNormal (erased T) → Rest ds T
  nothing_left T n = record {
    degrees = [];
    term = T;
    families = reductions.ready;
    normal = n;
    within = λ e i. absurd i;
  }

  is_wanted : (hs : List Label) (T : Labelled) (h : HeadThere T) → Gone ds hs T → IsIn h.degree ds
  is_wanted hs T h g = head_is_needed h.degree g.row g.is_headed (head_of h.contracts)

  one_gone : (hs : List Label) (T : Labelled) (h : HeadThere T) → Gone ds hs T →
      Gone ds (h.degree ∷ hs) (whole_family h.degree T).0
  one_gone hs T h g =
      let d = h.degree in
      let r = whole_family d T in
      let l = stands T h.next d h.contracts in
      let x = beside (Of d) (whole_parallel r.1) g.row in
      record {
        term = x.term;
        row = x.row;
        is_headed = headed_stays (Of d) x.step g.is_headed;
        different = (is_new hs T l.at d g.history l.is, g.different);
        known =
            λ e i. elim i [
              | inl k ↦ subst (λ e. IsIn e ds) (sym k) (is_wanted hs T h g)
              | inr j ↦ g.known e j
            ];
        history = one_more hs T r.0 l.at d g.history l.is r.1;
      }

  head_goes : (hs : List Label) (T : Labelled) (h : HeadThere T) → Gone ds hs T →
      Rest ds (whole_family h.degree T).0 → Rest ds T
  head_goes hs T h g r = record {
    degrees = h.degree ∷ r.degrees;
    term = r.term;
    families = reductions.contract h.contracts (whole_family h.degree T).1 r.families;
    normal = r.normal;
    within =
        λ x i. elim i [
          | inl k ↦ subst (λ x. IsIn x ds) (sym k) (is_wanted hs T h g)
          | inr j ↦ r.within x j
        ];
  }

  reach : (n : ℕ) (hs : List Label) (T : Labelled) → length ds ≤ n + length hs → Gone ds hs T →
      Rest ds T
  reach zero hs T b g = by (normal_or_head T)
    where
      by : IsHeadNormal (erased T) ⊎ HeadThere T → Rest ds T
      by (inl n) = nothing_left T n
      by (inr h) =
          let x = one_gone hs T h g in
          let k = no_more (h.degree ∷ hs) ds x.different x.known in absurd (omega (arith, k, b))
  reach (suc n) hs T b g = by (normal_or_head T) (λ d U c h. reach n (d ∷ hs) U c h)
    where
      by : IsHeadNormal (erased T) ⊎ HeadThere T →
          ((d : Label) (U : Labelled) → length ds ≤ n + suc (length hs) → Gone ds (d ∷ hs) U →
          Rest ds U) → Rest ds T
      by (inl m) next = nothing_left T m
      by (inr h) next =
          head_goes hs T h g
          (next h.degree (whole_family h.degree T).0 (omega (arith, b)) (one_gone hs T h g))

pub fewest_for_a_head : FewestForAHead
fewest_for_a_head T v ds l n letters =
    let r =
    reach ds (length ds) [] T (omega arith)
    (record {
      term = v;
      row = head_row l;
      is_headed = headed v n;
      different = tt;
      known = λ w i. absurd i;
      history = at_first T letters;
    }) in
    let x = spread
    (whole_families_are_families T r.term r.degrees (head_families_are_whole T r.term r.degrees r.families)) in (
      r.degrees,
      r.term,
      r.families,
      r.normal,
      no_family_twice T r.term r.degrees (head_families_are_whole T r.term r.degrees r.families) letters,
      λ d. (
        r.within d,
        λ i. x.known d (heads_needed l (contracts_row x.steps) (headed r.term r.normal) d i),
      ),
    )

pub demand_is_as_short_for_a_head : DemandIsAsShortForAHead
demand_is_as_short_for_a_head τ T V us c n own names h g k same journal places M d =
    let l = head_labels T V us c n in
    let x =
    betas_are_head_families τ T l.term l.degrees l.heads l.normal own names h g k same journal places
    M d in
    let y = fewest_for_a_head T l.term l.degrees l.heads l.normal own.1 in
    let a = no_more x.0 y.0 x.1 (λ e i. (y.5 e).1 ((x.2 e).0 i)) in
    let b = no_more y.0 x.0 y.4 (λ e i. (x.2 e).1 ((y.5 e).0 i)) in
    let e = x.3 in
    (y.0, y.1, y.2, y.3, omega (arith, a, b, e))
