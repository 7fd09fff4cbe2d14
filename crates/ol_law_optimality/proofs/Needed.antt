-- Each degree that leftmost reduction contracts, every reduction to a normal form contracts.
use Rattle.std.proofs.Common.{◌≡◌, ℕ, Bool, true, false, ◌⊎◌, inl, inr, List, [], ◌∷◌, ◌++◌, Some, None, sym, subst}
use Rattle.std.proofs.lemmas.Option.{same_Some, none-some}
use Rattle.std.specs.Prelude.{◌==◌, if◌then◌else◌}
use Rattle.std.specs.Option.{option_map}
use Rattle.ol_law_edges.specs.Edges.{IsIn}
use Rattle.ol_law_edges.proofs.Lists.{in_cases}
use Rattle.ol_law_edges.proofs.Options.{mapped}
use Rattle.ol_law_meaning.proofs.Endings.{no_redex}
use Rattle.ol_law_optimality.specs.Labels.{Label, Labelled, var, free, lam, app, erased, contracted, degree}
use Rattle.ol_law_optimality.specs.Labels.{applied, degree_of_abstraction, LeftmostContracts}
use Rattle.ol_law_optimality.specs.Labels as labels
use Rattle.ol_law_optimality.specs.LevysTheorem.{EachDegreeIsNeeded, NeededAreContracted, NoneIsShorter}
use Rattle.ol_law_optimality.specs.Reductions.{Contracts, FamilyStep, FamilyReduces, Parallel, of_lam, of_app}
use Rattle.ol_law_optimality.specs.Reductions.{of_redex, reduct}
use Rattle.ol_law_optimality.specs.Reductions as reductions
use Rattle.ol_law_optimality.proofs.Together.{parallel_same, meet}
use Rattle.ol_law_optimality.proofs.Firsts.{IsStill, IsFirst, first_is_none, stays, first_stays, first_of}
use Rattle.ol_law_optimality.proofs.Counts.{no_more}

-- ---- a contraction is a parallel step of its degree

abbrev pub Of : Label → Label → Type 0
Of d v = v ≡ d

applied_step : (f c : Labelled) (w d : Label) (u : Labelled) → degree_of_abstraction f ≡ Some d →
    applied f c w ≡ Some u → Parallel (Of d) (app f c w) u
applied_step (var k v) c w d u g e = absurd (none-some _ e)
applied_step (free k v) c w d u g e = absurd (none-some _ e)
applied_step (lam b v) c w d u g e =
    subst (λ u. Parallel (Of d) (app (lam b v) c w) u) (same_Some (reduct w v c b) u e)
    (of_redex (same_Some v d g) (parallel_same (Of d) b) (parallel_same (Of d) c))
applied_step (app f a v) c w d u g e = absurd (none-some _ e)

pub contraction_step : (t : Labelled) (at : List ℕ) (d : Label) (u : Labelled) →
    degree t at ≡ Some d → contracted t at ≡ Some u → Parallel (Of d) t u
contraction_step (var k w) at d u g e = absurd (none-some _ e)
contraction_step (free k w) at d u g e = absurd (none-some _ e)
contraction_step (lam t w) [] d u g e = absurd (none-some _ e)
contraction_step (lam t w) (m ∷ at) d u g e = go (contraction_step t at) (m == 0) g e
  where
    go : ((d : Label) (v : Labelled) → degree t at ≡ Some d → contracted t at ≡ Some v →
        Parallel (Of d) t v) →
        (b : Bool) → (if b then degree t at else None) ≡ Some d →
        (if b then option_map (λ t. lam t w) (contracted t at) else None) ≡ Some u →
        Parallel (Of d) (lam t w) u
    go next true g e =
        let r = mapped (λ t. lam t w) (contracted t at) u e in
        subst (λ u. Parallel (Of d) (lam t w) u) r.2 (of_lam (next d r.0 g r.1))
    go next false g e = absurd (none-some _ e)
contraction_step (app f c w) [] d u g e = applied_step f c w d u g e
contraction_step (app f c w) (m ∷ at) d u g e =
    go (contraction_step f at) (contraction_step c at) (m == 1) (m == 2) g e
  where
    go : ((d : Label) (v : Labelled) → degree f at ≡ Some d → contracted f at ≡ Some v →
        Parallel (Of d) f v) →
        ((d : Label) (v : Labelled) → degree c at ≡ Some d → contracted c at ≡ Some v →
        Parallel (Of d) c v) →
        (a b : Bool) → (if a then degree f at else if b then degree c at else None) ≡ Some d →
        (if a then option_map (λ g. app g c w) (contracted f at) else if b then
        option_map (λ a. app f a w) (contracted c at) else None) ≡ Some u →
        Parallel (Of d) (app f c w) u
    go left right true b g e =
        let r = mapped (λ g. app g c w) (contracted f at) u e in
        subst (λ u. Parallel (Of d) (app f c w) u) r.2
        (of_app (left d r.0 g r.1) (parallel_same (Of d) c))
    go left right false true g e =
        let r = mapped (λ a. app f a w) (contracted c at) u e in
        subst (λ u. Parallel (Of d) (app f c w) u) r.2
        (of_app (parallel_same (Of d) f) (right d r.0 g r.1))
    go left right false false g e = absurd (none-some _ e)

-- ---- parallel steps, one after another, with their degrees

pub data Row : Labelled → List Label → Labelled → Type 0 where
  done : {t : Labelled} → Row t [] t
  more : {t u v : Labelled} {d : Label} {ds : List Label} → Parallel (Of d) t u → Row u ds v →
      Row t (d ∷ ds) v

pub contracts_row : {t v : Labelled} {ws : List Label} → Contracts t ws v → Row t ws v
contracts_row reductions.ready = done
contracts_row (reductions.contract {t = t} {u = u} {w = w} at g e r) =
    more (contraction_step t at w u g e) (contracts_row r)

-- a row goes on beside a parallel step, with the degrees that it had
pub record Beside (P : Label → Type 0) (u : Labelled) (ds : List Label) (v : Labelled) : Type 0 where
  pub term : Labelled
  pub row : Row u ds term
  pub step : Parallel P v term

pub beside : (P : Label → Type 0) {t u v : Labelled} {ds : List Label} → Parallel P t u →
    Row t ds v → Beside P u ds v
beside P {u = u} p done = record { term = u; row = done; step = p }
beside P p (more {d = d} q r) =
    let m = meet P (Of d) p q in
    let x = beside P m.second r in
    record { term = x.term; row = more m.first x.row; step = x.step }

-- to a normal form it leads there still
pub beside_still : (P : Label → Type 0) {t u v : Labelled} {ds : List Label} → Parallel P t u →
    Row t ds v → IsStill v → Row u ds v
beside_still P {u = u} {ds = ds} p r s =
    let x = beside P p r in subst (λ z. Row u ds z) (stays P x.step s) x.row

-- ---- what is needed

pub first_is_needed : {t v : Labelled} {ds : List Label} (d : Label) → Row t ds v → IsStill v →
    IsFirst d t → IsIn d ds
first_is_needed d done s h = absurd (first_is_none h s)
first_is_needed d (more {u = u} {d = e} {ds = ds} p r) s h =
    go (first_stays (Of e) h p) (λ k. first_is_needed d r s k)
  where
    go : (d ≡ e) ⊎ IsFirst d u → (IsFirst d u → IsIn d ds) → (d ≡ e) ⊎ IsIn d ds
    go (inl k) next = inl k
    go (inr h) next = inr (next h)

pub row_needed : {T v V : Labelled} {ws us : List Label} → LeftmostContracts T ws v →
    Row T us V → IsStill V → (w : Label) → IsIn w ws → IsIn w us
row_needed labels.ready r s w i = absurd i
row_needed {us = us} (labels.contract {t = t} {u = u} {w = d} at e g f l) r s w (inl i) =
    subst (λ w. IsIn w us) (sym i) (first_is_needed d r s (first_of t at d e g))
row_needed (labels.contract {t = t} {u = u} {w = d} at e g f l) r s w (inr i) =
    row_needed l (beside_still (Of d) (contraction_step t at d u g f) r s) s w i

pub each_degree_is_needed : EachDegreeIsNeeded
each_degree_is_needed T v ws l d i V us c n =
    row_needed l (contracts_row c) (no_redex (erased V) n) d i

-- ---- family by family

pub contracts_then : {t u v : Labelled} {ws us : List Label} → Contracts t ws u →
    Contracts u us v → Contracts t (ws ++ us) v
contracts_then reductions.ready s = s
contracts_then (reductions.contract at g e r) s = reductions.contract at g e (contracts_then r s)

-- the steps of a family reduction one by one, each of a degree of the latter
pub record Spread (T : Labelled) (ds : List Label) (V : Labelled) : Type 0 where
  pub degrees : List Label
  pub steps : Contracts T degrees V
  pub known : (w : Label) → IsIn w degrees → IsIn w ds

pub spread : {T V : Labelled} {ds : List Label} → FamilyReduces T ds V → Spread T ds V
spread reductions.ready = record { degrees = []; steps = reductions.ready; known = λ w i. i }
spread (reductions.contract {d = d} {ds = ds} s r) =
    let x = spread r in
    record {
      degrees = s.0 ++ x.degrees;
      steps = contracts_then s.1 x.steps;
      known =
          λ w i. elim (in_cases w s.0 x.degrees i) [
            | inl j ↦ inl (s.2 w j)
            | inr j ↦ inr (x.known w j)
          ];
    }

pub needed_are_contracted : NeededAreContracted
needed_are_contracted T V ds r n d h =
    let x = spread r in x.known d (h V x.degrees x.steps n)

pub none_is_shorter : NoneIsShorter
none_is_shorter T v V ws ds l r n es f i =
    no_more es ds f
    (λ e j. needed_are_contracted T V ds r n e (each_degree_is_needed T v ws l e (i e j)))
