-- Reductions of labelled terms that contract any redexes, step by step and family by family (Lévy,
-- Réductions correctes et optimales dans le lambda-calcul, 1978; Optimal reductions in the
-- lambda-calculus, 1980). The family of a redex is told by its degree.
use Rattle.std.specs.Prelude.{◌≡◌, ℕ, ◌≤◌, List, [], ◌∷◌, Some, length}
use Rattle.ol_beta.specs.Leftmost.{leftmost}
use Rattle.ol_law_edges.specs.Edges.{IsIn}
use Rattle.ol_law_optimality.specs.Labels.{Label, none, over, under, joined, Labelled, var, free, lam, app}
use Rattle.ol_law_optimality.specs.Labels.{erased, before, substituted, contracted, degree}
use Rattle.ol_law_optimality.specs.Labels.{degree_of_abstraction}
use Rattle.ol_law_optimality.specs.Readings.{HeadContracts}
use Rattle.ol_term.specs.Trees.{Tree}

-- ---- step by step

-- Labelled beta steps, of any redexes in any order, with the degrees of these.
pub data Contracts : Labelled → List Label → Labelled → Type 0 where
  ready : {t : Labelled} → Contracts t [] t
  contract : {t u v : Labelled} {w : Label} {ws : List Label} (at : List ℕ) →
      degree t at ≡ Some w → contracted t at ≡ Some u →
      Contracts u ws v → Contracts t (w ∷ ws) v

-- ---- family by family

-- A family step: labelled beta steps of one degree, as many as one likes, also none.
abbrev pub FamilyStep : Label → Labelled → Labelled → Type 0
FamilyStep d t u = (ws : List Label) × Contracts t ws u × ((w : Label) → IsIn w ws → w ≡ d)

-- Family steps, one after another, with the degree of each.
pub data FamilyReduces : Labelled → List Label → Labelled → Type 0 where
  ready : {t : Labelled} → FamilyReduces t [] t
  contract : {t u v : Labelled} {d : Label} {ds : List Label} → FamilyStep d t u →
      FamilyReduces u ds v → FamilyReduces t (d ∷ ds) v

-- no reduction of T by family steps to a term with this property has fewer than n of them
abbrev pub NoFamilyReductionIsShorter : (Tree → Type 0) → Labelled → ℕ → Type 0
NoFamilyReductionIsShorter Goal T n = (V : Labelled) (ds : List Label) → FamilyReduces T ds V → Goal (erased V) →
    n ≤ length ds

-- one has just n
abbrev pub FamilyReductionOfLength : (Tree → Type 0) → Labelled → ℕ → Type 0
FamilyReductionOfLength Goal T n = (V : Labelled) × (ds : List Label) × FamilyReduces T ds V × Goal (erased V)
    × (n ≡ length ds)

-- ---- at once

-- what a redex leaves, of an abstraction labelled v and an application labelled w
abbrev pub reduct : Label → Label → Labelled → Labelled → Labelled
reduct w v c b = before (joined w (over v none)) (substituted (before (under v none) c) 0 b)

-- a parallel step: some of the redexes that are there, all of degrees in P, each contracted once,
-- inner ones first
pub data Parallel (P : Label → Type 0) : Labelled → Labelled → Type 0 where
  of_var : {y : ℕ} {w : Label} → Parallel P (var y w) (var y w)
  of_free : {f : ℕ} {w : Label} → Parallel P (free f w) (free f w)
  of_lam : {M M' : Labelled} {w : Label} → Parallel P M M' → Parallel P (lam M w) (lam M' w)
  of_app : {M M' N N' : Labelled} {w : Label} → Parallel P M M' → Parallel P N N' →
      Parallel P (app M N w) (app M' N' w)
  of_redex : {M M' N N' : Labelled} {v w : Label} → P v → Parallel P M M' → Parallel P N N' →
      Parallel P (app (lam M v) N w) (reduct w v N' M')

-- a whole family: all of the redexes that are there and have this degree
pub data WholeFamily (d : Label) : Labelled → Labelled → Type 0 where
  all_var : {y : ℕ} {w : Label} → WholeFamily d (var y w) (var y w)
  all_free : {f : ℕ} {w : Label} → WholeFamily d (free f w) (free f w)
  all_lam : {M M' : Labelled} {w : Label} → WholeFamily d M M' →
      WholeFamily d (lam M w) (lam M' w)
  all_app : {M M' N N' : Labelled} {w : Label} → (degree_of_abstraction M ≡ Some d → ⊥) →
      WholeFamily d M M' → WholeFamily d N N' → WholeFamily d (app M N w) (app M' N' w)
  all_redex : {M M' N N' : Labelled} {w : Label} → WholeFamily d M M' → WholeFamily d N N' →
      WholeFamily d (app (lam M d) N w) (reduct w d N' M')

-- whole families, each time that of some redex that is there
pub data WholeFamilies : Labelled → List Label → Labelled → Type 0 where
  ready : {t : Labelled} → WholeFamilies t [] t
  contract : {t u v : Labelled} {d : Label} {ds : List Label} (at : List ℕ) →
      degree t at ≡ Some d → WholeFamily d t u → WholeFamilies u ds v → WholeFamilies t (d ∷ ds) v

-- whole families, each time that of the leftmost redex
pub data LeftmostFamilies : Labelled → List Label → Labelled → Type 0 where
  ready : {t : Labelled} → LeftmostFamilies t [] t
  contract : {t u v : Labelled} {d : Label} {ds : List Label} (at : List ℕ) →
      leftmost (erased t) ≡ Some at → degree t at ≡ Some d → WholeFamily d t u →
      LeftmostFamilies u ds v → LeftmostFamilies t (d ∷ ds) v

-- whole families, each time that of the head redex
pub data HeadFamilies : Labelled → List Label → Labelled → Type 0 where
  ready : {t : Labelled} → HeadFamilies t [] t
  contract : {t s u v : Labelled} {d : Label} {ds : List Label} → HeadContracts t d s →
      WholeFamily d t u → HeadFamilies u ds v → HeadFamilies t (d ∷ ds) v
