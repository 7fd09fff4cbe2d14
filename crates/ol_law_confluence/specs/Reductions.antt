-- Beta conversion (Church and Rosser, 1936), parallel reduction and complete development
-- (Takahashi, 1995), and standard reduction (Kashima, 2000).
use Rattle.std.specs.Prelude.{◌≡◌, ℕ, List, [], ◌∷◌, Some}
use Rattle.ol_beta.specs.Beta.{contracted, substituted}
use Rattle.ol_beta.specs.Leftmost.{IsNormal}
use Rattle.ol_term.specs.Trees.{Tree, var, free, lam, app}
use Rattle.ol_law_meaning.specs.Shows.{BetaReduces, HeadReduces, IsHeadNormal}

-- ---- conversion

-- beta conversion: the least equivalence that holds contraction
pub data Convertible : Tree → Tree → Type 0 where
  contracts : {t u : Tree} (at : List ℕ) → contracted t at ≡ Some u → Convertible t u
  same : {t : Tree} → Convertible t t
  turned : {t u : Tree} → Convertible t u → Convertible u t
  joined : {t u v : Tree} → Convertible t u → Convertible u v → Convertible t v

-- as many terms, each convertible with the other's
abbrev pub AreConvertible : List Tree → List Tree → Type 0
AreConvertible [] [] = Unit {0}
AreConvertible [] (Q ∷ Qs) = ⊥
AreConvertible (P ∷ Ps) [] = ⊥
AreConvertible (P ∷ Ps) (Q ∷ Qs) = Convertible P Q × AreConvertible Ps Qs

-- two terms reduce to one
pub record Meet (t u : Tree) : Type 0 where
  pub reduct : Tree
  pub first : BetaReduces t reduct
  pub second : BetaReduces u reduct

-- beta reduction of a term comes to a normal form
pub record HasNormalForm (t : Tree) : Type 0 where
  pub form : Tree
  pub reduces : BetaReduces t form
  pub is_normal : IsNormal form

-- a term is convertible with a head normal form
pub record HasHeadNormalForm (t : Tree) : Type 0 where
  pub form : Tree
  pub converts : Convertible t form
  pub is_head_normal : IsHeadNormal form

-- head reduction of a term comes to a head normal form, and so ends
pub record HeadReductionEnds (t : Tree) : Type 0 where
  pub form : Tree
  pub reduces : HeadReduces t form
  pub is_head_normal : IsHeadNormal form

-- ---- parallel reduction

-- some of the redexes that are there, each contracted once, inner ones first
pub data Parallel : Tree → Tree → Type 0 where
  of_var : {y : ℕ} → Parallel (var y) (var y)
  of_free : {f : ℕ} → Parallel (free f) (free f)
  of_lam : {M M' : Tree} → Parallel M M' → Parallel (lam M) (lam M')
  of_app : {M M' N N' : Tree} → Parallel M M' → Parallel N N' → Parallel (app M N) (app M' N')
  of_redex : {M M' N N' : Tree} → Parallel M M' → Parallel N N' →
      Parallel (app (lam M) N) (substituted N' 0 M')

-- the complete development: all of them
abbrev pub developed : Tree → Tree
developed (var y) = var y
developed (free f) = free f
developed (lam M) = lam (developed M)
developed (app (var y) N) = app (var y) (developed N)
developed (app (free f) N) = app (free f) (developed N)
developed (app (lam M) N) = substituted (developed N) 0 (developed M)
developed (app (app M P) N) = app (developed (app M P)) (developed N)

-- ---- standard reduction

-- a weak head step: beta left of all arguments and under no abstraction
pub data WeakStep : Tree → Tree → Type 0 where
  weak_beta : {M N : Tree} → WeakStep (app (lam M) N) (substituted N 0 M)
  weak_before : {M M' N : Tree} → WeakStep M M' → WeakStep (app M N) (app M' N)

pub data WeakReduces : Tree → Tree → Type 0 where
  weak_done : {t : Tree} → WeakReduces t t
  weak_step : {t u v : Tree} → WeakStep t u → WeakReduces u v → WeakReduces t v

-- weak head reduction to the outermost constructor, and then standard reduction of the parts, from
-- left to right
pub data Standard : Tree → Tree → Type 0 where
  to_var : {t : Tree} {y : ℕ} → WeakReduces t (var y) → Standard t (var y)
  to_free : {t : Tree} {f : ℕ} → WeakReduces t (free f) → Standard t (free f)
  to_lam : {t M M' : Tree} → WeakReduces t (lam M) → Standard M M' → Standard t (lam M')
  to_app : {t M M' N N' : Tree} → WeakReduces t (app M N) → Standard M M' → Standard N N' →
      Standard t (app M' N')
