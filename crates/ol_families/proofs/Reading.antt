-- The code's steps without their labels.
use Rattle.std.proofs.Common.{◌≡◌, ℕ, ◌==◌, if◌then◌else◌, Bool, true, false, List, [], ◌∷◌}
use Rattle.std.proofs.Common.{Option, Some, None, refl, ◌∙◌}
use Rattle.std.specs.Option.{option_map}
use Rattle.ol_beta.specs.Beta as beta
use Rattle.ol_law_optimality.specs.Labels.{Label, Labelled, erased}
use Rattle.ol_law_optimality.specs.Labels as labels
use Rattle.ol_law_optimality.proofs.Erasing.{labels_erase}
use Rattle.ol_term.specs.Trees.{Tree}
use Rattle.ol_families.specs.declared.degrees.Letter.{Letter}
use Rattle.ol_families.specs.Held.{Held, var, free, lam, app, bare, contracted, degree}
use Rattle.ol_families.proofs.Rows.{same_some}

-- where the one is something, so is the other
abbrev Both : {A B : Type 0} → Option A → Option B → Type 0
Both None None = Unit {0}
Both None (Some y) = ⊥
Both (Some x) None = ⊥
Both (Some x) (Some y) = Unit {0}

module _ {A B : Type 0} where
  both_if : (b : Bool) (s t : Option A) (x y : Option B) → Both s x → Both t y →
      Both (if b then s else t) (if b then x else y)
  both_if true s t x y g h = g
  both_if false s t x y g h = h

  both_map : (f : A → A) (g : B → B) (s : Option A) (x : Option B) → Both s x → Both (option_map f s) (option_map g x)
  both_map f g None None h = tt
  both_map f g None (Some y) h = h
  both_map f g (Some x) None h = h
  both_map f g (Some x) (Some y) h = tt

  both_left : (f : A → A) (s : Option A) (x : Option B) → Both s x → Both (option_map f s) x
  both_left f None None h = tt
  both_left f None (Some y) h = h
  both_left f (Some x) None h = h
  both_left f (Some x) (Some y) h = tt

  pub other : (s : Option A) (x : Option B) (a : A) → Both s x → s ≡ Some a → (b : B) × (x ≡ Some b)
  other None x a h e = absurd (clash e)
    where
      clash : None ≡ Some a → ⊥
      clash e = cc
  other (Some b) None a h e = absurd h
  other (Some b) (Some y) a h e = (y, refl)

  pub turned : (s : Option A) (x : Option B) → Both s x → Both x s
  turned None None h = tt
  turned None (Some y) h = h
  turned (Some x) None h = h
  turned (Some x) (Some y) h = tt

-- a step is made exactly where there is one without labels
step_both : (n : ℕ) (t : Held) (at : List ℕ) → Both (contracted n t at) (beta.contracted (bare t) at)
step_both n (var k w) at = tt
step_both n (free k w) at = tt
step_both n (lam b w) [] = tt
step_both n (lam b w) (m ∷ at) =
    both_if (m == 0) (option_map (λ b. lam b w) (contracted n b at)) None _ None
    (both_map (λ b. lam b w) _ (contracted n b at) (beta.contracted (bare b) at) (step_both n b at)) tt
step_both n (app (var k v) c w) [] = tt
step_both n (app (free k v) c w) [] = tt
step_both n (app (lam b v) c w) [] = tt
step_both n (app (app f a v) c w) [] = tt
step_both n (app f c w) (m ∷ at) =
    both_if (m == 1) (option_map (λ g. app g c w) (contracted n f at))
    (if m == 2 then option_map (λ a. app f a w) (contracted n c at) else None) _ _
    (both_map (λ g. app g c w) _ (contracted n f at) (beta.contracted (bare f) at) (step_both n f at))
    (both_if (m == 2) (option_map (λ a. app f a w) (contracted n c at)) None _ None
    (both_map (λ a. app f a w) _ (contracted n c at) (beta.contracted (bare c) at) (step_both n c at)) tt)

-- and where there is a degree
degree_both : (n : ℕ) (t : Held) (at : List ℕ) → Both (contracted n t at) (degree t at)
degree_both n (var k w) at = tt
degree_both n (free k w) at = tt
degree_both n (lam b w) [] = tt
degree_both n (lam b w) (m ∷ at) =
    both_if (m == 0) (option_map (λ b. lam b w) (contracted n b at)) None (degree b at) None
    (both_left (λ b. lam b w) (contracted n b at) (degree b at) (degree_both n b at)) tt
degree_both n (app (var k v) c w) [] = tt
degree_both n (app (free k v) c w) [] = tt
degree_both n (app (lam b v) c w) [] = tt
degree_both n (app (app f a v) c w) [] = tt
degree_both n (app f c w) (m ∷ at) =
    both_if (m == 1) (option_map (λ g. app g c w) (contracted n f at))
    (if m == 2 then option_map (λ a. app f a w) (contracted n c at) else None) (degree f at)
    (if m == 2 then degree c at else None)
    (both_left (λ g. app g c w) (contracted n f at) (degree f at) (degree_both n f at))
    (both_if (m == 2) (option_map (λ a. app f a w) (contracted n c at)) None (degree c at) None
    (both_left (λ a. app f a w) (contracted n c at) (degree c at) (degree_both n c at)) tt)

pub has_degree : (n : ℕ) (t : Held) (at : List ℕ) (u : Held) → contracted n t at ≡ Some u →
    (r : List Letter) × (degree t at ≡ Some r)
has_degree n t at u e = other (contracted n t at) (degree t at) u (degree_both n t at) e

pub has_step : (n : ℕ) (t : Held) (at : List ℕ) (u : Tree) → beta.contracted (bare t) at ≡ Some u →
    (v : Held) × (contracted n t at ≡ Some v)
has_step n t at u e = other (beta.contracted (bare t) at) (contracted n t at) u
    (turned (contracted n t at) (beta.contracted (bare t) at) (step_both n t at)) e

-- a labelled term can be contracted where it can without its labels
pub labelled_step : (t : Labelled) (at : List ℕ) (u : Tree) → beta.contracted (erased t) at ≡ Some u →
    (v : Labelled) × (labels.contracted t at ≡ Some v) × (erased v ≡ u)
labelled_step t at u e = by (labels.contracted t at) refl (labels_erase t at ∙ e)
  where
    by : (o : Option Labelled) → labels.contracted t at ≡ o → option_map erased o ≡ Some u →
        (v : Labelled) × (labels.contracted t at ≡ Some v) × (erased v ≡ u)
    by None d c = absurd (clash c)
      where
        clash : None ≡ Some u → ⊥
        clash e = cc
    by (Some v) d c = (v, d, same_some c)
