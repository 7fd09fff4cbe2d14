-- Labelled steps without their labels.
use Rattle.std.proofs.Common.{◌≡◌, ℕ, ◌+◌, ◌-◌, ◌==◌, nat_lt, if◌then◌else◌, Bool, true, false}
use Rattle.std.proofs.Common.{[], ◌∷◌, Option, Some, None, refl, ap, ◌∙◌}
use Rattle.std.specs.Option.{option_map}
use Rattle.ol_beta.specs.Beta as beta
use Rattle.ol_term.specs.Trees.{Tree}
use Rattle.ol_term.specs.Trees as trees
use Rattle.ol_law_optimality.specs.Labels.{Label, Labelled, var, free, lam, app, erased, before, shifted, substituted}
use Rattle.ol_law_optimality.specs.Labels.{applied, contracted, joined, over, under, none, LabelsErase}

pub erased_before : (v : Label) (t : Labelled) → erased (before v t) ≡ erased t
erased_before v (var k w) = refl
erased_before v (free k w) = refl
erased_before v (lam t w) = refl
erased_before v (app f a w) = refl

erased_shifted : (n d : ℕ) (t : Labelled) → erased (shifted n d t) ≡ beta.shifted n d (erased t)
erased_shifted n d (var k w) = refl
erased_shifted n d (free k w) = refl
erased_shifted n d (lam t w) = ap trees.lam (erased_shifted n (d + 1) t)
erased_shifted n d (app f a w) =
    ap (λ x. trees.app x (erased (shifted n d a))) (erased_shifted n d f)
    ∙ ap (trees.app (beta.shifted n d (erased f))) (erased_shifted n d a)

erased_if : (b : Bool) (t u : Labelled) (x y : Tree) → erased t ≡ x → erased u ≡ y →
    erased (if b then t else u) ≡ (if b then x else y)
erased_if true t u x y e e' = e
erased_if false t u x y e e' = e'

erased_substituted : (c : Labelled) (d : ℕ) (t : Labelled) →
    erased (substituted c d t) ≡ beta.substituted (erased c) d (erased t)
erased_substituted c d (var k w) =
    erased_if (nat_lt k d) (var k w)
    (if k == d then before w (shifted d 0 c) else var (k - 1) w) (trees.var k)
    (if k == d then beta.shifted d 0 (erased c) else trees.var (k - 1)) refl
    (erased_if (k == d) (before w (shifted d 0 c)) (var (k - 1) w)
    (beta.shifted d 0 (erased c)) (trees.var (k - 1))
    (erased_before w (shifted d 0 c) ∙ erased_shifted d 0 c) refl)
erased_substituted c d (free k w) = refl
erased_substituted c d (lam t w) = ap trees.lam (erased_substituted c (d + 1) t)
erased_substituted c d (app f a w) =
    ap (λ x. trees.app x (erased (substituted c d a))) (erased_substituted c d f)
    ∙ ap (trees.app (beta.substituted (erased c) d (erased f))) (erased_substituted c d a)

erased_applied : (f c : Labelled) (w : Label) →
    option_map erased (applied f c w) ≡ beta.applied (erased f) (erased c)
erased_applied (var k v) c w = refl
erased_applied (free k v) c w = refl
erased_applied (lam b v) c w =
    ap Some (erased_before (joined w (over v none)) (substituted (before (under v none) c) 0 b)
    ∙ erased_substituted (before (under v none) c) 0 b
    ∙ ap (λ c. beta.substituted c 0 (erased b)) (erased_before (under v none) c))
erased_applied (app f a v) c w = refl

mapped_if : (b : Bool) (s t : Option Labelled) (x y : Option Tree) → option_map erased s ≡ x →
    option_map erased t ≡ y → option_map erased (if b then s else t) ≡ (if b then x else y)
mapped_if true s t x y e e' = e
mapped_if false s t x y e e' = e'

mapped_twice : (f : Labelled → Labelled) (g : Tree → Tree) →
    ((t : Labelled) → erased (f t) ≡ g (erased t)) → (s : Option Labelled) (x : Option Tree) →
    option_map erased s ≡ x → option_map erased (option_map f s) ≡ option_map g x
mapped_twice f g h None x e = ap (option_map g) e
mapped_twice f g h (Some t) x e = ap Some (h t) ∙ ap (option_map g) e

pub labels_erase : LabelsErase
labels_erase (var k w) at = refl
labels_erase (free k w) at = refl
labels_erase (lam t w) [] = refl
labels_erase (lam t w) (m ∷ at) =
    mapped_if (m == 0) (option_map (λ t. lam t w) (contracted t at)) None
    (option_map trees.lam (beta.contracted (erased t) at)) None
    (mapped_twice (λ t. lam t w) trees.lam (λ t. refl) (contracted t at)
    (beta.contracted (erased t) at) (labels_erase t at)) refl
labels_erase (app f c w) [] = erased_applied f c w
labels_erase (app f c w) (m ∷ at) =
    mapped_if (m == 1) (option_map (λ g. app g c w) (contracted f at))
    (if m == 2 then option_map (λ a. app f a w) (contracted c at) else None)
    (option_map (λ g. trees.app g (erased c)) (beta.contracted (erased f) at))
    (if m == 2 then option_map (trees.app (erased f)) (beta.contracted (erased c) at) else None)
    (mapped_twice (λ g. app g c w) (λ g. trees.app g (erased c)) (λ t. refl) (contracted f at)
    (beta.contracted (erased f) at) (labels_erase f at))
    (mapped_if (m == 2) (option_map (λ a. app f a w) (contracted c at)) None
    (option_map (trees.app (erased f)) (beta.contracted (erased c) at)) None
    (mapped_twice (λ a. app f a w) (trees.app (erased f)) (λ t. refl) (contracted c at)
    (beta.contracted (erased c) at) (labels_erase c at)) refl)
