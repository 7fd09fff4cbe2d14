-- The code's steps are labelled steps.
use Rattle.std.proofs.Common.{◌≡◌, ℕ, ◌+◌, ◌-◌, ◌==◌, nat_lt, if◌then◌else◌, Bool, true, false, List, [], ◌∷◌, ◌++◌}
use Rattle.std.proofs.Common.{Option, Some, None, refl, ap, ◌∙◌}
use Rattle.std.specs.Prelude.{slice_index_or}
use Rattle.std.specs.Option.{option_map}
use Rattle.ol_law_optimality.specs.Labels.{Label, none, over, under, joined, Labelled, erased}
use Rattle.ol_law_optimality.specs.Labels as labels
use Rattle.ol_term.specs.Trees as trees
use Rattle.ol_families.specs.declared.degrees.Letter.{Letter}
use Rattle.ol_families.specs.declared.degrees.Letter.TheVariants.{Over, Under}
use Rattle.ol_families.specs.Held.{Held, var, free, lam, app, bare, before, shifted, substituted, applied, contracted}
use Rattle.ol_families.specs.Held.{degree, degree_of_abstraction}
use Rattle.ol_families.specs.Tables.{label_of, labelled}
use Rattle.ol_families.proofs.Rows.{label_append}

pub bare_is : (ls : List Label) (t : Held) → erased (labelled ls t) ≡ bare t
bare_is ls (var k w) = refl
bare_is ls (free k w) = refl
bare_is ls (lam b w) = ap trees.lam (bare_is ls b)
bare_is ls (app f a w) =
    ap (λ x. trees.app x (erased (labelled ls a))) (bare_is ls f) ∙ ap (trees.app (bare f)) (bare_is ls a)

module _ (ls : List Label) where
  abbrev L : Held → Labelled
  L t = labelled ls t

  abbrev W : List Letter → Label
  W r = label_of ls r

  both : (f g a b : Labelled) (w : Label) → f ≡ g → a ≡ b → labels.app f a w ≡ labels.app g b w
  both f g a b w e d = ap (λ f. labels.app f a w) e ∙ ap (λ a. labels.app g a w) d

  named_before : (v : List Letter) (t : Held) → L (before v t) ≡ labels.before (W v) (L t)
  named_before v (var k w) = ap (labels.var k) (label_append ls v w)
  named_before v (free k w) = ap (labels.free k) (label_append ls v w)
  named_before v (lam b w) = ap (labels.lam (L b)) (label_append ls v w)
  named_before v (app f a w) = ap (labels.app (L f) (L a)) (label_append ls v w)

  named_shifted : (n d : ℕ) (t : Held) → L (shifted n d t) ≡ labels.shifted n d (L t)
  named_shifted n d (var k w) = refl
  named_shifted n d (free k w) = refl
  named_shifted n d (lam b w) = ap (λ b. labels.lam b (W w)) (named_shifted n (d + 1) b)
  named_shifted n d (app f a w) = both _ _ _ _ (W w) (named_shifted n d f) (named_shifted n d a)

  named_if : (b : Bool) (t u : Held) (x y : Labelled) → L t ≡ x → L u ≡ y →
      L (if b then t else u) ≡ (if b then x else y)
  named_if true t u x y e d = e
  named_if false t u x y e d = d

  named_substituted : (c : Held) (d : ℕ) (t : Held) → L (substituted c d t) ≡ labels.substituted (L c) d (L t)
  named_substituted c d (var k w) =
      named_if (nat_lt k d) (var k w) (if k == d then before w (shifted d 0 c) else var (k - 1) w) (labels.var k (W w))
      (if k == d then labels.before (W w) (labels.shifted d 0 (L c)) else labels.var (k - 1) (W w)) refl
      (named_if (k == d) (before w (shifted d 0 c)) (var (k - 1) w) (labels.before (W w) (labels.shifted d 0 (L c)))
      (labels.var (k - 1) (W w)) (named_before w (shifted d 0 c) ∙ ap (labels.before (W w)) (named_shifted d 0 c)) refl)
  named_substituted c d (free k w) = refl
  named_substituted c d (lam b w) = ap (λ b. labels.lam b (W w)) (named_substituted c (d + 1) b)
  named_substituted c d (app f a w) = both _ _ _ _ (W w) (named_substituted c d f) (named_substituted c d a)

  module _ (n : ℕ) where
    -- number n is that of the degree, where there is one
    abbrev IsNumberOf : Option (List Letter) → Type 0
    IsNumberOf o = (r : List Letter) → o ≡ Some r → slice_index_or ls n none ≡ label_of ls r

    named_applied : (f c : Held) (w : List Letter) → IsNumberOf (degree_of_abstraction f) →
        option_map (λ t. labelled ls t) (applied n f c w) ≡ labels.applied (L f) (L c) (W w)
    named_applied (var k v) c w h = refl
    named_applied (free k v) c w h = refl
    named_applied (lam b v) c w h =
        let e : slice_index_or ls n none ≡ W v = h v refl in
        let i : L (substituted (before (Under n ∷ []) c) 0 b)
        ≡ labels.substituted (labels.before (under (W v) none) (L c)) 0 (L b) =
        named_substituted (before (Under n ∷ []) c) 0 b
        ∙ ap (λ c. labels.substituted c 0 (L b)) (named_before (Under n ∷ []) c
        ∙ ap (λ u. labels.before (under u none) (L c)) e) in
        let o : W (w ++ Over n ∷ []) ≡ joined (W w) (over (W v) none) =
        label_append ls w (Over n ∷ []) ∙ ap (λ u. joined (W w) (over u none)) e in
        ap Some (named_before (w ++ Over n ∷ []) (substituted (before (Under n ∷ []) c) 0 b)
        ∙ ap (λ v. labels.before v (L (substituted (before (Under n ∷ []) c) 0 b))) o
        ∙ ap (labels.before (joined (W w) (over (W v) none))) i)
    named_applied (app f a v) c w h = refl

    mapped_if : (b : Bool) (s t : Option Held) (x y : Option Labelled) →
        (b ≡ true → option_map (λ t. labelled ls t) s ≡ x) → (b ≡ false → option_map (λ t. labelled ls t) t ≡ y) →
        option_map (λ t. labelled ls t) (if b then s else t) ≡ (if b then x else y)
    mapped_if true s t x y e d = e refl
    mapped_if false s t x y e d = d refl

    mapped_twice : (f : Held → Held) (g : Labelled → Labelled) → ((t : Held) → L (f t) ≡ g (L t)) → (s : Option Held)
        (x : Option Labelled) → option_map (λ t. labelled ls t) s ≡ x →
        option_map (λ t. labelled ls t) (option_map f s) ≡ option_map g x
    mapped_twice f g h None x e = ap (option_map g) e
    mapped_twice f g h (Some t) x e = ap Some (h t) ∙ ap (option_map g) e

    number_then : (b : Bool) (x y : Option (List Letter)) → b ≡ true → IsNumberOf (if b then x else y) → IsNumberOf x
    number_then true x y e h = h
    number_then false x y e h = absurd (clash e)
      where
        clash : false ≡ true → ⊥
        clash e = cc

    number_else : (b : Bool) (x y : Option (List Letter)) → b ≡ false → IsNumberOf (if b then x else y) → IsNumberOf y
    number_else true x y e h = absurd (clash e)
      where
        clash : true ≡ false → ⊥
        clash e = cc
    number_else false x y e h = h

    pub named_contracted : (t : Held) (at : List ℕ) → IsNumberOf (degree t at) →
        option_map (λ t. labelled ls t) (contracted n t at) ≡ labels.contracted (labelled ls t) at
    named_contracted (var k w) at h = refl
    named_contracted (free k w) at h = refl
    named_contracted (lam b w) [] h = refl
    named_contracted (lam b w) (m ∷ at) h =
        mapped_if (m == 0) (option_map (λ b. lam b w) (contracted n b at)) None
        (option_map (λ b. labels.lam b (W w)) (labels.contracted (L b) at)) None
        (λ e. mapped_twice (λ b. lam b w) (λ b. labels.lam b (W w)) (λ b. refl) (contracted n b at)
        (labels.contracted (L b) at)
        (named_contracted b at (number_then (m == 0) (degree b at) None e h))) (λ e. refl)
    named_contracted (app f c w) [] h = named_applied f c w h
    named_contracted (app f c w) (m ∷ at) h =
        mapped_if (m == 1) (option_map (λ g. app g c w) (contracted n f at))
        (if m == 2 then option_map (λ a. app f a w) (contracted n c at) else None)
        (option_map (λ g. labels.app g (L c) (W w)) (labels.contracted (L f) at))
        (if m == 2 then option_map (λ a. labels.app (L f) a (W w)) (labels.contracted (L c) at) else None)
        (λ e. mapped_twice (λ g. app g c w) (λ g. labels.app g (L c) (W w)) (λ g. refl) (contracted n f at)
        (labels.contracted (L f) at)
        (named_contracted f at (number_then (m == 1) (degree f at) (if m == 2 then degree c at else None) e h)))
        (λ d. mapped_if (m == 2) (option_map (λ a. app f a w) (contracted n c at)) None
        (option_map (λ a. labels.app (L f) a (W w)) (labels.contracted (L c) at)) None
        (λ e. mapped_twice (λ a. app f a w) (λ a. labels.app (L f) a (W w)) (λ a. refl) (contracted n c at)
        (labels.contracted (L c) at)
        (named_contracted c at (number_then (m == 2) (degree c at) None e
        (number_else (m == 1) (degree f at) (if m == 2 then degree c at else None) d h)))) (λ e. refl))

  pick : (b : Bool) (r s : Option (List Letter)) (x y : Option Label) → option_map (λ r. label_of ls r) r ≡ x →
      option_map (λ r. label_of ls r) s ≡ y → option_map (λ r. label_of ls r) (if b then r else s) ≡ (if b then x else y)
  pick true r s x y e d = e
  pick false r s x y e d = d

  named_abstraction : (f : Held) →
      option_map (λ r. label_of ls r) (degree_of_abstraction f) ≡ labels.degree_of_abstraction (labelled ls f)
  named_abstraction (var k w) = refl
  named_abstraction (free k w) = refl
  named_abstraction (lam b w) = refl
  named_abstraction (app f a w) = refl

  pub named_degree : (t : Held) (at : List ℕ) →
      option_map (λ r. label_of ls r) (degree t at) ≡ labels.degree (labelled ls t) at
  named_degree (var k w) at = refl
  named_degree (free k w) at = refl
  named_degree (lam b w) [] = refl
  named_degree (lam b w) (m ∷ at) =
      pick (m == 0) (degree b at) None (labels.degree (L b) at) None (named_degree b at) refl
  named_degree (app f c w) [] = named_abstraction f
  named_degree (app f c w) (m ∷ at) =
      pick (m == 1) (degree f at) (if m == 2 then degree c at else None) (labels.degree (L f) at)
      (if m == 2 then labels.degree (L c) at else None) (named_degree f at)
      (pick (m == 2) (degree c at) None (labels.degree (L c) at) None (named_degree c at) refl)
