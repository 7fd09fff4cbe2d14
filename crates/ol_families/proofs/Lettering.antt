-- How many letters labels have after a step.
use Rattle.std.proofs.Common.{◌≡◌, ℕ, ◌+◌, ◌*◌, ◌≤◌, ◌==◌, if◌then◌else◌, Bool, true, false, List, []}
use Rattle.std.proofs.Common.{◌∷◌, ◌++◌, length, length-append, Option, Some, None, refl, sym, ap, ◌∙◌, subst, arith}
use Rattle.std.specs.Option.{option_map}
use Rattle.std.proofs.Math.Nat.{add-mul, mul-le-mul}
use Rattle.ol_term.specs.Trees.{Tree, term_size}
use Rattle.ol_term.specs.Trees as trees
use Rattle.ol_beta.specs.Measures.{places_of}
use Rattle.ol_beta.proofs.Places.{places_small}
use Rattle.ol_law_optimality.specs.Labels.{Label}
use Rattle.ol_families.specs.Letters.{letters_in}
use Rattle.ol_families.specs.declared.degrees.Letter.{Letter}
use Rattle.ol_families.specs.declared.degrees.Letter.TheVariants.{Over, Under}
use Rattle.ol_families.specs.Held.{Held, var, free, lam, app, bare, before, shifted, substituted, applied, contracted}
use Rattle.ol_families.specs.Held.{held_letters, lettered}
use Rattle.ol_families.specs.Steps.{AreLetters}
use Rattle.ol_families.specs.Tables.{labelled}
use Rattle.ol_families.proofs.Rows.{label_letters, same_some}

pub letters_are : (ls : List Label) (t : Held) → letters_in (labelled ls t) ≡ held_letters t
letters_are ls (var k w) = label_letters ls w
letters_are ls (free k w) = label_letters ls w
letters_are ls (lam b w) = let e = label_letters ls w in let d = letters_are ls b in omega arith
letters_are ls (app f a w) =
    let e = label_letters ls w in let d = letters_are ls f in let c = letters_are ls a in omega arith

letters_before : (v : List Letter) (t : Held) → held_letters (before v t) ≡ length v + held_letters t
letters_before v (var k w) = length-append v w
letters_before v (free k w) = length-append v w
letters_before v (lam b w) = let e = length-append v w in omega arith
letters_before v (app f a w) = let e = length-append v w in omega arith

letters_shifted : (n d : ℕ) (t : Held) → held_letters (shifted n d t) ≡ held_letters t
letters_shifted n d (var k w) = refl
letters_shifted n d (free k w) = refl
letters_shifted n d (lam b w) = let e = letters_shifted n (d + 1) b in omega arith
letters_shifted n d (app f a w) = let e = letters_shifted n d f in let c = letters_shifted n d a in omega arith

pub letters_substituted : (c : Held) (d : ℕ) (t : Held) →
    held_letters (substituted c d t) ≡ held_letters t + places_of d (bare t) * held_letters c
letters_substituted c d (var k w) =
    let e = letters_before w (shifted d 0 c) in let s = letters_shifted d 0 c in grind arith
letters_substituted c d (free k w) = omega arith
letters_substituted c d (lam b w) = let e = letters_substituted c (d + 1) b in omega arith
letters_substituted c d (app f a w) =
    let e = letters_substituted c d f in
    let g = letters_substituted c d a in
    let h = add-mul (places_of d (bare f)) (places_of d (bare a)) (held_letters c) in omega arith

-- those of what a step at the root makes
pub letters_applied : (n : ℕ) (b c : Held) (v w : List Letter) (t : Held) → applied n (lam b v) c w ≡ Some t →
    held_letters t ≡ length w + 1 + held_letters b + places_of 0 (bare b) * (held_letters c + 1)
letters_applied n b c v w t e =
    let s = letters_substituted (before (Under n ∷ []) c) 0 b in
    let d = letters_before (w ++ Over n ∷ []) (substituted (before (Under n ∷ []) c) 0 b) in
    let l = length-append w (Over n ∷ []) in
    let q : held_letters (before (Under n ∷ []) c) ≡ held_letters c + 1 =
    (let z = letters_before (Under n ∷ []) c in omega arith) in
    let m : places_of 0 (bare b) * held_letters (before (Under n ∷ []) c)
    ≡ places_of 0 (bare b) * (held_letters c + 1) = ap (λ (k : ℕ). places_of 0 (bare b) * k) q in
    let i : held_letters t ≡ held_letters (before (w ++ Over n ∷ []) (substituted (before (Under n ∷ []) c) 0 b)) =
    ap held_letters (same_some (sym e)) in
    omega arith

-- the number of the degree plays no part in it
module _ (n m : ℕ) where
  abbrev pub Alike : Option Held → Option Held → Type 0
  Alike None None = Unit {0}
  Alike None (Some u) = ⊥
  Alike (Some t) None = ⊥
  Alike (Some t) (Some u) = held_letters t ≡ held_letters u

  alike_if : (b : Bool) (s t x y : Option Held) → Alike s x → Alike t y → Alike (if b then s else t) (if b then x else y)
  alike_if true s t x y g h = g
  alike_if false s t x y g h = h

  alike_map : (f : Held → Held) → ((t u : Held) → held_letters t ≡ held_letters u →
      held_letters (f t) ≡ held_letters (f u)) → (s t : Option Held) → Alike s t → Alike (option_map f s) (option_map f t)
  alike_map f h None None g = tt
  alike_map f h None (Some u) g = g
  alike_map f h (Some t) None g = g
  alike_map f h (Some t) (Some u) g = h t u g

  alike_applied : (f c : Held) (w : List Letter) → Alike (applied n f c w) (applied m f c w)
  alike_applied (var k v) c w = tt
  alike_applied (free k v) c w = tt
  alike_applied (lam b v) c w =
      letters_applied n b c v w (before (w ++ Over n ∷ []) (substituted (before (Under n ∷ []) c) 0 b)) refl
      ∙ sym (letters_applied m b c v w (before (w ++ Over m ∷ []) (substituted (before (Under m ∷ []) c) 0 b)) refl)
  alike_applied (app f a v) c w = tt

  pub alike_contracted : (t : Held) (at : List ℕ) → Alike (contracted n t at) (contracted m t at)
  alike_contracted (var k w) at = tt
  alike_contracted (free k w) at = tt
  alike_contracted (lam b w) [] = tt
  alike_contracted (lam b w) (i ∷ at) =
      alike_if (i == 0) (option_map (λ b. lam b w) (contracted n b at)) None
      (option_map (λ b. lam b w) (contracted m b at)) None
      (alike_map (λ b. lam b w) (λ t u e. omega arith) (contracted n b at) (contracted m b at)
      (alike_contracted b at)) tt
  alike_contracted (app f c w) [] = alike_applied f c w
  alike_contracted (app f c w) (i ∷ at) =
      alike_if (i == 1) (option_map (λ g. app g c w) (contracted n f at))
      (if i == 2 then option_map (λ a. app f a w) (contracted n c at) else None)
      (option_map (λ g. app g c w) (contracted m f at))
      (if i == 2 then option_map (λ a. app f a w) (contracted m c at) else None)
      (alike_map (λ g. app g c w) (λ t u e. omega arith) (contracted n f at) (contracted m f at)
      (alike_contracted f at))
      (alike_if (i == 2) (option_map (λ a. app f a w) (contracted n c at)) None
      (option_map (λ a. app f a w) (contracted m c at)) None
      (alike_map (λ a. app f a w) (λ t u e. omega arith) (contracted n c at) (contracted m c at)
      (alike_contracted c at)) tt)

  pub same_letters : (t : Held) (at : List ℕ) (u : Held) (k : ℕ) → contracted n t at ≡ Some u →
      AreLetters (contracted m t at) k → k ≡ held_letters u
  same_letters t at u k e a = by (contracted n t at) (contracted m t at) e (alike_contracted t at) a
    where
      by : (x y : Option Held) → x ≡ Some u → Alike x y → AreLetters y k → k ≡ held_letters u
      by None y e l a = absurd (clash e)
        where
          clash : None ≡ Some u → ⊥
          clash e = cc
      by (Some t) None e l a = absurd l
      by (Some t) (Some v) e l a = a ∙ sym l ∙ ap held_letters (same_some e)

pub letters_lettered : (n : ℕ) (t : Tree) → held_letters (lettered n t) ≡ term_size t
letters_lettered n (trees.var k) = refl
letters_lettered n (trees.free k) = refl
letters_lettered n (trees.lam b) = let e = letters_lettered (n + 1) b in omega arith
letters_lettered n (trees.app f a) =
    let e = letters_lettered (n + 1) f in let d = letters_lettered (n + 1 + term_size f) a in omega arith

-- a step adds no more than this, by the bounds of a term
pub small_product : (p l : ℕ) → p ≤ 100000 → l ≤ 10000000 → p * (l + 1) ≤ 1000000100000
small_product p l a b =
    let c : l + 1 ≤ 10000001 = omega arith in
    let d : p * (l + 1) ≤ 100000 * 10000001 = mul-le-mul a c in omega arith

-- the term of a redex, as the code takes it apart
module _ (t f a b : Held) (w v : List Letter) (e : t ≡ app f a w) (d : f ≡ lam b v) (n l p : ℕ) where
  pub letters_here : n ≡ held_letters b → l ≡ held_letters a → p ≡ places_of 0 (bare b) →
      AreLetters (contracted 0 t []) (length w + 1 + n + p * (l + 1))
  letters_here x y z =
      let g : t ≡ app (lam b v) a w = e ∙ ap (λ f. app f a w) d in
      subst (λ (t : Held). AreLetters (contracted 0 t []) (length w + 1 + n + p * (l + 1))) (sym g)
      (ap (λ (n : ℕ). length w + 1 + n + p * (l + 1)) x ∙ ap (λ (l : ℕ). length w + 1 + held_letters b + p * (l + 1)) y
      ∙ ap (λ (p : ℕ). length w + 1 + held_letters b + p * (held_letters a + 1)) z
      ∙ sym (letters_applied 0 b a v w (before (w ++ Over 0 ∷ []) (substituted (before (Under 0 ∷ []) a) 0 b)) refl))

  pub product_here : held_letters t ≤ 10000000 → term_size (bare t) ≤ 100000 → l ≡ held_letters a →
      p ≡ places_of 0 (bare b) → p * (l + 1) ≤ 1000000100000
  product_here h s y z =
      let g : t ≡ app (lam b v) a w = e ∙ ap (λ f. app f a w) d in
      let x = ap held_letters g in
      let q = ap (λ (t : Held). term_size (bare t)) g in
      let j = places_small 0 (bare b) in
      small_product p l (omega arith) (omega arith)

  pub sum_here : held_letters t ≤ 10000000 → n ≡ held_letters b → length w + n ≤ held_letters t
  sum_here h x = let g : t ≡ app (lam b v) a w = e ∙ ap (λ f. app f a w) d in let q = ap held_letters g in omega arith
