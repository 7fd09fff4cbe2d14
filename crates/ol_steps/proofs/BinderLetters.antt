-- The letters of a tree's binders stand for the places of the tree.
use Rattle.std.proofs.Common.{◌≡◌, ℕ, zero, suc, ◌+◌, ◌-◌, ◌<◌, ◌^◌, Bool, true, List, [], length}
use Rattle.std.proofs.Common.{Option, Some, None, cond, refl, sym, ap, ◌∙◌, arith}
use Rattle.std.specs.Prelude.{slice_get, slice_index_or}
use Rattle.std.specs.List.{position_from}
use Rattle.std.specs.Str.{bytes_eq}
use Rattle.std.proofs.lemmas.Bool.{and_parts, ltb-true}
use Rattle.std.proofs.lemmas.Slice.Eq.{bytes_eq-Decides}
use Rattle.ol_term.specs.Trees as tree
use Rattle.ol_term.specs.Trees.{Tree, depth, is_below, is_named_below}
use Rattle.ol_term.specs.NameLists.{NoNameTwice, position_of, free_at}
use Rattle.ol_term.specs.BinderNames.{binder_name}
use Rattle.ol_term.proofs.Binders.{binder_is_not_free, binders_differ}
use Rattle.ol_term.proofs.BinderTexts.{not_same}
use Rattle.ol_parse.specs.Numbered.{numbered, var_at}
use Rattle.ol_steps.specs.Lettered.{lettered}
use Rattle.ol_steps.specs.BinderLaws.{LettersAreRead}
use Rattle.ol_steps.proofs.Catching.{some_there, free_place}
use Rattle.ol_readback.proofs.Renumbered.{scope}

abbrev is : List ℕ → List ℕ → Bool
is x = λ y. bytes_eq x y

module _ (names : List (List ℕ)) (few : length names < 2 ^ 32) (once : NoNameTwice names) where
  -- binder x of t
  bound_at : (t x k i : ℕ) → t < 2 ^ 64 → k + suc x ≡ t →
      position_from (is (binder_name names x)) i (scope names t) ≡ Some (i + k)
  bound_at zero x k i l e = absurd (omega (arith, e))
  bound_at (suc t) x zero i l e =
      let same : t ≡ x = omega (arith, e) in
      let n : i ≡ i + 0 = omega arith in
      ap (λ (b : Bool). cond {A = Option ℕ} b (Some i)
      (position_from (is (binder_name names x)) (i + 1) (scope names t)))
      (ap (λ (t : ℕ). bytes_eq (binder_name names x) (binder_name names t)) same
      ∙ (bytes_eq-Decides (binder_name names x) (binder_name names x)).1 refl)
      ∙ ap (λ (n : ℕ). Some n) n
  bound_at (suc t) x (suc k) i l e =
      let n : i + 1 + k ≡ i + suc k = omega arith in
      ap (λ (b : Bool). cond {A = Option ℕ} b (Some i) (position_from (is (binder_name names x)) (i + 1) (scope names t)))
      (not_same (binder_name names x) (binder_name names t)
      (binders_differ names x t few (omega (arith, l, e)) (omega (arith, l)) (λ s. absurd (omega (arith, s, e)))))
      ∙ bound_at t x k (i + 1) (omega (arith, l)) (omega (arith, e)) ∙ ap (λ (n : ℕ). Some n) n

  -- a free name is no binder
  free_none : (x : List ℕ) (k : ℕ) → slice_get names k ≡ Some x → (t i : ℕ) → t < 2 ^ 64 →
      position_from (is x) i (scope names t) ≡ None
  free_none x k e zero i l = refl
  free_none x k e (suc t) i l =
      ap (λ (b : Bool). cond {A = Option ℕ} b (Some i) (position_from (is x) (i + 1) (scope names t)))
      (not_same x (binder_name names t) (λ s.
      binder_is_not_free names t few (omega (arith, l)) k (e ∙ ap (λ (x : List ℕ). Some x) s)))
      ∙ free_none x k e t (i + 1) (omega (arith, l))

  read : (t : ℕ) (u : Tree) → t + depth u < 2 ^ 64 → is_below t u ≡ true → is_named_below (length names) u ≡ true →
      numbered names (scope names t) (lettered names t u) ≡ u
  read t (tree.var k) short below named =
      let l = ltb-true k t below in
      let x = t - (k + 1) in
      let n : 0 + k ≡ k = omega arith in
      ap (λ (o : Option ℕ). var_at o (position_of (binder_name names x) names))
      (bound_at t x k 0 (omega (arith, short)) (omega (arith, l)) ∙ ap (λ (n : ℕ). Some n) n)
  read t (tree.free k) short below named =
      let l = ltb-true k (length names) named in
      let x = slice_index_or names k [] in
      ap (λ (o : Option ℕ). var_at o (position_of x names)) (free_none x k (some_there names k l) t 0 (omega (arith, short)))
      ∙ ap free_at (free_place names k once l)
  read t (tree.lam u) short below named =
      let e : t + 1 ≡ suc t = omega arith in
      ap (λ (m : ℕ). tree.lam (numbered names (scope names (suc t)) (lettered names m u))) e
      ∙ ap tree.lam (read (suc t) u (omega (arith, short)) (ap (λ (m : ℕ). is_below m u) (sym e) ∙ below) named)
  read t (tree.app f a) short below named =
      let b = and_parts (is_below t f) (is_below t a) below in
      let n = and_parts (is_named_below (length names) f) (is_named_below (length names) a) named in
      ap (λ (g : Tree). tree.app g (numbered names (scope names t) (lettered names t a)))
      (read t f (omega (arith, short)) b.0 n.0)
      ∙ ap (tree.app f) (read t a (omega (arith, short)) b.1 n.1)

pub letters_are_read : LettersAreRead
letters_are_read names t once few short below named =
    read names few once 0 t (omega (arith, short)) below named
