-- Arguments with a box of their own, and arguments that are a wire.
use Rattle.std.proofs.Common.{◌≡◌, ℕ, true, false, Some, None, if◌then◌else◌, refl, sym, ap, ◌∙◌, subst, arith, eq-eqb}
use Rattle.std.proofs.lemmas.Bool.Decides.{nat_tests}
use Rattle.ol_term.specs.declared.translations.Translation.{Translation}
use Rattle.ol_term.specs.declared.translations.Translation.TheVariants.{One, Two}
use Rattle.ol_term.specs.Trees.{Tree, var, free, lam, app}
use Rattle.ol_context.specs.Contexts.{Level, empty, star, pair, Context, cons}
use Rattle.ol_translate.specs.Translation.{bare_variable}
use Rattle.ol_law_meaning.specs.Spots.{Wire, bound, name, occurs, is_bare, boxed, IsRight, root, wire}
use Rattle.ol_law_meaning.specs.Spots.{at, Edge, var_wire, free_wire}

-- ---- level 0 of the argument's wires

pub packed_right : {τ : Translation} {N : Tree} (M : Tree) (y : Wire) (b v : Level) {a : Level} →
    is_bare τ N ≡ false → a ≡ (if occurs y M then star (pair b v) else pair b v) → IsRight τ M N y b v a
packed_right M y b v f e = record {
  level = λ t. absurd (let c : true ≡ false = sym t ∙ f in cc);
  is = e ∙ sym (ap (λ x. if occurs y M then star (boxed x b v) else boxed x b v) f);
}

pub right_packed : {τ : Translation} {N : Tree} (M : Tree) (y : Wire) (b v : Level) {a : Level} →
    is_bare τ N ≡ false → IsRight τ M N y b v a → a ≡ (if occurs y M then star (pair b v) else pair b v)
right_packed M y b v f r = r.is ∙ ap (λ x. if occurs y M then star (boxed x b v) else boxed x b v) f

pub bare_right : {τ : Translation} {N : Tree} (M : Tree) (y : Wire) (v : Level) {a : Level} →
    is_bare τ N ≡ true → a ≡ (if occurs y M then star v else v) → IsRight τ M N y empty v a
bare_right M y v t e = record {
  level = λ x. refl;
  is = e
      ∙ sym (ap (λ x. if occurs y M then star (boxed x empty v) else boxed x empty v) t);
}

pub right_bare : {τ : Translation} {N : Tree} (M : Tree) (y : Wire) (b v : Level) {a : Level} →
    is_bare τ N ≡ true → IsRight τ M N y b v a → a ≡ (if occurs y M then star v else v)
right_bare M y b v t r = r.is ∙ ap (λ x. if occurs y M then star (boxed x b v) else boxed x b v) t

-- of a function and an argument that are alike
pub right_like : {τ : Translation} {M N : Tree} {y : Wire} {b v a : Level} (M' N' : Tree)
    (y' : Wire) → occurs y' M' ≡ occurs y M → is_bare τ N' ≡ is_bare τ N → IsRight τ M N y b v a →
    IsRight τ M' N' y' b v a
right_like {τ} {M} {N} {y} {b} {v} M' N' y' e f r = record {
  level = λ t. r.level (sym f ∙ t);
  is = r.is ∙ ap (λ t. if t then star (boxed (is_bare τ N) b v) else boxed (is_bare τ N) b v)
      (sym e) ∙ ap (λ x. if occurs y' M' then star (boxed x b v) else boxed x b v) (sym f);
}

-- ---- which arguments have none

pub is_wire : (τ : Translation) (d x : ℕ) (N : Tree) → bare_variable τ d N ≡ Some x → is_bare τ N ≡ true
is_wire One d x N e = absurd (cc)
is_wire Two d x (var v) e = refl
is_wire Two d x (free f) e = refl
is_wire Two d x (lam t) e = absurd (cc)
is_wire Two d x (app t u) e = absurd (cc)

pub has_box : (τ : Translation) (d : ℕ) (N : Tree) → bare_variable τ d N ≡ None → is_bare τ N ≡ false
has_box One d N e = refl
has_box Two d (var v) e = absurd (cc)
has_box Two d (free f) e = absurd (cc)
has_box Two d (lam t) e = refl
has_box Two d (app t u) e = refl

pub no_lam : (τ : Translation) (d x : ℕ) (t : Tree) → bare_variable τ d (lam t) ≡ Some x → ⊥
no_lam One d x t e = absurd (cc)
no_lam Two d x t e = absurd (cc)

pub no_app : (τ : Translation) (d x : ℕ) (t u : Tree) → bare_variable τ d (app t u) ≡ Some x → ⊥
no_app One d x t u e = absurd (cc)
no_app Two d x t u e = absurd (cc)

-- its root is joined to its one wire
var_edge : (τ : Translation) (x : ℕ) (y : Wire) (v : Level) (c : Context) →
    occurs y (var x) ≡ true → Edge τ (var x) (at root v c) (at (wire y) empty (cons v c)) 0
var_edge τ x (bound y) v c o =
    let same : x ≡ y = grind (arith, nat_tests, o) in
    subst (λ y. Edge τ (var x) (at root v c) (at (wire (bound y)) empty (cons v c)) 0) same (var_wire refl)
var_edge τ x (name f) v c o = absurd (cc)

name_edge : (τ : Translation) (x : ℕ) (y : Wire) (v : Level) (c : Context) →
    occurs y (free x) ≡ true → Edge τ (free x) (at root v c) (at (wire y) empty (cons v c)) 0
name_edge τ x (bound y) v c o = absurd (cc)
name_edge τ x (name f) v c o =
    let same : x ≡ f = grind (arith, nat_tests, o) in
    subst (λ f. Edge τ (free x) (at root v c) (at (wire (name f)) empty (cons v c)) 0) same (free_wire refl)

pub wire_edge : (τ : Translation) (d x : ℕ) (N : Tree) (y : Wire) (v : Level) (c : Context) →
    bare_variable τ d N ≡ Some x → occurs y N ≡ true → Edge τ N (at root v c) (at (wire y) empty (cons v c)) 0
wire_edge One d x N y v c e o = absurd (cc)
wire_edge Two d x (var u) y v c e o = var_edge Two u y v c o
wire_edge Two d x (free f) y v c e o = name_edge Two f y v c o
wire_edge Two d x (lam t) y v c e o = absurd (cc)
wire_edge Two d x (app t u) y v c e o = absurd (cc)

-- and it has one
pub has_one : (τ : Translation) (d x : ℕ) (N : Tree) → bare_variable τ d N ≡ Some x → (y : Wire) × (occurs y N ≡ true)
has_one One d x N e = absurd (cc)
has_one Two d x (var u) e = (bound u, eq-eqb u u refl)
has_one Two d x (free f) e = (name f, eq-eqb f f refl)
has_one Two d x (lam t) e = absurd (cc)
has_one Two d x (app t u) e = absurd (cc)
