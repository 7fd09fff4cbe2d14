-- The arguments of a line, and how many come after the first.
use Rattle.std.proofs.Common.{◌≡◌, ℕ, zero, suc, ◌+◌, ◌≤◌, List, [], ◌∷◌, ◌++◌, Option, Some, None, refl, sym, ap, ◌∙◌, subst, codes, arith}
use Rattle.std.specs.Prelude.{max}
use Rattle.std.proofs.Math.Nat.{le-max_left, le-max_right, max-le}
use Rattle.ol_term.specs.Trees as tree
use Rattle.ol_term.specs.Trees.{Tree, depth}
use Rattle.ol_term.specs.NameLists.{position_of}
use Rattle.ol_parse.specs.Grammar.{Named, var, lam, app, Token, name, open_bracket, close_bracket}
use Rattle.ol_parse.specs.Grammar.{IsTerm, term_body, term_spine, term_both, IsSpine, spine_one, spine_more, atom_name, atom_brackets}
use Rattle.ol_parse.specs.Texts.{class_of, token_of, gap_none, IsToken, token_word, spells_one, IsText, IsRefusedAt}
use Rattle.ol_parse.specs.Depth.{named_depth}
use Rattle.ol_parse.specs.Numbered.{numbered, names_of, number, var_at}
use Rattle.ol_parse.specs.Parsed.{IsFileOf, IsTooDeep}
use Rattle.ol_parse.proofs.Files.{same_depth}
use Rattle.ol_parse.proofs.Whole.{one_term}
use Rattle.ol_derivations.specs.Applied.{ToAtoms, one, more, ToArguments, atoms, body, both}
use Rattle.ol_derivations.specs.Applications.{named_with_function, arguments_of, HasArguments, IsFurther}
use Rattle.ol_derivations.proofs.Spelled.{clash, open_token, close_token, spaced, space, to_term}

-- ---- the arguments

abbrev named_arguments : Named → ℕ
named_arguments (app f a) = suc (named_arguments f)
named_arguments _ = 0

-- a name before the arguments has all of them
abbrev Counts : ℕ → Named → Type 0
Counts n t = (x : List ℕ) → named_arguments (named_with_function (var x) n t) ≡ suc n

abbrev Atoms : List Token → Named → Type 0
Atoms ks t = (n : ℕ) × ((f : Named) → ToAtoms f ks (named_with_function f n t)) × Counts n t

spine_atoms : {ks : List Token} {t : Named} → IsSpine ks t → Atoms ks t
spine_atoms (spine_one i) = (0, (λ f. one i), (λ x. refl))
spine_atoms (spine_more r i) = let h = spine_atoms r in
    (suc h.0, (λ f. more (h.1 f) i), (λ x. ap suc (h.2 x)))

abbrev Arguments : List Token → Named → Type 0
Arguments ks t = (n : ℕ) × ((f : Named) → ToArguments f ks (named_with_function f n t)) × Counts n t

arguments : {ks : List Token} {t : Named} → IsTerm ks t → Arguments ks t
arguments (term_body i) = (0, (λ f. body i), (λ x. refl))
arguments (term_spine r) = let h = spine_atoms r in (h.0, (λ f. atoms (h.1 f)), h.2)
arguments (term_both r i) = let h = spine_atoms r in
    (suc h.0, (λ f. both (h.1 f) i), (λ x. ap suc (h.2 x)))

pub record IsCounted (line : List ℕ) : Type 0 where
  pub n : ℕ
  pub parts : HasArguments line n
  pub counts : Counts n parts.term

counted : (line : List ℕ) (t : Named) → IsText line t → IsCounted line
counted line t i = let h = arguments i.term in record {
  n = h.0;
  parts = record { term = t; text = i; applied = h.1 };
  counts = h.2;
}

-- ---- the line behind a name

-- the name x
abbrev x_name : List ℕ
x_name = 120 ∷ []

x_token : IsToken (name x_name) x_name
unfolding class_of token_of
x_token = token_word refl tt

pub headed : (line : List ℕ) (n : ℕ) (h : HasArguments line n) →
    IsText (codes "(x) " ++ line) (named_with_function (var x_name) n h.term)
headed line n h = record {
  tokens = open_bracket ∷ (name x_name ∷ (close_bracket ∷ h.text.tokens));
  spelled = spells_one gap_none (λ e _. clash e) open_token (spells_one gap_none (λ e _. clash e) x_token
      (spells_one gap_none (λ _ e. clash e) close_token (spaced space h.text.spelled)));
  term = to_term (atom_brackets (term_spine (spine_one atom_name))) (h.applied (var x_name));
}

var_arguments : (o p : Option ℕ) → arguments_of (var_at o p) ≡ 0
var_arguments (Some k) p = refl
var_arguments None (Some k) = refl
var_arguments None None = refl

same_arguments : (t : Named) (names binders : List (List ℕ)) → arguments_of (numbered names binders t) ≡ named_arguments t
same_arguments (var x) names binders = var_arguments (position_of x binders) (position_of x names)
same_arguments (lam x t) names binders = refl
same_arguments (app f a) names binders = ap suc (same_arguments f names binders)

-- the tree of the line behind the name has all arguments
all_arguments : (line : List ℕ) (c : IsCounted line) (t : Tree) (names : List (List ℕ)) →
    IsFileOf (codes "(x) " ++ line) t names → arguments_of t ≡ suc c.n
all_arguments line c t names file =
    let whole = named_with_function (var x_name) c.n c.parts.term in
    ap arguments_of (file.tree ∙ ap number (one_term (codes "(x) " ++ line) file.named whole file.text (headed line c.n c.parts)))
    ∙ same_arguments whole (names_of whole) [] ∙ c.counts x_name

pub some_counted : (line text : List ℕ) (l : Named) (t : Tree) (names : List (List ℕ)) → IsText line l →
    text ≡ codes "(x) " ++ line → IsFileOf text t names →
    (n : ℕ) × (arguments_of t ≡ suc n) × HasArguments line n
some_counted line text l t names i e file =
    let c = counted line l i in
    (c.n, all_arguments line c t names (subst (λ (bytes : List ℕ). IsFileOf bytes t names) e file), c.parts)

-- ---- the depth

over : (a b c : ℕ) → a ≤ b → 1 + max a c ≤ 1 + max b c
over a b c h =
    let l = le-max_left b c in
    let r = le-max_right b c in
    let m = max-le {a = a} {b = c} {k = max b c} (omega (arith, h, l)) r in omega (arith, m)

positive : (f : Named) → 1 ≤ named_depth f
positive (var x) = omega arith
positive (lam x t) = omega arith
positive (app f t) = omega arith

pub deep_positive : (t : Tree) → 1 ≤ depth t
deep_positive (tree.var k) = omega arith
deep_positive (tree.free k) = omega arith
deep_positive (tree.lam t) = omega arith
deep_positive (tree.app f a) = omega arith

-- no function makes it less deep than a name
no_less : (f : Named) (n : ℕ) (t : Named) (x : List ℕ) →
    named_depth (named_with_function (var x) n t) ≤ named_depth (named_with_function f n t)
no_less f zero t x = over 1 (named_depth f) (named_depth t) (positive f)
no_less f (suc n) (app g a) x = over (named_depth (named_with_function (var x) n g))
    (named_depth (named_with_function f n g)) (named_depth a) (no_less f n g x)
no_less f (suc n) (var y) x = over 1 (named_depth f) 1 (positive f)
no_less f (suc n) (lam y t) x = over 1 (named_depth f) (named_depth (lam y t)) (positive f)

pub all_deep : (line text : List ℕ) (l : Named) (d : ℕ) → IsText line l → text ≡ codes "(x) " ++ line →
    IsTooDeep text d → IsFurther line None
all_deep line text l d i e deep =
    let c = counted line l i in
    let whole = named_with_function (var x_name) c.n c.parts.term in
    let same = one_term text deep.file.named whole deep.file.text
    (subst (λ (bytes : List ℕ). IsText bytes whole) (sym e) (headed line c.n c.parts)) in
    let its : depth deep.tree ≡ named_depth whole =
    ap depth (deep.file.tree ∙ ap number same) ∙ same_depth whole (names_of whole) [] in (
      c.n,
      c.parts,
      (λ f.
          let its_own = same_depth (named_with_function f c.n c.parts.term) (names_of (named_with_function f c.n c.parts.term)) [] in
          let less = no_less f c.n c.parts.term x_name in
          omega (arith, deep.is, deep.above, its, its_own, less)),
    )

pub not_refused : (line text : List ℕ) (l : Named) (at : ℕ) → IsText line l → text ≡ codes "(x) " ++ line →
    IsRefusedAt text at → ⊥
not_refused line text l at i e r =
    let c = counted line l i in
    r.0 (named_with_function (var x_name) c.n c.parts.term)
    (subst (λ (bytes : List ℕ). IsText bytes (named_with_function (var x_name) c.n c.parts.term)) (sym e)
    (headed line c.n c.parts))
