-- The lets that are left at the front after a contraction.
use Rattle.std.proofs.Common.{◌≡◌, ℕ, zero, suc, ◌+◌, ◌-◌, inl, inr, Bool, true, false, ◌&&◌, List, [], ◌∷◌, length, Some}
use Rattle.std.proofs.Common.{refl, sym, ap, ◌∙◌, subst, arith, eqb-true, eq-eqb}
use Rattle.std.specs.Prelude.{◌==◌, IsSome}
use Rattle.std.proofs.lemmas.Bool.{and_parts}
use Rattle.ol_term.specs.Trees as tree
use Rattle.ol_term.specs.Trees.{Tree}
use Rattle.ol_parse.specs.Grammar as named
use Rattle.ol_parse.specs.Grammar.{Named, Token, IsTerm, term_body, term_spine, term_both, IsBody, body_lambda, body_let}
use Rattle.ol_parse.specs.Numbered.{names_of, numbered}
use Rattle.ol_beta.specs.Beta as beta
use Rattle.ol_steps.specs.Binders.{Binders, leaf, lam, app, Fits}
use Rattle.ol_steps.specs.Contraction.{put_in, contracted}
use Rattle.ol_steps.specs.Fronts.{lets_of_term, lets_of_body}
use Rattle.ol_steps.specs.Lets.{let_names, is_let_at}
use Rattle.ol_steps.specs.LetLaws.{redex_binder, IsAmongOthers, TextHasLets, LetGoes, LetsStay}
use Rattle.ol_beta.proofs.Redexes.{body_move, side_move}

clash : false ≡ true → ⊥
clash e = absurd (cc)

-- ---- binders that begin with lets

-- one let, and so many behind it
data BeginsWith (n : ℕ) : Tree → Binders → Type 0 where
  one : {t a : Tree} {x : List ℕ} {s r : Binders} → Fits t s → Fits a r → length (let_names n s) ≡ n →
      BeginsWith n (tree.app (tree.lam t) a) (app (lam x s) r)

same_suc : (n m : ℕ) → suc n ≡ suc m → n ≡ m
same_suc n m e = omega (arith, e)

no_length : (n : ℕ) → 0 ≡ suc n → ⊥
no_length n e = absurd (omega (arith, e))

begins : (n : ℕ) (t : Tree) (s : Binders) → Fits t s → length (let_names (suc n) s) ≡ suc n → BeginsWith n t s
begins n t leaf h e = absurd (no_length n e)
begins n t (lam x s) h e = absurd (no_length n e)
begins n t (app leaf r) h e = absurd (no_length n e)
begins n t (app (app p q) r) h e = absurd (no_length n e)
begins n (tree.var k) (app (lam x s) r) h e = absurd h
begins n (tree.free k) (app (lam x s) r) h e = absurd h
begins n (tree.lam t) (app (lam x s) r) h e = absurd h
begins n (tree.app (tree.var k) a) (app (lam x s) r) h e = absurd h.0
begins n (tree.app (tree.free k) a) (app (lam x s) r) h e = absurd h.0
begins n (tree.app (tree.lam t) a) (app (lam x s) r) h e = one h.0 h.1 (same_suc (length (let_names n s)) n e)
begins n (tree.app (tree.app f g) a) (app (lam x s) r) h e = absurd h.0

-- what is put in behind lets leaves their names
names_put : (n : ℕ) (c : Binders) (d : ℕ) (t : Tree) (s : Binders) → Fits t s → length (let_names n s) ≡ n →
    let_names n (put_in c d t s) ≡ let_names n s
names_put zero c d t s h e = refl
names_put (suc n) c d t s h e = go (begins n t s h e) (λ u r f i. names_put n c (d + 1) u r f i)
  where
    go : {t : Tree} {s : Binders} → BeginsWith n t s →
        ((u : Tree) (r : Binders) → Fits u r → length (let_names n r) ≡ n →
        let_names n (put_in c (d + 1) u r) ≡ let_names n r) →
        let_names (suc n) (put_in c d t s) ≡ let_names (suc n) s
    go (one {t = u} {x = x} {s = r} f g i) each = ap (λ (xs : List (List ℕ)). x ∷ xs) (each u r f i)

-- ---- contraction

-- a let further in is one of all
one_further : (y x : List ℕ) (names others : List (List ℕ)) → IsAmongOthers x names others →
    IsAmongOthers x (y ∷ names) (y ∷ others)
one_further y x names others h = record {
  before = y ∷ h.before;
  after = h.after;
  names_are = ap (λ (xs : List (List ℕ)). y ∷ xs) h.names_are;
  others_are = ap (λ (xs : List (List ℕ)). y ∷ xs) h.others_are;
}

-- what a let leaves
abbrev Goes : ℕ → Tree → Binders → List ℕ → Type 0
Goes n t s at = (x : List ℕ) × (redex_binder s at ≡ Some x)
    × IsAmongOthers x (let_names n s) (let_names (n - 1) (contracted t s at))

outermost_goes : (n : ℕ) (t a : Tree) (x : List ℕ) (s r : Binders) → Fits t s → length (let_names n s) ≡ n →
    Goes (suc n) (tree.app (tree.lam t) a) (app (lam x s) r) []
outermost_goes n t a x s r h e =
    let less : suc n - 1 ≡ n = omega arith in (
      x,
      refl,
      record {
        before = [];
        after = let_names n s;
        names_are = refl;
        others_are = ap (λ (m : ℕ). let_names m (put_in r 0 t s)) less ∙ names_put n r 0 t s h e;
      },
    )

-- the names of lets, where one stands round those further in
around : (n : ℕ) (x : List ℕ) (s c r : Binders) (y : List ℕ) (at : List ℕ) → is_let_at n at ≡ true →
    IsAmongOthers y (let_names n s) (let_names (n - 1) c) →
    IsAmongOthers y (let_names (suc n) (app (lam x s) r)) (let_names (suc n - 1) (app (lam x c) r))
around zero x s c r y at i h = absurd (clash i)
around (suc n) x s c r y at i h =
    let less : suc n - 1 ≡ n = omega arith in
    let more : suc (suc n) - 1 ≡ suc n = omega arith in
    subst (λ (others : List (List ℕ)). IsAmongOthers y (x ∷ let_names (suc n) s) others)
    (ap (λ (m : ℕ). x ∷ let_names m c) less ∙ ap (λ (m : ℕ). let_names m (app (lam x c) r)) (sym more))
    (one_further x y (let_names (suc n) s) (let_names (suc n - 1) c) h)

further_in : (n : ℕ) (t a : Tree) (x : List ℕ) (s r : Binders) (j k : ℕ) (at : List ℕ) → j ≡ 1 → k ≡ 0 →
    is_let_at n at ≡ true → Goes n t s at → Goes (suc n) (tree.app (tree.lam t) a) (app (lam x s) r) (j ∷ k ∷ at)
further_in n t a x s r j k at p q i h =
    subst (λ (l : ℕ). Goes (suc n) (tree.app (tree.lam t) a) (app (lam x s) r) (l ∷ k ∷ at)) (sym p)
    (h.0, h.1, around n x s (contracted t s at) r h.0 at i h.2)

pub let_goes : LetGoes
let_goes zero t s at h e i = absurd (clash i)
let_goes (suc n) t s at h e i = go (begins n t s h e) (λ u r b. let_goes n u r b) at i
  where
    go : {t : Tree} {s : Binders} → BeginsWith n t s →
        ((u : Tree) (r : Binders) (b : List ℕ) → Fits u r → length (let_names n r) ≡ n → is_let_at n b ≡ true →
        Goes n u r b) → (at : List ℕ) → is_let_at (suc n) at ≡ true → Goes (suc n) t s at
    go (one {t = u} {a = a} {x = x} {s = r} {r = q} f g l) each [] i = outermost_goes n u a x r q f l
    go (one f g l) each (j ∷ []) i = absurd (clash i)
    go (one {t = u} {a = a} {x = x} {s = r} {r = q} f g l) each (j ∷ k ∷ at) i =
        let p = and_parts (j == 1) ((k == 0) && is_let_at n at) i in
        let o = and_parts (k == 0) (is_let_at n at) p.1 in
        further_in n u a x r q j k at (eqb-true j 1 p.0) (eqb-true k 0 o.0) o.1 (each u r at f l o.1)

-- ---- contraction of another redex

abbrev Stay : ℕ → Tree → Binders → List ℕ → Type 0
Stay n t s at = let_names n (contracted t s at) ≡ let_names n s

-- a redex in the value of a let
in_value : (n : ℕ) (t a : Tree) (x : List ℕ) (s r : Binders) (j : ℕ) (at : List ℕ) → j ≡ 2 →
    Stay (suc n) (tree.app (tree.lam t) a) (app (lam x s) r) (j ∷ at)
in_value n t a x s r j at p =
    subst (λ (l : ℕ). Stay (suc n) (tree.app (tree.lam t) a) (app (lam x s) r) (l ∷ at)) (sym p) refl

-- a redex behind the let
in_body : (n : ℕ) (t a : Tree) (x : List ℕ) (s r : Binders) (j k : ℕ) (at : List ℕ) → j ≡ 1 → Stay n t s at →
    Stay (suc n) (tree.app (tree.lam t) a) (app (lam x s) r) (j ∷ k ∷ at)
in_body n t a x s r j k at p h =
    subst (λ (l : ℕ). Stay (suc n) (tree.app (tree.lam t) a) (app (lam x s) r) (l ∷ k ∷ at)) (sym p)
    (ap (λ (xs : List (List ℕ)). x ∷ xs) h)

not_at : (j k : ℕ) (b : Bool) → j ≡ 1 → k ≡ 0 → ((j == 1) && ((k == 0) && b)) ≡ false → b ≡ false
not_at j k b p q i =
    sym (ap (λ (c : Bool). c && ((k == 0) && b)) (eq-eqb j 1 p) ∙ ap (λ (c : Bool). c && b) (eq-eqb k 0 q)) ∙ i

pub lets_stay : LetsStay
lets_stay zero t s at h e redex i = refl
lets_stay (suc n) t s at h e redex i = go (begins n t s h e) (λ u r b. lets_stay n u r b) at redex i
  where
    no_redex : (t : Tree) → IsSome (beta.contracted (tree.lam t) []) → ⊥
    no_redex t h = absurd (cc)

    go : {t : Tree} {s : Binders} → BeginsWith n t s →
        ((u : Tree) (r : Binders) (b : List ℕ) → Fits u r → length (let_names n r) ≡ n → IsSome (beta.contracted u b) →
        is_let_at n b ≡ false → Stay n u r b) →
        (at : List ℕ) → IsSome (beta.contracted t at) → is_let_at (suc n) at ≡ false → Stay (suc n) t s at
    go (one f g l) each [] redex i = absurd (clash (sym i))
    go (one {t = u} {a = a} {x = x} {s = r} {r = q} f g l) each (j ∷ []) redex i =
        elim (side_move (tree.lam u) a j [] redex) [
          | inl m ↦ absurd (no_redex u m.1)
          | inr m ↦ in_value n u a x r q j [] m.0
        ]
    go (one {t = u} {a = a} {x = x} {s = r} {r = q} f g l) each (j ∷ k ∷ at) redex i =
        elim (side_move (tree.lam u) a j (k ∷ at) redex) [
          | inl m ↦ let o = body_move u k at m.1 in
              in_body n u a x r q j k at m.0 (each u r at f l o.1 (not_at j k (is_let_at n at) m.0 o.0 i))
          | inr m ↦ in_value n u a x r q j (k ∷ at) m.0
        ]

-- ---- a text

one_more : (n : ℕ) (names binders : List (List ℕ)) (x : List ℕ) (t d : Named) (s : Binders) →
    Fits (numbered names binders (named.app (named.lam x t) d)) s →
    ((r : Binders) → Fits (numbered names (x ∷ binders) t) r → length (let_names n r) ≡ n) →
    length (let_names (1 + n) s) ≡ 1 + n
one_more n names binders x t d leaf h each = absurd h
one_more n names binders x t d (lam y s) h each = absurd h
one_more n names binders x t d (app leaf r) h each = absurd h.0
one_more n names binders x t d (app (app p q) r) h each = absurd h.0
one_more n names binders x t d (app (lam y s) r) h each =
    let more : suc n ≡ 1 + n = omega arith in
    subst (λ (m : ℕ). length (let_names m (app (lam y s) r)) ≡ m) more (ap suc (each s h.0))

mutual
  term_has : {a : List Token} {t : Named} (i : IsTerm a t) (names binders : List (List ℕ)) (s : Binders) →
      Fits (numbered names binders t) s → length (let_names (lets_of_term i) s) ≡ lets_of_term i
  term_has (term_body b) names binders s h = body_has b names binders s h
  term_has (term_spine i) names binders s h = refl
  term_has (term_both i b) names binders s h = refl

  body_has : {a : List Token} {t : Named} (i : IsBody a t) (names binders : List (List ℕ)) (s : Binders) →
      Fits (numbered names binders t) s → length (let_names (lets_of_body i) s) ≡ lets_of_body i
  body_has (body_lambda x xs i) names binders s h = refl
  body_has (body_let x {d = d} {t = t} i j) names binders s h =
      one_more (lets_of_term j) names binders x t d s h (λ r g. term_has j names (x ∷ binders) r g)

pub text_has_lets : TextHasLets
text_has_lets bytes n t s text begins h =
    subst (λ (m : ℕ). length (let_names m s) ≡ m) (sym (begins t text)) (term_has text.term (names_of t) [] s h)
