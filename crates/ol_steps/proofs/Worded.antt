-- Each name of a text's term is a name of the grammar, and no free name stands twice in its list.
use Rattle.std.proofs.Common.{◌≡◌, ℕ, zero, suc, List, [], ◌∷◌, map, Bool, true, false, ◌||◌, cond}
use Rattle.std.proofs.Common.{Some, refl, sym, ap, ◌∙◌}
use Rattle.std.specs.Str.{bytes_eq}
use Rattle.std.proofs.lemmas.Bool.{or_parts}
use Rattle.std.proofs.lemmas.Slice.Eq.{bytes_eq-Decides}
use Rattle.std.proofs.lemmas.Option.{same_Some}
use Rattle.ol_term.specs.NameLists.{NoNameTwice, without}
use Rattle.ol_term.specs.BinderNames.{is_among}
use Rattle.ol_term.proofs.BinderTexts.{among_at}
use Rattle.ol_parse.specs.Grammar.{Named, Token, name, in_key, dot}
use Rattle.ol_parse.specs.Grammar.{close_bracket, lams, IsTerm, term_body}
use Rattle.ol_parse.specs.Grammar.{term_spine, term_both, IsSpine, spine_one, spine_more, IsAtom}
use Rattle.ol_parse.specs.Grammar.{atom_name, atom_brackets, IsBody, body_lambda, body_let}
use Rattle.ol_parse.specs.Numbered.{free_in, once, names_of}
use Rattle.ol_parse.specs.Parsed.{AreNames}
use Rattle.ol_steps.specs.BinderLaws.{AllNames, TextHasNames}
use Rattle.ol_parse.proofs.Words.{spelled_good, left, right, AreGood}

-- ---- tokens

row_good : (xs : List (List ℕ)) → AreGood (map name xs) → AreNames xs
row_good [] h = tt
row_good (x ∷ xs) h = (h.0, row_good xs h.1)

-- ---- terms

under : (xs : List (List ℕ)) (t : Named) → AreNames xs → AllNames t → AllNames (lams xs t)
under [] t g h = h
under (x ∷ xs) t g h = (g.0, under xs t g.1 h)

mutual
  of_term : {a : List Token} {t : Named} → IsTerm a t → AreGood a → AllNames t
  of_term (term_body b) h = of_body b h
  of_term (term_spine s) h = of_spine s h
  of_term (term_both {a = a} {b = b} s r) h = (of_spine s (left a b h), of_body r (right a b h))

  of_spine : {a : List Token} {t : Named} → IsSpine a t → AreGood a → AllNames t
  of_spine (spine_one i) h = of_atom i h
  of_spine (spine_more {a = a} {b = b} s i) h = (of_spine s (left a b h), of_atom i (right a b h))

  of_atom : {a : List Token} {t : Named} → IsAtom a t → AreGood a → AllNames t
  of_atom atom_name h = h.0
  of_atom (atom_brackets {a = a} i) h = of_term i (left a (close_bracket ∷ []) h.1)

  of_body : {a : List Token} {t : Named} → IsBody a t → AreGood a → AllNames t
  of_body (body_lambda x xs {a = a} {t = t} i) h =
      under (x ∷ xs) t (row_good (x ∷ xs) (left (map name (x ∷ xs)) (dot ∷ a) h.1))
      (of_term i (right (map name (x ∷ xs)) (dot ∷ a) h.1).1)
  of_body (body_let x {a = a} {b = b} i j) h = (
    (h.1.0, of_term j (right a (in_key ∷ b) h.1.1.1).1),
    of_term i (left a (in_key ∷ b) h.1.1.1),
  )

pub text_has_names : TextHasNames
text_has_names bytes t i = of_term i.term (spelled_good i.spelled)

-- ---- free names

-- no name of a list stands in it again
abbrev AreApart : List (List ℕ) → Type 0
AreApart [] = Unit {0}
AreApart (x ∷ xs) = (is_among xs x ≡ false) × AreApart xs

clash : false ≡ true → ⊥
clash e = cc

-- what is left out isn't there, and what wasn't there still isn't
left_out : (x : List ℕ) (ys : List (List ℕ)) → is_among (without x ys) x ≡ false
left_out x [] = refl
left_out x (y ∷ ys) = go (left_out x ys) (bytes_eq x y) refl (bytes_eq y x) refl
  where
    go : is_among (without x ys) x ≡ false → (b : Bool) → bytes_eq x y ≡ b → (c : Bool) → bytes_eq y x ≡ c →
        is_among (cond {A = List (List ℕ)} b (without x ys) (y ∷ without x ys)) x ≡ false
    go more true e c f = more
    go more false e true f =
        let s = (bytes_eq-Decides y x).0 f in
        absurd (clash (sym e ∙ ap (λ (z : List ℕ). bytes_eq x z) s ∙ (bytes_eq-Decides x x).1 refl))
    go more false e false f = ap (λ (c : Bool). c || is_among (without x ys) x) f ∙ more

still_out : (x z : List ℕ) (ys : List (List ℕ)) → is_among ys z ≡ false → is_among (without x ys) z ≡ false
still_out x z [] h = refl
still_out x z (y ∷ ys) h =
    let p = or_parts (bytes_eq y z) (is_among ys z) h in go (still_out x z ys p.1) (bytes_eq x y) p.0
  where
    go : is_among (without x ys) z ≡ false → (b : Bool) → bytes_eq y z ≡ false →
        is_among (cond {A = List (List ℕ)} b (without x ys) (y ∷ without x ys)) z ≡ false
    go more true p = more
    go more false p = ap (λ (c : Bool). c || is_among (without x ys) z) p ∙ more

still_apart : (x : List ℕ) (ys : List (List ℕ)) → AreApart ys → AreApart (without x ys)
still_apart x [] h = tt
still_apart x (y ∷ ys) h = go (still_apart x ys h.1) (bytes_eq x y)
  where
    go : AreApart (without x ys) → (b : Bool) →
        AreApart (cond {A = List (List ℕ)} b (without x ys) (y ∷ without x ys))
    go more true = more
    go more false = (still_out x y ys h.0, more)

once_apart : (xs : List (List ℕ)) → AreApart (once xs)
once_apart [] = tt
once_apart (x ∷ xs) = (left_out x (once xs), still_apart x (once xs) (once_apart xs))

not_twice : (xs : List (List ℕ)) → AreApart xs → NoNameTwice xs
not_twice [] h j k x e f = absurd (cc)
not_twice (y ∷ ys) h zero zero x e f = refl
not_twice (y ∷ ys) h zero (suc k) x e f =
    absurd (clash (sym h.0 ∙ among_at ys k y (f ∙ ap (λ (z : List ℕ). Some z) (sym (same_Some y x e)))))
not_twice (y ∷ ys) h (suc j) zero x e f =
    absurd (clash (sym h.0 ∙ among_at ys j y (e ∙ ap (λ (z : List ℕ). Some z) (sym (same_Some y x f)))))
not_twice (y ∷ ys) h (suc j) (suc k) x e f = ap suc (not_twice ys h.1 j k x e f)

pub names_differ : (t : Named) → NoNameTwice (names_of t)
names_differ t = not_twice (once (free_in [] t)) (once_apart (free_in [] t))
