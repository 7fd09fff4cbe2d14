-- The free names of a text are names of the grammar.
use Rattle.std.proofs.Common.{◌≡◌, ℕ, List, [], ◌∷◌, ◌++◌, map, Bool, true, false, cond, Option}
use Rattle.std.proofs.Common.{Some, None, refl, subst}
use Rattle.std.specs.Str.{bytes_eq}
use Rattle.ol_parse.specs.Grammar.{Named, var, lam, app, Token, name, let_key, in_key, lambda, dot}
use Rattle.ol_parse.specs.Grammar.{equals, open_bracket, close_bracket, lams, IsTerm, term_body}
use Rattle.ol_parse.specs.Grammar.{term_spine, term_both, IsSpine, spine_one, spine_more, IsAtom}
use Rattle.ol_parse.specs.Grammar.{atom_name, atom_brackets, IsBody, body_lambda, body_let}
use Rattle.ol_parse.specs.Texts.{token_of, is_word, IsToken, token_sign, token_letter, token_word}
use Rattle.ol_parse.specs.Texts.{IsName, Spells, spells_none, spells_one, IsText}
use Rattle.ol_term.specs.NameLists.{position_of, without}
use Rattle.ol_parse.specs.Numbered.{unbound, free_in, once, names_of}
use Rattle.ol_parse.specs.Parsed.{AreNames}
use Rattle.ol_parse.proofs.Spelling.{sign_no_word}

-- ---- tokens

abbrev pub IsGood : Token → Type 0
IsGood (name x) = IsName x
IsGood _ = Unit {0}

abbrev pub AreGood : List Token → Type 0
AreGood [] = Unit {0}
AreGood (k ∷ ks) = IsGood k × AreGood ks

no_word_good : (k : Token) → is_word k ≡ false → IsGood k
no_word_good (name x) h = absurd (cc)
no_word_good let_key h = tt
no_word_good in_key h = tt
no_word_good lambda h = tt
no_word_good dot h = tt
no_word_good equals h = tt
no_word_good open_bracket h = tt
no_word_good close_bracket h = tt

spelled_by : (w x : List ℕ) → token_of w ≡ name x → w ≡ x
unfolding token_of
spelled_by w x h = go (bytes_eq w (108 ∷ 101 ∷ 116 ∷ [])) (bytes_eq w (105 ∷ 110 ∷ [])) h
  where
    go : (a b : Bool) → cond a let_key (cond b in_key (name w)) ≡ name x → w ≡ x
    go true b h = absurd (cc)
    go false true h = absurd (cc)
    go false false h = cc

word_good : (w : List ℕ) (k : Token) → token_of w ≡ k → IsToken k w → IsGood k
word_good w (name x) h i = subst (λ v. IsToken (name x) v) (spelled_by w x h) i
word_good w let_key h i = tt
word_good w in_key h i = tt
word_good w lambda h i = tt
word_good w dot h i = tt
word_good w equals h i = tt
word_good w open_bracket h i = tt
word_good w close_bracket h i = tt

token_good : {k : Token} {a : List ℕ} → IsToken k a → IsGood k
token_good (token_sign {k = k} {b = b} e) = no_word_good k (sign_no_word b k e)
token_good (token_letter e) = tt
token_good (token_word {b = b} {w = w} e i) = word_good (b ∷ w) (token_of (b ∷ w)) refl (token_word e i)

pub spelled_good : {after : Bool} {ks : List Token} {bs : List ℕ} → Spells after ks bs → AreGood ks
spelled_good (spells_none i) = tt
spelled_good (spells_one i n t s) = (token_good t, spelled_good s)

pub left : (a b : List Token) → AreGood (a ++ b) → AreGood a
left [] b h = tt
left (k ∷ a) b h = (h.0, left a b h.1)

pub right : (a b : List Token) → AreGood (a ++ b) → AreGood b
right [] b h = h
right (k ∷ a) b h = right a b h.1

-- ---- terms

abbrev HasNames : Named → Type 0
HasNames (var x) = IsName x
HasNames (lam x t) = HasNames t
HasNames (app f t) = HasNames f × HasNames t

under : (xs : List (List ℕ)) (t : Named) → HasNames t → HasNames (lams xs t)
under [] t h = h
under (x ∷ xs) t h = under xs t h

mutual
  of_term : {a : List Token} {t : Named} → IsTerm a t → AreGood a → HasNames t
  of_term (term_body b) h = of_body b h
  of_term (term_spine s) h = of_spine s h
  of_term (term_both {a = a} {b = b} s r) h = (of_spine s (left a b h), of_body r (right a b h))

  of_spine : {a : List Token} {t : Named} → IsSpine a t → AreGood a → HasNames t
  of_spine (spine_one i) h = of_atom i h
  of_spine (spine_more {a = a} {b = b} s i) h = (of_spine s (left a b h), of_atom i (right a b h))

  of_atom : {a : List Token} {t : Named} → IsAtom a t → AreGood a → HasNames t
  of_atom atom_name h = h.0
  of_atom (atom_brackets {a = a} i) h = of_term i (left a (close_bracket ∷ []) h.1)

  of_body : {a : List Token} {t : Named} → IsBody a t → AreGood a → HasNames t
  of_body (body_lambda x xs {a = a} {t = t} i) h = under (x ∷ xs) t
      (of_term i (right (map name (x ∷ xs)) (dot ∷ a) h.1).1)
  of_body (body_let x {a = a} {b = b} i j) h = (
    of_term j (right a (in_key ∷ b) h.1.1.1).1,
    of_term i (left a (in_key ∷ b) h.1.1.1),
  )

-- ---- free names

pub both : (xs ys : List (List ℕ)) → AreNames xs → AreNames ys → AreNames (xs ++ ys)
both [] ys h k = k
both (x ∷ xs) ys h k = (h.0, both xs ys h.1 k)

maybe_free : (x : List ℕ) (o : Option ℕ) → IsName x → AreNames (unbound x o)
maybe_free x (Some k) h = tt
maybe_free x None h = (h, tt)

free_good : (t : Named) (binders : List (List ℕ)) → HasNames t → AreNames (free_in binders t)
free_good (var x) binders h = maybe_free x (position_of x binders) h
free_good (lam x t) binders h = free_good t (x ∷ binders) h
free_good (app f t) binders h = both (free_in binders f) (free_in binders t)
    (free_good f binders h.0) (free_good t binders h.1)

without_good : (x : List ℕ) (ys : List (List ℕ)) → AreNames ys → AreNames (without x ys)
without_good x [] h = tt
without_good x (y ∷ ys) h = go (bytes_eq x y) (without_good x ys h.1)
  where
    go : (b : Bool) → AreNames (without x ys) → AreNames (cond b (without x ys) (y ∷ without x ys))
    go true each = each
    go false each = (h.0, each)

once_good : (xs : List (List ℕ)) → AreNames xs → AreNames (once xs)
once_good [] h = tt
once_good (x ∷ xs) h = (h.0, without_good x (once xs) (once_good xs h.1))

pub names_good : (text : List ℕ) (t : Named) → IsText text t → AreNames (names_of t)
names_good text t i = once_good (free_in [] t) (free_good t [] (of_term i.term (spelled_good i.spelled)))
