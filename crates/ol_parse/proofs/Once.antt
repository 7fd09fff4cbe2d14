-- Names that grow from the left are those of first occurrences.
use Rattle.std.proofs.Common.{◌≡◌, ℕ, ◌+◌, List, [], ◌∷◌, ◌++◌, reverse, Bool, true, false, not, ◌||◌, cond, filter}
use Rattle.std.proofs.Common.{Option, Some, None, refl, sym, ap, ◌∙◌, append_assoc, append-nil}
use Rattle.std.specs.List.{position_from}
use Rattle.std.specs.Borrow.{Bor}
use Rattle.std.specs.Str.{bytes_eq}
use Rattle.std.proofs.lemmas.Slice.Eq.{bytes_eq-Decides}
use Rattle.std.proofs.Math.Bool.{or-false, or_assoc}
use Rattle.ol_term.specs.Trees.{Tree}
use Rattle.ol_term.specs.NameLists.{without, position_of, put_unless, with_names}
use Rattle.ol_parse.specs.Grammar.{Named, var, lam, app}
use Rattle.ol_parse.specs.Numbered.{unbound, free_in, once, names_of, number, numbered}
use Rattle.ol_parse.specs.Resolving.{add_unless, names_from, texts, IsNumbered}
use Rattle.ol_parse.proofs.Places.{same_put}

-- a name is in the list
abbrev has : List ℕ → List (List ℕ) → Bool
has x [] = false
has x (y ∷ ys) = bytes_eq x y || has x ys

-- it isn't
abbrev is_new : List (List ℕ) → List ℕ → Bool
is_new names x = not (has x names)

pub both_added : (xs ys names : List (List ℕ)) →
    with_names names (xs ++ ys) ≡ with_names (with_names names xs) ys
both_added [] ys names = refl
both_added (x ∷ xs) ys names = both_added xs ys (put_unless (position_of x names) names x)

one_added : (names : List (List ℕ)) (x : List ℕ) (o : Option ℕ) →
    add_unless names x o (position_of x names) ≡ with_names names (unbound x o)
one_added names x (Some k) = refl
one_added names x None = same_put x names (position_of x names)

all_added : (t : Named) (binders names : List (List ℕ)) → names_from binders names t ≡ with_names names (free_in binders t)
all_added (var x) binders names = one_added names x (position_of x binders)
all_added (lam x t) binders names = all_added t (x ∷ binders) names
all_added (app f t) binders names =
    all_added t binders (names_from binders names f)
    ∙ ap (λ n. with_names n (free_in binders t)) (all_added f binders names)
    ∙ sym (both_added (free_in binders f) (free_in binders t) names)

-- ---- a name in a list

at_some : (x : List ℕ) (names : List (List ℕ)) (i k : ℕ) →
    position_from (λ y. bytes_eq x y) i names ≡ Some k → has x names ≡ true
at_some x [] i k h = absurd (cc)
at_some x (y ∷ ys) i k h = go (at_some x ys (i + 1) k) (bytes_eq x y) h
  where
    go : (position_from (λ y. bytes_eq x y) (i + 1) ys ≡ Some k → has x ys ≡ true) → (b : Bool) →
        cond b (Some i) (position_from (λ y. bytes_eq x y) (i + 1) ys) ≡ Some k → (b || has x ys) ≡ true
    go each true h = refl
    go each false h = each h

at_none : (x : List ℕ) (names : List (List ℕ)) (i : ℕ) →
    position_from (λ y. bytes_eq x y) i names ≡ None → has x names ≡ false
at_none x [] i h = refl
at_none x (y ∷ ys) i h = go (at_none x ys (i + 1)) (bytes_eq x y) h
  where
    go : (position_from (λ y. bytes_eq x y) (i + 1) ys ≡ None → has x ys ≡ false) → (b : Bool) →
        cond b (Some i) (position_from (λ y. bytes_eq x y) (i + 1) ys) ≡ None → (b || has x ys) ≡ false
    go each true h = absurd (cc)
    go each false h = each h

has_more : (y x : List ℕ) (names : List (List ℕ)) → has y (names ++ (x ∷ [])) ≡ (has y names || bytes_eq y x)
has_more y x [] = or-false (bytes_eq y x)
has_more y x (n ∷ names) = ap (λ b. bytes_eq y n || b) (has_more y x names)
    ∙ sym (or_assoc (bytes_eq y n) (has y names) (bytes_eq y x))

-- ---- one more name

abbrev kept : Bool → List ℕ → List (List ℕ) → List (List ℕ)
kept b y ys = cond (not b) (y ∷ ys) ys

-- a name that is in the list is left out either way
known_gone : (x : List ℕ) (names ys : List (List ℕ)) → has x names ≡ true →
    filter (is_new names) (without x ys) ≡ filter (is_new names) ys
known_gone x names [] h = refl
known_gone x names (y ∷ ys) h = go (bytes_eq x y) refl (known_gone x names ys h)
  where
    go : (b : Bool) → bytes_eq x y ≡ b →
        filter (is_new names) (without x ys) ≡ filter (is_new names) ys →
        filter (is_new names) (cond b (without x ys) (y ∷ without x ys))
        ≡ kept (has y names) y (filter (is_new names) ys)
    go true e each = each ∙ sym (ap (λ b. kept b y (filter (is_new names) ys))
        (ap (λ w. has w names) (sym ((bytes_eq-Decides x y).0 e)) ∙ h))
    go false e each = ap (kept (has y names) y) each

new_gone : (x : List ℕ) (names ys : List (List ℕ)) →
    filter (is_new names) (without x ys) ≡ filter (is_new (names ++ (x ∷ []))) ys
new_gone x names [] = refl
new_gone x names (y ∷ ys) = go (bytes_eq x y) refl (new_gone x names ys)
    ∙ ap (λ b. kept b y (filter (is_new (names ++ (x ∷ []))) ys)) (sym (has_more y x names))
  where
    or_true : (a : Bool) → true ≡ (a || true)
    or_true true = refl
    or_true false = refl

    back : (b : Bool) → bytes_eq y x ≡ b → bytes_eq x y ≡ false → bytes_eq y x ≡ false
    back true e h = let same = (bytes_eq-Decides y x).0 e in
        let one : bytes_eq x y ≡ true = ap (bytes_eq x) same ∙ (bytes_eq-Decides x x).1 refl in absurd (cc)
    back false e h = e

    go : (b : Bool) → bytes_eq x y ≡ b →
        filter (is_new names) (without x ys) ≡ filter (is_new (names ++ (x ∷ []))) ys →
        filter (is_new names) (cond b (without x ys) (y ∷ without x ys))
        ≡ kept (has y names || bytes_eq y x) y (filter (is_new (names ++ (x ∷ []))) ys)
    go true e each =
        let other : bytes_eq y x ≡ true = ap (bytes_eq y) ((bytes_eq-Decides x y).0 e)
        ∙ (bytes_eq-Decides y y).1 refl in
        each ∙ ap (λ b. kept b y (filter (is_new (names ++ (x ∷ []))) ys))
        (or_true (has y names) ∙ ap (λ b. has y names || b) (sym other))
    go false e each =
        ap (kept (has y names) y) each ∙ ap (λ b. kept b y (filter (is_new (names ++ (x ∷ []))) ys))
        (sym (or-false (has y names)) ∙ ap (λ b. has y names || b) (sym (back (bytes_eq y x) refl e)))

behind : (xs names : List (List ℕ)) → with_names names xs ≡ names ++ filter (is_new names) (once xs)
behind [] names = sym (append-nil names)
behind (x ∷ xs) names = go (position_of x names) refl (behind xs names) (behind xs (names ++ (x ∷ [])))
  where
    go : (o : Option ℕ) → position_of x names ≡ o →
        with_names names xs ≡ names ++ filter (is_new names) (once xs) →
        with_names (names ++ (x ∷ [])) xs
        ≡ (names ++ (x ∷ [])) ++ filter (is_new (names ++ (x ∷ []))) (once xs)
        → with_names (put_unless o names x) xs ≡ names ++ kept (has x names) x
        (filter (is_new names) (without x (once xs)))
    go (Some k) e old new =
        let here = at_some x names 0 k e in
        old ∙ ap (λ l. names ++ l) (sym (known_gone x names (once xs) here))
        ∙ ap (λ b. names ++ kept b x (filter (is_new names) (without x (once xs)))) (sym here)
    go None e old new =
        let gone = at_none x names 0 e in
        new ∙ append_assoc names (x ∷ []) (filter (is_new (names ++ (x ∷ []))) (once xs))
        ∙ ap (λ l. names ++ (x ∷ l)) (sym (new_gone x names (once xs)))
        ∙ ap (λ b. names ++ kept b x (filter (is_new names) (without x (once xs)))) (sym gone)

all_new : (ys : List (List ℕ)) → filter (is_new []) ys ≡ ys
all_new [] = refl
all_new (y ∷ ys) = ap (λ l. y ∷ l) (all_new ys)

pub once_added : (xs : List (List ℕ)) → with_names [] xs ≡ once xs
once_added xs = behind xs [] ∙ all_new (once xs)

pub names_once : (t : Named) → names_from [] [] t ≡ names_of t
names_once t = all_added t [] [] ∙ once_added (free_in [] t)

pub whole_numbered : (t : Named) (binders : List (Bor (List ℕ))) (names names' : List (List ℕ))
    (u : Tree) → binders ≡ [] → names ≡ [] → names' ≡ names_from (texts (reverse binders)) names t →
    IsNumbered names' (texts (reverse binders)) t u → (names' ≡ names_of t) × (u ≡ number t)
whole_numbered t binders names names' u e i n h =
    let k : names' ≡ names_of t = n ∙ ap (λ l. names_from (texts (reverse l)) names t) e
    ∙ ap (λ l. names_from [] l t) i ∙ names_once t in (
      k,
      sym (h []) ∙ ap (λ l. numbered l (texts (reverse binders)) t) (append-nil names' ∙ k)
          ∙ ap (λ l. numbered (names_of t) (texts (reverse l)) t) e,
    )
