-- Places of names in lists, and a list with more names.
use Rattle.std.proofs.Common.{◌≡◌, ℕ, zero, suc, ◌+◌, ◌<◌, ◌≤◌, inl, inr, List, [], ◌∷◌, ◌++◌, length, take, Bool, true, false, cond}
use Rattle.std.proofs.Common.{Some, None, refl, sym, ap, ◌∙◌, arith}
use Rattle.std.proofs.lemmas.Bool.{cases_lt}
use Rattle.std.proofs.lemmas.Slice.Eq.{bytes_eq-Decides}
use Rattle.std.specs.Prelude.{◌≢◌, slice_get}
use Rattle.std.specs.List.{position_from}
use Rattle.std.specs.Str.{bytes_eq}
use Rattle.ol_term.specs.Trees as tree
use Rattle.ol_term.specs.NameLists.{IsFirstPlace, position_of, put_unless, with_names, free_at}
use Rattle.ol_term.proofs.BinderTexts.{not_same}
use Rattle.ol_term.proofs.Indexing.{below_added}

abbrev is : List ℕ → List ℕ → Bool
is name = λ y. bytes_eq name y

first_from : (x : List ℕ) (names : List (List ℕ)) (i k n : ℕ) → n ≡ i + k →
    slice_get names k ≡ Some x → ((j : ℕ) → j < k → slice_get names j ≢ Some x) →
    position_from (λ y. bytes_eq x y) i names ≡ Some n
first_from x [] i k n e h before = absurd (cc)
first_from x (y ∷ ys) i zero n e h before =
    let same : x ≡ y = cc in
    let here : i ≡ n = omega arith in
    ap (λ b. cond b (Some i) (position_from (is x) (i + 1) ys))
    (ap (bytes_eq x) (sym same) ∙ (bytes_eq-Decides x x).1 refl) ∙ ap (λ (n : ℕ). Some n) here
first_from x (y ∷ ys) i (suc k) n e h before =
    let other : bytes_eq x y ≡ false = not_same x y
    (λ same. before 0 (omega arith) (ap (λ (l : List ℕ). Some l) (sym same))) in
    let further : n ≡ (i + 1) + k = omega arith in
    ap (λ b. cond b (Some i) (position_from (is x) (i + 1) ys)) other
    ∙ first_from x ys (i + 1) k n further h (λ j l. before (suc j) (omega arith))

none_from : (x : List ℕ) (names : List (List ℕ)) (i : ℕ) →
    ((j : ℕ) → j < length names → slice_get names j ≢ Some x) → position_from (λ y. bytes_eq x y) i names ≡ None
none_from x [] i each = refl
none_from x (y ∷ ys) i each =
    ap (λ b. cond b (Some i) (position_from (is x) (i + 1) ys))
    (not_same x y (λ same. each 0 (omega arith) (ap (λ (l : List ℕ). Some l) (sym same))))
    ∙ none_from x ys (i + 1) (λ j l. each (suc j) (omega arith))

pub first_place : (x : List ℕ) (names : List (List ℕ)) (k : ℕ) → IsFirstPlace names x k → position_of x names ≡ Some k
first_place x names k f = let e : k ≡ 0 + k = omega arith in first_from x names 0 k k e f.here f.before

-- ---- the number of a name

pub place_none : (x : List ℕ) (table : List (List ℕ)) → ((j : ℕ) → slice_get table j ≢ Some x) →
    tree.free 0 ≡ free_at (position_of x table)
place_none x table each = sym (ap free_at (none_from x table 0 (λ j l. each j)))

pub place_some : (x : List ℕ) (table : List (List ℕ)) (k : ℕ) → IsFirstPlace table x k →
    tree.free k ≡ free_at (position_of x table)
place_some x table k first = sym (ap free_at (first_place x table k first))

-- ---- one name more

pub one_name_more : (x : List ℕ) (old new : List (List ℕ)) (k : ℕ) → IsFirstPlace new x k →
    (k < length old → new ≡ old) → (length old ≤ k → new ≡ old ++ (x ∷ [])) →
    new ≡ put_unless (position_of x old) old x
one_name_more x old new k f known last = sym (elim (cases_lt k (length old)) [
  | inl low ↦ (
      let same : new ≡ old = known low in
      let here : position_of x old ≡ Some k = ap (position_of x) (sym same) ∙ first_place x new k f in
      ap (λ o. put_unless o old x) here ∙ sym same
      )
  | inr past ↦ (
      let more : new ≡ old ++ (x ∷ []) = last (omega arith) in
      let gone : position_of x old ≡ None = none_from x old 0
      (λ j l same. f.before j (omega arith)
      (ap (λ l. slice_get l j) more ∙ below_added old (x ∷ []) j l ∙ same)) in
      ap (λ o. put_unless o old x) gone ∙ sym more
      )
])

pub names_on : (names table : List (List ℕ)) (k : ℕ) (name : List ℕ) → slice_get names k ≡ Some name →
    put_unless (position_of name (with_names table (take k names))) (with_names table (take k names)) name
    ≡ with_names table (take (suc k) names)
names_on [] table k name h = absurd (cc)
names_on (x ∷ xs) table zero name h =
    let same : name ≡ x = cc in ap (λ x. put_unless (position_of x table) table x) same
names_on (x ∷ xs) table (suc k) name h = names_on xs (put_unless (position_of x table) table x) k name h
