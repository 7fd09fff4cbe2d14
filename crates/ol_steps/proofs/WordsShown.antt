-- In the glossary of a text's term, a part that is the value of a let is written by its word.
use Rattle.std.proofs.Common.{◌≡◌, ℕ, zero, suc, ◌+◌, ◌-◌, ◌≤◌, ◌⊎◌, inl, inr, Bool, true, false, ◌&&◌, ◌||◌, not}
use Rattle.std.proofs.Common.{List, [], ◌∷◌, ◌++◌, length, Option, Some, None, refl, sym, ap, ◌∙◌, subst, arith, append_assoc}
use Rattle.std.proofs.Common.{eqb-true, append-nil}
use Rattle.std.specs.Prelude.{◌==◌, if◌then◌else◌, slice_get, slice_index_or, unwrap_or}
use Rattle.std.specs.Str.{bytes_eq}
use Rattle.std.specs.Option.{option_map}
use Rattle.std.proofs.lemmas.Bool.{and_parts, le-ltb, or_parts}
use Rattle.std.proofs.lemmas.List.{get_or-append_right, map-append}
use Rattle.std.proofs.lemmas.Option.{same_Some, slice_get-map, slice_get_within}
use Rattle.std.proofs.lemmas.Slice.Eq.{bytes_eq-Decides}
use Rattle.ol_law_edges.proofs.Lists.{got_left}
use Rattle.ol_term.specs.Trees.{Tree}
use Rattle.ol_term.specs.BinderNames.{is_among}
use Rattle.ol_term.specs.NameLists.{NoNameTwice}
use Rattle.ol_term.proofs.BinderTexts.{among_at, among_nowhere}
use Rattle.ol_parse.specs.Texts.{class_of, in_word, AreInWord, IsName}
use Rattle.ol_parse.specs.Numbered.{names_of, number}
use Rattle.ol_parse.specs.Parsed.{AreNames}
use Rattle.ol_parse.proofs.Words.{names_good}
use Rattle.ol_steps.specs.Binders as binders
use Rattle.ol_steps.specs.Binders.{Binders, binders_of, leaf}
use Rattle.ol_steps.specs.Folded.{is_same}
use Rattle.ol_steps.specs.Lets.{LetRow, let_names, lets, names_of_lets}
use Rattle.ol_steps.specs.Words.{Glossary, barred, is_alike, is_value_of, names_for, new_rows, written_number, or_else, row_at}
use Rattle.ol_steps.specs.Words.{word_for, word_number, word_rows}
use Rattle.ol_steps.specs.Steps.{glossary}
use Rattle.ol_steps.specs.StepLaws.{has_bar, WordIsShown}
use Rattle.ol_steps.proofs.Among.{among_both}
use Rattle.ol_steps.proofs.Same.{same_is, same_itself}
use Rattle.ol_steps.proofs.Rows.{names_differ}
use Rattle.ol_steps.proofs.WordNumbers.{leads_to_row}
use Rattle.ol_steps.proofs.WordTexts.{has_it, word_full}
use Rattle.ol_steps.proofs.NamesWithPrimes.{let_words, word_of, words_of_lets, readable}
use Rattle.ol_steps.proofs.Worded.{names_differ as free_names_differ}

clash : false ≡ true → ⊥
clash e = absurd (cc)

-- ---- no name of the grammar has a bar

bar_class : in_word (class_of 124) ≡ false
unfolding class_of
bar_class = refl

no_bar_byte : (c : ℕ) → in_word (class_of c) ≡ true → (c == 124) ≡ false
no_bar_byte c h = go (c == 124) refl
  where
    go : (b : Bool) → (c == 124) ≡ b → b ≡ false
    go true e =
        absurd (clash (sym bar_class ∙ ap (λ (k : ℕ). in_word (class_of k)) (sym (eqb-true c 124 e)) ∙ h))
    go false e = refl

no_bar_in : (w : List ℕ) → AreInWord w → has_bar w ≡ false
no_bar_in [] h = refl
no_bar_in (c ∷ w) h = ap (λ (b : Bool). b || has_bar w) (no_bar_byte c h.0) ∙ no_bar_in w h.1

no_bar : (x : List ℕ) → IsName x → has_bar x ≡ false
no_bar x h = let (b, w, e, c, i) = word_of h refl in
    ap (λ (y : List ℕ). has_bar y) e ∙ no_bar_in (b ∷ w) (ap in_word c, i)

-- ---- bytes begin with a single name

-- nothing, or a bar and what follows it
abbrev IsTail : List ℕ → Type 0
IsTail v = (v ≡ []) ⊎ ((rest : List ℕ) × (v ≡ 124 ∷ rest))

abbrev head : List ℕ → ℕ
head [] = 0
head (c ∷ x) = c

abbrev behind : List ℕ → List ℕ
behind [] = []
behind (c ∷ x) = x

no_byte : (c : ℕ) (x : List ℕ) → c ∷ x ≡ [] → ⊥
no_byte c x e = absurd (cc)

-- no bar stands where a name goes on
not_on : (c : ℕ) (x v w : List ℕ) → has_bar (c ∷ x) ≡ false → IsTail v → v ≡ c ∷ (x ++ w) → ⊥
not_on c x v w h (inl n) e = no_byte c (x ++ w) (sym e ∙ n)
not_on c x v w h (inr t) e =
    let bar : 124 ≡ c = ap head (sym t.1 ∙ e) in
    clash (sym (or_parts (c == 124) (has_bar x) h).0 ∙ ap (λ (k : ℕ). k == 124) (sym bar))

one_start : (x y v w : List ℕ) → has_bar x ≡ false → has_bar y ≡ false → IsTail v → IsTail w → x ++ v ≡ y ++ w → x ≡ y
one_start [] [] v w h i t u e = refl
one_start [] (d ∷ y) v w h i t u e = absurd (not_on d y v w i t e)
one_start (c ∷ x) [] v w h i t u e = absurd (not_on c x w v h u (sym e))
one_start (c ∷ x) (d ∷ y) v w h i t u e =
    ap (λ (k : ℕ). k ∷ x) (ap head e)
    ∙ ap (λ (z : List ℕ). d ∷ z) (one_start x y v w (or_parts (c == 124) (has_bar x) h).1
    (or_parts (d == 124) (has_bar y) i).1 t u (ap behind e))

-- ---- each row's name begins with that of a let of its value

-- the name begins with that of one of these lets, whose value it is
record StartsAt (rows : List LetRow) (x : List ℕ) (v : Tree) : Type 0 where
  row : LetRow
  place : ℕ
  tail : List ℕ
  here : slice_get rows place ≡ Some row
  value : row.value ≡ v
  ends : IsTail tail
  name : x ≡ row.name ++ tail

later : (q : LetRow) (rows : List LetRow) (x : List ℕ) (v : Tree) → StartsAt rows x v → StartsAt (q ∷ rows) x v
later q rows x v h = record {
  row = h.row;
  place = suc h.place;
  tail = h.tail;
  here = h.here;
  value = h.value;
  ends = h.ends;
  name = h.name;
}

-- a let, and the others after a bar
barred_starts : (q : LetRow) (rows : List LetRow) (v : Tree) (rest : List ℕ) → q.value ≡ v →
    StartsAt (q ∷ rows) (barred q.name rest) v
barred_starts q rows v [] e = record {
  row = q;
  place = 0;
  tail = [];
  here = refl;
  value = e;
  ends = inl refl;
  name = sym (append-nil q.name);
}
barred_starts q rows v (b ∷ bs) e = record {
  row = q;
  place = 0;
  tail = 124 ∷ b ∷ bs;
  here = refl;
  value = e;
  ends = inr (b ∷ bs, refl);
  name = refl;
}

word_starts : (kept : Bool) (rows : List LetRow) (t : Tree) (s : Binders) → (names_for kept rows t s ≡ [] → ⊥) →
    StartsAt rows (names_for kept rows t s) t
word_starts kept [] t s full = absurd (full refl)
word_starts kept (q ∷ rows) t s full = go (is_value_of kept q t s) refl (word_starts kept rows t s) full
  where
    rest : List ℕ
    rest = names_for kept rows t s

    go : (b : Bool) → is_value_of kept q t s ≡ b → ((rest ≡ [] → ⊥) → StartsAt rows rest t) →
        ((if b then barred q.name rest else rest) ≡ [] → ⊥) →
        StartsAt (q ∷ rows) (if b then barred q.name rest else rest) t
    go true e each more =
        barred_starts q rows t rest (same_is q.value t (and_parts (is_same q.value t) (not kept || is_alike q.binders s) e).0)
    go false e each more = later q rows rest t (each more)

-- so it is with all rows of a list
abbrev AllStart : (rows left : List LetRow) → Type 0
AllStart rows [] = Unit {0}
AllStart rows (q ∷ left) = StartsAt rows q.name q.value × AllStart rows left

both_start : (rows a b : List LetRow) → AllStart rows a → AllStart rows b → AllStart rows (a ++ b)
both_start rows [] b h i = i
both_start rows (q ∷ a) b h i = (h.0, both_start rows a b h.1 i)

lets_start : (before left : List LetRow) → AllStart (before ++ left) left
lets_start before [] = tt
lets_start before (q ∷ left) =
    let e : (before ++ q ∷ []) ++ left ≡ before ++ q ∷ left = append_assoc before (q ∷ []) left in (
      record {
        row = q;
        place = length before;
        tail = [];
        here = at before;
        value = refl;
        ends = inl refl;
        name = sym (append-nil q.name);
      },
      subst (λ (l : List LetRow). AllStart l left) e (lets_start (before ++ q ∷ []) left),
    )
  where
    at : (xs : List LetRow) → slice_get (xs ++ q ∷ left) (length xs) ≡ Some q
    at [] = refl
    at (x ∷ xs) = at xs

words_start : (before left : List LetRow) → AreNames (names_of_lets (before ++ left)) →
    AllStart (before ++ left) (word_rows (before ++ left) left)
words_start before [] h = tt
words_start before (q ∷ left) h =
    let rows = before ++ q ∷ left in
    let e : (before ++ q ∷ []) ++ left ≡ rows = append_assoc before (q ∷ []) left in (
      word true,
      (
        word false,
        subst (λ (l : List LetRow). AllStart l (word_rows l left)) e
            (words_start (before ++ q ∷ []) left (subst (λ (l : List LetRow). AreNames (names_of_lets l)) (sym e) h)),
      ),
    )
  where
    word : (kept : Bool) →
        StartsAt (before ++ q ∷ left) (names_for kept (before ++ q ∷ left) q.value q.binders) q.value
    word kept = word_starts kept (before ++ q ∷ left) q.value q.binders (word_full kept before q left h)

new_start : (rows : List LetRow) (names : List (List ℕ)) (left : List LetRow) → AllStart rows left →
    AllStart rows (new_rows names left)
new_start rows names [] h = tt
new_start rows names (q ∷ left) h =
    go (is_among names q.name) (new_start rows names left h.1) (new_start rows (names ++ q.name ∷ []) left h.1)
  where
    more : List LetRow
    more = new_rows (names ++ q.name ∷ []) left

    go : (b : Bool) → AllStart rows (new_rows names left) → AllStart rows more →
        AllStart rows (if b then new_rows names left else q ∷ more)
    go true first second = first
    go false first second = (h.0, second)

start_at : (rows left : List LetRow) (k : ℕ) (q : LetRow) → AllStart rows left → slice_get left k ≡ Some q →
    StartsAt rows q.name q.value
start_at rows [] k q h e = absurd (cc)
start_at rows (p ∷ left) zero q h e =
    subst (λ (z : LetRow). StartsAt rows z.name z.value) (same_Some p q e) h.0
start_at rows (p ∷ left) (suc k) q h e = start_at rows left k q h.1 e

name_good : (rows : List LetRow) (k : ℕ) (q : LetRow) → AreNames (names_of_lets rows) → slice_get rows k ≡ Some q →
    IsName q.name
name_good [] k q h e = absurd (cc)
name_good (p ∷ rows) zero q h e = subst (λ (z : LetRow). IsName z.name) (same_Some p q e) h.0
name_good (p ∷ rows) (suc k) q h e = name_good rows k q h.1 e

name_there : (rows : List LetRow) (k : ℕ) (q : LetRow) → slice_get rows k ≡ Some q →
    slice_get (names_of_lets rows) k ≡ Some q.name
name_there rows k q e =
    slice_get-map (λ (row : LetRow). row.name) rows k ∙ ap (λ (o : Option LetRow). option_map (λ row. row.name) o) e

got_right : (xs ys : List (List ℕ)) (k : ℕ) (x : List ℕ) → slice_get ys k ≡ Some x →
    slice_get (xs ++ ys) (length xs + k) ≡ Some x
got_right [] ys k x e = let same : 0 + k ≡ k = omega arith in ap (λ (i : ℕ). slice_get ys i) same ∙ e
got_right (z ∷ xs) ys k x e =
    let same : length (z ∷ xs) + k ≡ suc (length xs + k) = omega arith in
    ap (λ (i : ℕ). slice_get ((z ∷ xs) ++ ys) i) same ∙ got_right xs ys k x e

-- ---- a name stands for a single value

module _ (names : List (List ℕ)) (rows : List LetRow) (once : NoNameTwice (names ++ names_of_lets rows))
    (free : AreNames names) (good : AreNames (names_of_lets rows)) where
  -- the lets with which one name begins are one
  one_let : (x : List ℕ) (v w : Tree) → StartsAt rows x v → StartsAt rows x w → v ≡ w
  one_let x v w a b =
      let same : a.row.name ≡ b.row.name = one_start a.row.name b.row.name a.tail b.tail
      (no_bar a.row.name (name_good rows a.place a.row good a.here))
      (no_bar b.row.name (name_good rows b.place b.row good b.here)) a.ends b.ends (sym a.name ∙ b.name) in
      let first = got_right names (names_of_lets rows) a.place a.row.name (name_there rows a.place a.row a.here) in
      let second = got_right names (names_of_lets rows) b.place b.row.name (name_there rows b.place b.row b.here) in
      let at : length names + a.place ≡ length names + b.place = once (length names + a.place) (length names + b.place)
      b.row.name (first ∙ ap (λ (z : List ℕ). Some z) same) second in
      let place : a.place ≡ b.place = omega (arith, at) in
      let row : a.row ≡ b.row = same_Some a.row b.row
      (sym a.here ∙ ap (λ (k : ℕ). slice_get rows k) place ∙ b.here) in
      sym a.value ∙ ap (λ (z : LetRow). z.value) row ∙ b.value

  -- no free name begins so
  not_free : (x : List ℕ) (v : Tree) (k : ℕ) → StartsAt rows x v → slice_get names k ≡ Some x → ⊥
  not_free x v k a e = go a.ends
    where
      at : (xs : List (List ℕ)) (i : ℕ) → AreNames xs → slice_get xs i ≡ Some x → IsName x
      at [] i h f = absurd (cc)
      at (z ∷ xs) zero h f = subst IsName (same_Some z x f) h.0
      at (z ∷ xs) (suc i) h f = at xs i h.1 f

      go : IsTail a.tail → ⊥
      go (inl none) =
          let is : x ≡ a.row.name = a.name ∙ ap (λ (z : List ℕ). a.row.name ++ z) none ∙ append-nil a.row.name in
          let first = got_left names (names_of_lets rows) k x e in
          let second = got_right names (names_of_lets rows) a.place a.row.name (name_there rows a.place a.row a.here) in
          let same : k ≡ length names + a.place = once k (length names + a.place) a.row.name
          (first ∙ ap (λ (z : List ℕ). Some z) is) second in
          let l = slice_get_within names k x e in absurd (omega (arith, same, l))
      go (inr t) = clash (sym (no_bar x (at names k free e))
          ∙ ap (λ (z : List ℕ). has_bar z) (a.name ∙ ap (λ (z : List ℕ). a.row.name ++ z) t.1)
          ∙ has_it a.row.name t.0)

-- ---- each word has a row

-- a name among those of rows is that of a row
row_named : (rows : List LetRow) (x : List ℕ) → is_among (names_of_lets rows) x ≡ true →
    (k : ℕ) × (q : LetRow) × (slice_get rows k ≡ Some q) × (q.name ≡ x)
row_named [] x h = absurd (clash h)
row_named (q ∷ rows) x h = go (bytes_eq q.name x) refl (row_named rows x) h
  where
    go : (b : Bool) → bytes_eq q.name x ≡ b → (is_among (names_of_lets rows) x ≡ true →
        (k : ℕ) × (p : LetRow) × (slice_get rows k ≡ Some p) × (p.name ≡ x)) →
        (b || is_among (names_of_lets rows) x) ≡ true →
        (k : ℕ) × (p : LetRow) × (slice_get (q ∷ rows) k ≡ Some p) × (p.name ≡ x)
    go true e each i = (0, q, refl, (bytes_eq-Decides q.name x).0 e)
    go false e each i = let (k, p, at, is) = each i in (suc k, p, at, is)

-- a name of rows is there, once the new ones are
new_has : (names : List (List ℕ)) (left : List LetRow) (k : ℕ) (q : LetRow) → slice_get left k ≡ Some q →
    is_among (names ++ names_of_lets (new_rows names left)) q.name ≡ true
new_has names [] k q e = absurd (cc)
new_has names (p ∷ left) zero q e = go (is_among names p.name) refl
  where
    more : List LetRow
    more = new_rows (names ++ p.name ∷ []) left

    same : p ≡ q
    same = same_Some p q e

    go : (b : Bool) → is_among names p.name ≡ b →
        is_among (names ++ names_of_lets (if b then new_rows names left else p ∷ more)) q.name ≡ true
    go true i =
        among_both names (names_of_lets (new_rows names left)) q.name
        ∙ ap (λ (b : Bool). b || is_among (names_of_lets (new_rows names left)) q.name)
        (ap (λ (z : LetRow). is_among names z.name) (sym same) ∙ i)
    go false i =
        among_at (names ++ p.name ∷ names_of_lets more) (length names + 0) q.name
        (got_right names (p.name ∷ names_of_lets more) 0 q.name (ap (λ (z : LetRow). Some z.name) same))
new_has names (p ∷ left) (suc j) q e =
    go (is_among names p.name) (new_has names left j q e) (new_has (names ++ p.name ∷ []) left j q e)
  where
    more : List LetRow
    more = new_rows (names ++ p.name ∷ []) left

    go : (b : Bool) → is_among (names ++ names_of_lets (new_rows names left)) q.name ≡ true →
        is_among ((names ++ p.name ∷ []) ++ names_of_lets more) q.name ≡ true →
        is_among (names ++ names_of_lets (if b then new_rows names left else p ∷ more)) q.name ≡ true
    go true first second = first
    go false first second =
        ap (λ (l : List (List ℕ)). is_among l q.name) (sym (append_assoc names (p.name ∷ []) (names_of_lets more)))
        ∙ second

-- the words of a let are among those of all
abbrev word_row : List LetRow → Bool → LetRow → LetRow
word_row rows kept q = record { name = names_for kept rows q.value q.binders; value = q.value; binders = leaf }

words_of_row : (rows left : List LetRow) (k : ℕ) (q : LetRow) (kept : Bool) → slice_get left k ≡ Some q →
    (j : ℕ) × (slice_get (word_rows rows left) j ≡ Some (word_row rows kept q))
words_of_row rows [] k q kept e = absurd (cc)
words_of_row rows (p ∷ left) zero q true e = (0, ap (λ (z : LetRow). Some (word_row rows true z)) (same_Some p q e))
words_of_row rows (p ∷ left) zero q false e = (1, ap (λ (z : LetRow). Some (word_row rows false z)) (same_Some p q e))
words_of_row rows (p ∷ left) (suc k) q kept e = let r = words_of_row rows left k q kept e in (suc (suc r.0), r.1)

-- ---- the word of a part is that of a let of its value

alike_is : (s r : Binders) → is_alike s r ≡ true → s ≡ r
alike_is binders.leaf binders.leaf h = refl
alike_is binders.leaf (binders.lam x s) h = absurd (clash h)
alike_is binders.leaf (binders.app p q) h = absurd (clash h)
alike_is (binders.lam x s) binders.leaf h = absurd (clash h)
alike_is (binders.lam x s) (binders.lam y r) h =
    let p = and_parts (bytes_eq x y) (is_alike s r) h in
    ap (λ (z : List ℕ). binders.lam z s) ((bytes_eq-Decides x y).0 p.0)
    ∙ ap (λ (z : Binders). binders.lam y z) (alike_is s r p.1)
alike_is (binders.lam x s) (binders.app p q) h = absurd (clash h)
alike_is (binders.app p q) binders.leaf h = absurd (clash h)
alike_is (binders.app p q) (binders.lam x s) h = absurd (clash h)
alike_is (binders.app p q) (binders.app a b) h =
    let r = and_parts (is_alike p a) (is_alike q b) h in
    ap (λ (z : Binders). binders.app z q) (alike_is p a r.0) ∙ ap (λ (z : Binders). binders.app a z) (alike_is q b r.1)

-- the names of binders play no part, where they aren't to be kept
any_names : (rows : List LetRow) (t : Tree) (s r : Binders) → names_for false rows t s ≡ names_for false rows t r
any_names [] t s r = refl
any_names (q ∷ rows) t s r =
    ap (λ (z : List ℕ). if is_same q.value t && true then barred q.name z else z) (any_names rows t s r)

-- where a word of those with a part's names isn't empty, one of the lets has the part's value and names
kept_row : (rows : List LetRow) (t : Tree) (s : Binders) → (names_for true rows t s ≡ [] → ⊥) →
    (k : ℕ) × (q : LetRow) × (slice_get rows k ≡ Some q) × (q.value ≡ t) × (q.binders ≡ s)
kept_row [] t s full = absurd (full refl)
kept_row (q ∷ rows) t s full = go (is_value_of true q t s) refl (kept_row rows t s) full
  where
    rest : List ℕ
    rest = names_for true rows t s

    go : (b : Bool) → is_value_of true q t s ≡ b → ((rest ≡ [] → ⊥) →
        (k : ℕ) × (p : LetRow) × (slice_get rows k ≡ Some p) × (p.value ≡ t) × (p.binders ≡ s)) →
        ((if b then barred q.name rest else rest) ≡ [] → ⊥) →
        (k : ℕ) × (p : LetRow) × (slice_get (q ∷ rows) k ≡ Some p) × (p.value ≡ t) × (p.binders ≡ s)
    go true e each more =
        let h = and_parts (is_same q.value t) (is_alike q.binders s) e in
        (0, q, refl, same_is q.value t h.0, alike_is q.binders s h.1)
    go false e each more = let (k, p, at, v, b) = each more in (suc k, p, at, v, b)

-- a word that a let's value is written by, and its row
record HasWord (rows : List LetRow) (v : Tree) (w : List ℕ) : Type 0 where
  place : ℕ
  row : LetRow
  here : slice_get (word_rows rows rows) place ≡ Some row
  name : row.name ≡ w
  value : row.value ≡ v

has_word : (rows : List LetRow) (k : ℕ) (q : LetRow) (s : Binders) → slice_get rows k ≡ Some q →
    HasWord rows q.value (word_for rows q.value s)
has_word rows k q s at = go (names_for true rows q.value s) refl
  where
    all : List ℕ
    all = names_for false rows q.value s

    go : (w : List ℕ) → names_for true rows q.value s ≡ w → HasWord rows q.value (or_else w all)
    go [] e =
        let r = words_of_row rows rows k q false at in record {
          place = r.0;
          row = word_row rows false q;
          here = r.1;
          name = any_names rows q.value q.binders s;
          value = refl;
        }
    go (b ∷ bs) e =
        let (j, p, there, v, c) = kept_row rows q.value s (λ none. no_byte b bs (sym e ∙ none)) in
        let r = words_of_row rows rows j p true there in record {
          place = r.0;
          row = word_row rows true p;
          here = r.1;
          name = ap (λ (z : Tree). names_for true rows z p.binders) v
              ∙ ap (λ (z : Binders). names_for true rows q.value z) c ∙ e;
          value = v;
        }

-- ---- the row is found

row_found : (n : ℕ) (rows : List LetRow) (k : ℕ) (q : LetRow) (x : List ℕ) (v : Tree) → slice_get rows k ≡ Some q →
    q.name ≡ x → q.value ≡ v → row_at n rows x v ≡ None → ⊥
row_found n [] k q x v e i j h = absurd (cc)
row_found n (p ∷ rows) zero q x v e i j h = go (bytes_eq p.name x && is_same p.value v) yes h
  where
    same : p ≡ q
    same = same_Some p q e

    yes : (bytes_eq p.name x && is_same p.value v) ≡ true
    yes = ap (λ (b : Bool). b && is_same p.value v)
        ((bytes_eq-Decides p.name x).1 (ap (λ (z : LetRow). z.name) same ∙ i))
        ∙ ap (λ (t : Tree). is_same t v) (ap (λ (z : LetRow). z.value) same ∙ j) ∙ same_itself v

    go : (b : Bool) → b ≡ true → (if b then Some n else row_at (n + 1) rows x v) ≡ None → ⊥
    go true y i = absurd (cc)
    go false y i = clash y
row_found n (p ∷ rows) (suc k) q x v e i j h =
    go (bytes_eq p.name x && is_same p.value v) (row_found (n + 1) rows k q x v e i j) h
  where
    go : (b : Bool) → (row_at (n + 1) rows x v ≡ None → ⊥) → (if b then Some n else row_at (n + 1) rows x v) ≡ None → ⊥
    go true each i = absurd (cc)
    go false each i = each i

module _ (names : List (List ℕ)) (rows : List LetRow) (once : NoNameTwice (names ++ names_of_lets rows))
    (free : AreNames names) (good : AreNames (names_of_lets rows)) where
  abbrev new : List LetRow
  new = new_rows (names ++ names_of_lets rows) (word_rows rows rows)

  abbrev g : Glossary
  g = record {
    names = names ++ names_of_lets (rows ++ new);
    first = length names;
    rows = rows ++ new;
    lets = rows;
  }

  all_start : AllStart rows (rows ++ new)
  all_start = both_start rows rows new (lets_start [] rows)
      (new_start rows (names ++ names_of_lets rows) (word_rows rows rows) (words_start [] rows good))

  -- a word has a row in the glossary
  in_glossary : (v : Tree) (w : List ℕ) → HasWord rows v w →
      (k : ℕ) × (q : LetRow) × (slice_get (rows ++ new) k ≡ Some q) × (q.name ≡ w) × (q.value ≡ v)
  in_glossary v w h =
      let starts = subst (λ (z : List ℕ). StartsAt rows z h.row.value) h.name
      (start_at rows (word_rows rows rows) h.place h.row (words_start [] rows good) h.here) in
      let among : is_among (names ++ names_of_lets (rows ++ new)) w ≡ true =
      ap (λ (l : List (List ℕ)). is_among (names ++ l) w) (map-append (λ (row : LetRow). row.name) rows new)
      ∙ ap (λ (l : List (List ℕ)). is_among l w) (sym (append_assoc names (names_of_lets rows) (names_of_lets new)))
      ∙ ap (λ (z : List ℕ). is_among ((names ++ names_of_lets rows) ++ names_of_lets new) z) (sym h.name)
      ∙ new_has (names ++ names_of_lets rows) (word_rows rows rows) h.place h.row h.here in
      let none : is_among names w ≡ false =
      among_nowhere names w (λ p e. not_free names rows once free good w h.row.value p starts e) in
      let here : is_among (names_of_lets (rows ++ new)) w ≡ true =
      ap (λ (b : Bool). b || is_among (names_of_lets (rows ++ new)) w) (sym none)
      ∙ sym (among_both names (names_of_lets (rows ++ new)) w) ∙ among in
      let (k, q, at, is) = row_named (rows ++ new) w here in
      let other = subst (λ (z : List ℕ). StartsAt rows z q.value) is (start_at rows (rows ++ new) k q all_start at) in
      (k, q, at, is, one_let names rows once free good w q.value h.row.value other starts ∙ h.value)

  pub shown : (k : ℕ) (q : LetRow) (s : Binders) → slice_get rows k ≡ Some q →
      slice_index_or g.names (written_number g (g.first + k) s) [] ≡ word_for rows q.value s
  shown k q s at =
      let n = length names in
      let low : n ≤ n + k = omega arith in
      let back : n + k - n ≡ k = omega arith in
      ap (λ (b : Bool). slice_index_or g.names
      (if b then n + k else word_number g (n + k) (slice_get g.rows (n + k - n)) s) []) (le-ltb (n + k) n low)
      ∙ ap (λ (o : Option LetRow). slice_index_or g.names (word_number g (n + k) o s) [])
      (ap (λ (i : ℕ). slice_get g.rows i) back ∙ got_left rows new k q at)
      ∙ found (row_at n g.rows w q.value) refl
    where
      w : List ℕ
      w = word_for rows q.value s

      found : (o : Option ℕ) → row_at g.first g.rows w q.value ≡ o →
          slice_index_or g.names (unwrap_or o (g.first + k)) [] ≡ w
      found None e =
          let (j, p, there, name, value) = in_glossary q.value w (has_word rows k q s at) in
          absurd (row_found g.first g.rows j p w q.value there name value e)
      found (Some m) e =
          let l = leads_to_row g.first g.rows w q.value m e in
          get_or-append_right names (names_of_lets g.rows) (length names) m [] refl l.from
          ∙ read g.rows (m - length names) l.row l.here ∙ (bytes_eq-Decides l.row.name w).0 l.name
        where
          read : (all : List LetRow) (i : ℕ) (r : LetRow) → slice_get all i ≡ Some r →
              slice_index_or (names_of_lets all) i [] ≡ r.name
          read [] i r e = absurd (cc)
          read (z ∷ all) zero r e = ap (λ (y : LetRow). y.name) (same_Some z r e)
          read (z ∷ all) (suc i) r e = read all i r e

pub word_is_shown : WordIsShown
word_is_shown bytes n source g s k row text is at =
    let names = names_of source in
    let b = binders_of source in
    let rows = lets names (let_names n b) (number source) b in
    let words = (readable bytes source text).words in
    let good = let_words names (let_names n b) (number source) b (words_of_lets n b words) in
    let whole = glossary names n (number source) b in
    let there : slice_get rows k ≡ Some row = ap (λ (h : Glossary). slice_get h.lets k) (sym is) ∙ at in
    subst (λ (h : Glossary). slice_index_or h.names (written_number h (h.first + k) s) [] ≡ word_for h.lets row.value s)
    (sym is)
    (shown names rows (names_differ names (let_names n b) (number source) b (free_names_differ source))
    (names_good bytes source text) good k row s there)
