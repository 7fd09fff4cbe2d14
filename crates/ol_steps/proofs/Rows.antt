-- Names of lets, and their values.
use Rattle.std.proofs.Common.{◌≡◌, ℕ, zero, suc, ◌<◌, ◌≤◌, ◌⊎◌, inl, inr, Bool, true, false, ◌&&◌, ◌||◌, not, List, [], ◌∷◌, ◌++◌, length}
use Rattle.std.proofs.Common.{Option, Some, None, refl, sym, ap, ◌∙◌, subst, arith, append_assoc}
use Rattle.std.specs.Prelude.{if◌then◌else◌, nat_le, slice_get}
use Rattle.std.specs.Str.{bytes_eq}
use Rattle.std.proofs.lemmas.Bool.{and_parts, and_from, or_parts, cases_lt, leb-true, le-leb, not-true}
use Rattle.std.proofs.lemmas.List.{map-append}
use Rattle.ol_term.specs.Trees as tree
use Rattle.ol_term.specs.Trees.{Tree, is_below, is_named_below, term_size, depth}
use Rattle.ol_term.specs.NameLists.{NoNameTwice, IsFirstPlace}
use Rattle.ol_term.specs.BinderNames.{is_among}
use Rattle.ol_term.proofs.BinderTexts.{among_at}
use Rattle.ol_beta.specs.Beta.{contracted, IsWithin, IsPast, IsPastAfter}
use Rattle.ol_beta.proofs.Bound.{step_below}
use Rattle.ol_steps.proofs.Among.{among_both}
use Rattle.ol_steps.specs.Binders.{Binders, names_in_argument}
use Rattle.ol_steps.specs.Contraction as own
use Rattle.ol_steps.specs.Lets.{LetRow, value_of, is_closed, is_small, if_small, no_more, row_if, lets, names_of_lets, values_of_lets}
use Rattle.ol_steps.specs.Words.{new_rows, with_words, word_rows}
use Rattle.ol_steps.specs.LetLaws.{LetsDiffer, ValuesAreClosed}

clash : false ≡ true → ⊥
clash e = absurd (cc)

-- ---- names

-- the rows of the lets behind one, where so they are for each term
abbrev Behind : (names later : List (List ℕ)) → Tree → Binders → List LetRow
Behind names later t s = if_small (λ u. lets names later u (own.contracted t s [])) (contracted t [])

-- what isn't among the later names is no name of a let that counts
names_behind : (each : Tree → List LetRow) (o : Option Tree) (x : List ℕ) →
    ((t : Tree) → is_among (names_of_lets (each t)) x ≡ false) → is_among (names_of_lets (if_small each o)) x ≡ false
names_behind each None x h = refl
names_behind each (Some t) x h = go (is_small t)
  where
    go : (b : Bool) → is_among (names_of_lets (if b then each t else [])) x ≡ false
    go true = h t
    go false = refl

one_name : (b : Bool) (y x : List ℕ) (v : Tree) (s : Binders) → bytes_eq y x ≡ false →
    is_among (names_of_lets (row_if b y v s)) x ≡ false
one_name true y x v s h = ap (λ (b : Bool). b || false) h
one_name false y x v s h = refl

or_from : (a b : Bool) → a ≡ false → b ≡ false → (a || b) ≡ false
or_from a b h i = ap (λ (c : Bool). c || b) h ∙ i

not_later : (names later : List (List ℕ)) (x : List ℕ) → is_among later x ≡ false → (t : Tree) (s : Binders) →
    is_among (names_of_lets (lets names later t s)) x ≡ false
not_later names [] x h t s = refl
not_later names (y ∷ later) x h t s =
    let p = or_parts (bytes_eq y x) (is_among later x) h in
    let b = is_closed (value_of t) && not (is_among (names ++ later) y) in
    let more = Behind names later t s in
    let one = row_if b y (value_of t) (names_in_argument s) in
    ap (λ (l : List (List ℕ)). is_among l x) (map-append (λ (row : LetRow). row.name) more one)
    ∙ among_both (names_of_lets more) (names_of_lets one) x
    ∙ or_from (is_among (names_of_lets more) x) (is_among (names_of_lets one) x)
    (names_behind (λ u. lets names later u (own.contracted t s [])) (contracted t []) x
    (λ u. not_later names later x p.1 u (own.contracted t s [])))
    (one_name b y x (value_of t) (names_in_argument s) p.0)

-- one name more
none_twice : (xs : List (List ℕ)) (x : List ℕ) → NoNameTwice xs → is_among xs x ≡ false → NoNameTwice (xs ++ x ∷ [])
none_twice xs x once new j k y e f = go (cases_lt j (length xs)) (cases_lt k (length xs))
  where
    same : (o p : List ℕ) → Some o ≡ Some p → o ≡ p
    same o p e = cc

    inside : (xs : List (List ℕ)) (i : ℕ) → i < length xs → slice_get (xs ++ x ∷ []) i ≡ slice_get xs i
    inside [] i h = absurd (omega (arith, h))
    inside (z ∷ xs) zero h = refl
    inside (z ∷ xs) (suc i) h = inside xs i (omega (arith, h))

    outside : (xs : List (List ℕ)) (i : ℕ) (z : List ℕ) → length xs ≤ i → slice_get (xs ++ x ∷ []) i ≡ Some z →
        (i ≡ length xs) × (x ≡ z)
    outside [] zero z h e = (refl, same x z e)
    outside [] (suc i) z h e = let n : None ≡ Some z = e in absurd (cc)
    outside (w ∷ xs) zero z h e = absurd (omega (arith, h))
    outside (w ∷ xs) (suc i) z h e =
        let r = outside xs i z (omega (arith, h)) e in
        let q = r.0 in (omega (arith, q), r.1)

    taken : (i : ℕ) → slice_get xs i ≡ Some x → ⊥
    taken i h = clash (sym new ∙ among_at xs i x h)

    go : (j < length xs) ⊎ (length xs ≤ j) → (k < length xs) ⊎ (length xs ≤ k) → j ≡ k
    go (inl a) (inl b) = once j k y (sym (inside xs j a) ∙ e) (sym (inside xs k b) ∙ f)
    go (inl a) (inr b) =
        let r = outside xs k y b f in
        absurd (taken j (sym (inside xs j a) ∙ e ∙ ap (λ (z : List ℕ). Some z) (sym r.1)))
    go (inr a) (inl b) =
        let r = outside xs j y a e in
        absurd (taken k (sym (inside xs k b) ∙ f ∙ ap (λ (z : List ℕ). Some z) (sym r.1)))
    go (inr a) (inr b) =
        let r = (outside xs j y a e).0 in
        let q = (outside xs k y b f).0 in
        omega (arith, r, q)

pub append_none : (xs : List (List ℕ)) → xs ≡ xs ++ []
append_none [] = refl
append_none (x ∷ xs) = ap (λ (ys : List (List ℕ)). x ∷ ys) (append_none xs)

pick_small : (names : List (List ℕ)) (rows : List LetRow) (b : Bool) → NoNameTwice names →
    NoNameTwice (names ++ names_of_lets rows) → NoNameTwice (names ++ names_of_lets (if b then rows else []))
pick_small names rows true once h = h
pick_small names rows false once h = subst NoNameTwice (append_none names) once

differ_behind : (names : List (List ℕ)) (each : Tree → List LetRow) (o : Option Tree) → NoNameTwice names →
    ((u : Tree) → NoNameTwice (names ++ names_of_lets (each u))) → NoNameTwice (names ++ names_of_lets (if_small each o))
differ_behind names each None once h = subst NoNameTwice (append_none names) once
differ_behind names each (Some u) once h = pick_small names (each u) (is_small u) once (h u)

with_one : (names rows : List (List ℕ)) (x : List ℕ) (v : Tree) (s : Binders) (b : Bool) → NoNameTwice (names ++ rows) →
    (b ≡ true → is_among (names ++ rows) x ≡ false) → NoNameTwice (names ++ (rows ++ names_of_lets (row_if b x v s)))
with_one names rows x v s true once new =
    subst NoNameTwice (append_assoc names rows (x ∷ [])) (none_twice (names ++ rows) x once (new refl))
with_one names rows x v s false once new =
    subst NoNameTwice (ap (λ (l : List (List ℕ)). names ++ l) (append_none rows)) once

-- a let that counts has a name that isn't there yet
fresh_name : (names later : List (List ℕ)) (x : List ℕ) (s : Binders) (o : Option Tree) (closed : Bool) →
    (closed && not (is_among (names ++ later) x)) ≡ true →
    is_among (names ++ names_of_lets (if_small (λ u. lets names later u s) o)) x ≡ false
fresh_name names later x s o closed h =
    let new = not-true (is_among (names ++ later) x) (and_parts closed (not (is_among (names ++ later) x)) h).1 in
    let p = or_parts (is_among names x) (is_among later x) (sym (among_both names later x) ∙ new) in
    let rows = names_of_lets (if_small (λ u. lets names later u s) o) in
    among_both names rows x
    ∙ or_from (is_among names x) (is_among rows x) p.0
    (names_behind (λ u. lets names later u s) o x (λ u. not_later names later x p.1 u s))

pub names_differ : (names later : List (List ℕ)) (t : Tree) (s : Binders) → NoNameTwice names →
    NoNameTwice (names ++ names_of_lets (lets names later t s))
names_differ names [] t s once = subst NoNameTwice (append_none names) once
names_differ names (x ∷ later) t s once =
    let more = Behind names later t s in
    let r = own.contracted t s [] in
    let b = is_closed (value_of t) && not (is_among (names ++ later) x) in
    subst NoNameTwice (sym (ap (λ (l : List (List ℕ)). names ++ l)
    (map-append (λ (row : LetRow). row.name) more (row_if b x (value_of t) (names_in_argument s)))))
    (with_one names (names_of_lets more) x (value_of t) (names_in_argument s) b
    (differ_behind names (λ u. lets names later u r) (contracted t []) once (λ u. names_differ names later u r once))
    (fresh_name names later x r (contracted t []) (is_closed (value_of t))))

-- and the words that are no names yet
new_differ : (names : List (List ℕ)) (rows : List LetRow) → NoNameTwice names →
    NoNameTwice (names ++ names_of_lets (new_rows names rows))
new_differ names [] once = subst NoNameTwice (append_none names) once
new_differ names (row ∷ rows) once =
    go (is_among names row.name) refl (new_differ names rows once)
    (λ e. new_differ (names ++ row.name ∷ []) rows (none_twice names row.name once e))
  where
    more : List LetRow
    more = new_rows (names ++ row.name ∷ []) rows

    go : (b : Bool) → is_among names row.name ≡ b → NoNameTwice (names ++ names_of_lets (new_rows names rows)) →
        (is_among names row.name ≡ false → NoNameTwice ((names ++ row.name ∷ []) ++ names_of_lets more)) →
        NoNameTwice (names ++ names_of_lets (if b then new_rows names rows else row ∷ more))
    go true e first second = first
    go false e first second =
        subst NoNameTwice (append_assoc names (row.name ∷ []) (names_of_lets more)) (second e)

pub lets_differ : LetsDiffer
lets_differ names later t s once =
    let rows = lets names later t s in
    let new = new_rows (names ++ names_of_lets rows) (word_rows rows rows) in
    subst NoNameTwice
    (append_assoc names (names_of_lets rows) (names_of_lets new)
    ∙ ap (λ (l : List (List ℕ)). names ++ l) (sym (map-append (λ (row : LetRow). row.name) rows new)))
    (new_differ (names ++ names_of_lets rows) (word_rows rows rows) (names_differ names later t s once))

-- ---- values

abbrev AllClosed : List Tree → Type 0
AllClosed [] = Unit {0}
AllClosed (v ∷ vs) = (is_below 0 v ≡ true) × (is_named_below 0 v ≡ true) × AllClosed vs

more_closed : (vs ws : List Tree) → AllClosed vs → AllClosed ws → AllClosed (vs ++ ws)
more_closed [] ws h i = i
more_closed (v ∷ vs) ws h i = (h.0, h.1, more_closed vs ws h.2 i)

value_below : (t : Tree) → is_below 0 t ≡ true → is_below 0 (value_of t) ≡ true
value_below (tree.var k) h = h
value_below (tree.free k) h = h
value_below (tree.lam t) h = h
value_below (tree.app f a) h = (and_parts (is_below 0 f) (is_below 0 a) h).1

one_closed : (b c : Bool) (x : List ℕ) (v : Tree) (s : Binders) → is_below 0 v ≡ true → is_closed v ≡ b →
    AllClosed (values_of_lets (row_if (b && c) x v s))
one_closed true true x v s h e = (h, e, tt)
one_closed true false x v s h e = tt
one_closed false c x v s h e = tt

closed_behind : (each : Tree → List LetRow) (t : Tree) (o : Option Tree) → contracted t [] ≡ o →
    is_below 0 t ≡ true → ((u : Tree) → is_below 0 u ≡ true → AllClosed (values_of_lets (each u))) →
    AllClosed (values_of_lets (if_small each o))
closed_behind each t None e h more = tt
closed_behind each t (Some u) e h more = go (is_small u)
  where
    go : (b : Bool) → AllClosed (values_of_lets (if b then each u else []))
    go true = more u (step_below 0 t [] u h e)
    go false = tt

all_closed : (names later : List (List ℕ)) (t : Tree) (s : Binders) → is_below 0 t ≡ true →
    AllClosed (values_of_lets (lets names later t s))
all_closed names [] t s h = tt
all_closed names (x ∷ later) t s h =
    let more = Behind names later t s in
    let r = own.contracted t s [] in
    let b = is_closed (value_of t) && not (is_among (names ++ later) x) in
    let one = row_if b x (value_of t) (names_in_argument s) in
    subst AllClosed (sym (map-append (λ (row : LetRow). row.value) more one))
    (more_closed (values_of_lets more) (values_of_lets one)
    (closed_behind (λ u. lets names later u r) t (contracted t []) refl h (λ u i. all_closed names later u r i))
    (one_closed (is_closed (value_of t)) (not (is_among (names ++ later) x)) x (value_of t) (names_in_argument s)
    (value_below t h) refl))

-- so are those of words
words_closed : (rows left : List LetRow) → AllClosed (values_of_lets left) → AllClosed (values_of_lets (word_rows rows left))
words_closed rows [] h = tt
words_closed rows (row ∷ left) h = (h.0, h.1, (h.0, h.1, words_closed rows left h.2))

new_closed : (names : List (List ℕ)) (rows : List LetRow) → AllClosed (values_of_lets rows) →
    AllClosed (values_of_lets (new_rows names rows))
new_closed names [] h = tt
new_closed names (row ∷ rows) h =
    go (is_among names row.name) (new_closed names rows h.2) (new_closed (names ++ row.name ∷ []) rows h.2)
  where
    more : List LetRow
    more = new_rows (names ++ row.name ∷ []) rows

    go : (b : Bool) → AllClosed (values_of_lets (new_rows names rows)) → AllClosed (values_of_lets more) →
        AllClosed (values_of_lets (if b then new_rows names rows else row ∷ more))
    go true first second = first
    go false first second = (h.0, h.1, second)

closed_at : (vs : List Tree) (k : ℕ) (v : Tree) → AllClosed vs → slice_get vs k ≡ Some v →
    (is_below 0 v ≡ true) × (is_named_below 0 v ≡ true)
closed_at [] k v h e = let n : None ≡ Some v = e in absurd (cc)
closed_at (w ∷ vs) zero v h e =
    let s : w ≡ v = cc in
    subst (λ (u : Tree). (is_below 0 u ≡ true) × (is_named_below 0 u ≡ true)) s (h.0, h.1)
closed_at (w ∷ vs) (suc k) v h e = closed_at vs k v h.2 e

pub values_are_closed : ValuesAreClosed
values_are_closed names later t v s k h e =
    let rows = lets names later t s in
    let new = new_rows (names ++ names_of_lets rows) (word_rows rows rows) in
    let closed = all_closed names later t s h in
    closed_at (values_of_lets (with_words names rows)) k v
    (subst AllClosed (sym (map-append (λ (row : LetRow). row.value) rows new))
    (more_closed (values_of_lets rows) (values_of_lets new) closed
    (new_closed (names ++ names_of_lets rows) (word_rows rows rows) (words_closed rows rows closed)))) e

-- ---- what is small

pub small_if : (t : Tree) → IsWithin t → is_small t ≡ true
small_if t w = and_from (nat_le (term_size t) 100000) (nat_le (depth t) 1000) (le-leb (term_size t) 100000 w.0)
    (le-leb (depth t) 1000 w.1)

pub not_small : (t : Tree) → IsPast t → is_small t ≡ false
not_small t p = go (is_small t) refl
  where
    past : IsPast t → (term_size t ≤ 100000) → (depth t ≤ 1000) → ⊥
    past (inl h) a b = absurd (omega (arith, h, a))
    past (inr h) a b = absurd (omega (arith, h, b))

    go : (b : Bool) → is_small t ≡ b → b ≡ false
    go false e = refl
    go true e =
        let q = and_parts (nat_le (term_size t) 100000) (nat_le (depth t) 1000) e in
        absurd (past p (leb-true (term_size t) 100000 q.0) (leb-true (depth t) 1000 q.1))

-- ---- one row more

-- a new name goes last
pub added : (old new : List (List ℕ)) (x : List ℕ) (k : ℕ) → is_among old x ≡ false → IsFirstPlace new x k →
    (k < length old → new ≡ old) → (length old ≤ k → new ≡ old ++ x ∷ []) → new ≡ old ++ x ∷ []
added old new x k fresh first known last = go (cases_lt k (length old))
  where
    go : (k < length old) ⊎ (length old ≤ k) → new ≡ old ++ x ∷ []
    go (inr l) = last l
    go (inl l) =
        absurd (clash (sym fresh ∙ among_at old k x (subst (λ (ys : List (List ℕ)). slice_get ys k ≡ Some x) (known l) first.here)))

pub nothing_named : (names later : List (List ℕ)) (t : Tree) (s : Binders) → later ≡ [] →
    names ≡ names ++ names_of_lets (lets names later t s)
nothing_named names later t s e =
    append_none names ∙ ap (λ (l : List (List ℕ)). names ++ names_of_lets (lets names l t s)) (sym e)

pub no_rows : (rows : List LetRow) → rows ≡ rows ++ []
no_rows [] = refl
no_rows (row ∷ rows) = ap (λ (l : List LetRow). row ∷ l) (no_rows rows)

pub nothing_valued : (rows : List LetRow) (names later : List (List ℕ)) (t : Tree) (s : Binders) → later ≡ [] →
    rows ≡ rows ++ lets names later t s
nothing_valued rows names later t s e =
    no_rows rows ∙ ap (λ (l : List (List ℕ)). rows ++ lets names l t s) (sym e)

none_small : (each : Tree → List LetRow) (o : Option Tree) → no_more o → if_small each o ≡ []
none_small each None h = refl
none_small each (Some u) h = ap (λ (b : Bool). if b then each u else []) h

some_small : (each : Tree → List LetRow) (o : Option Tree) (u : Tree) → o ≡ Some u → IsWithin u →
    if_small each o ≡ each u
some_small each o u e w =
    ap (if_small each) e ∙ ap (λ (b : Bool). if b then each u else []) (small_if u w)

module _ (names later : List (List ℕ)) (x : List ℕ) (t : Tree) (s : Binders) (kept : Bool)
    (kept_is : kept ≡ (is_closed (value_of t) && not (is_among (names ++ later) x))) where
  abbrev each : Tree → List LetRow
  each u = lets names later u (own.contracted t s [])

  abbrev one : List LetRow
  one = row_if kept x (value_of t) (names_in_argument s)

  rows_are : lets names (x ∷ later) t s ≡ if_small each (contracted t []) ++ one
  rows_are = ap (λ (b : Bool). if_small each (contracted t []) ++ row_if b x (value_of t) (names_in_argument s)) (sym kept_is)

  kept_fresh : (o : Option Tree) → kept ≡ true → is_among (names ++ names_of_lets (if_small each o)) x ≡ false
  kept_fresh o e = fresh_name names later x (own.contracted t s []) o (is_closed (value_of t)) (sym kept_is ∙ e)

  module _ (none : no_more (contracted t [])) where
    pub none_new : kept ≡ true → is_among names x ≡ false
    none_new e = ap (λ (l : List (List ℕ)). is_among l x) (append_none names) ∙ kept_fresh None e

    none_rows : lets names (x ∷ later) t s ≡ one
    none_rows = rows_are ∙ ap (λ (l : List LetRow). l ++ one) (none_small each (contracted t []) none)

    pub none_names : (new : List (List ℕ)) → new ≡ names ++ names_of_lets one →
        new ≡ names ++ names_of_lets (lets names (x ∷ later) t s)
    none_names new e = e ∙ ap (λ (l : List LetRow). names ++ names_of_lets l) (sym none_rows)

    pub none_values : (old new : List LetRow) → new ≡ old ++ one → new ≡ old ++ lets names (x ∷ later) t s
    none_values old new e = e ∙ ap (λ (l : List LetRow). old ++ l) (sym none_rows)

  module _ (u : Tree) (some : contracted t [] ≡ Some u) (small : IsWithin u) where
    pub some_new : (mid : List (List ℕ)) → mid ≡ names ++ names_of_lets (each u) → kept ≡ true → is_among mid x ≡ false
    some_new mid m e =
        ap (λ (l : List (List ℕ)). is_among l x) m
        ∙ ap (λ (l : List LetRow). is_among (names ++ names_of_lets l) x)
        (sym (some_small each (contracted t []) u some small))
        ∙ kept_fresh (contracted t []) e

    some_rows : lets names (x ∷ later) t s ≡ each u ++ one
    some_rows = rows_are ∙ ap (λ (l : List LetRow). l ++ one) (some_small each (contracted t []) u some small)

    pub some_names : (mid new : List (List ℕ)) → mid ≡ names ++ names_of_lets (each u) →
        new ≡ mid ++ names_of_lets one → new ≡ names ++ names_of_lets (lets names (x ∷ later) t s)
    some_names mid new m e =
        e ∙ ap (λ (l : List (List ℕ)). l ++ names_of_lets one) m
        ∙ append_assoc names (names_of_lets (each u)) (names_of_lets one)
        ∙ ap (λ (l : List (List ℕ)). names ++ l) (sym (map-append (λ (row : LetRow). row.name) (each u) one))
        ∙ ap (λ (l : List LetRow). names ++ names_of_lets l) (sym some_rows)

    pub some_values : (old mid new : List LetRow) → mid ≡ old ++ each u → new ≡ mid ++ one →
        new ≡ old ++ lets names (x ∷ later) t s
    some_values old mid new m e =
        e ∙ ap (λ (l : List LetRow). l ++ one) m
        ∙ append_assoc old (each u) one
        ∙ ap (λ (l : List LetRow). old ++ l) (sym some_rows)

-- ---- behind a let

pub no_more_root : (t : Tree) (at : List ℕ) → at ≡ [] → contracted t at ≡ None → no_more (contracted t [])
no_more_root t at e h = subst no_more (sym (ap (contracted t) (sym e) ∙ h)) tt

pub no_more_past : (t : Tree) (at : List ℕ) (size deep : ℕ) → at ≡ [] → IsPastAfter t at size deep → no_more (contracted t [])
no_more_past t at size deep e p = subst no_more (sym (ap (contracted t) (sym e) ∙ p.is)) (not_small p.after p.past)
