-- An index of names, and one more name.
use Rattle.std.proofs.Common.{◌≡◌, ℕ, zero, suc, ◌<◌, ◌≤◌, List, [], ◌∷◌, ◌++◌, map, length, length-append, Bool, true}
use Rattle.std.proofs.Common.{false, cond, Less, Equal, Greater, Vec, Global, Option, Some, None, IsNone, ◌↔◌, inl, inr}
use Rattle.std.proofs.Common.{refl, sym, ap, ◌∙◌, subst, arith}
use Rattle.std.specs.Prelude.{◌≢◌, slice_get}
use Rattle.std.proofs.lemmas.Bool.{cases_lt}
use Rattle.std.proofs.lemmas.Cmp.{nat_list_cmp_total, tied_itself}
use Rattle.std.proofs.lemmas.Map.Lookups.{exact_bytes}
use Rattle.std.specs.BTreeMap.{insert_entry}
use Rattle.std.specs.Ordering.{match_ordering, nat_cmp, is_eq}
use Rattle.std.specs.declared.cmp.Ordering.{Ordering}
use Rattle.std.specs.Cmp.Lexicographic.{slice_cmp}
use Rattle.ol_term.specs.NameLists.{IsFirstPlace, NoNameTwice}
use Rattle.ol_term.specs.NameIndexes.{by_bytes}
use Rattle.ol_term.specs.NameFinds.{found, IsIndexed}

pub below_added : (names more : List (List ℕ)) (j : ℕ) → j < length names →
    slice_get (names ++ more) j ≡ slice_get names j
below_added [] more j h = absurd (omega arith)
below_added (y ∷ ys) more zero h = refl
below_added (y ∷ ys) more (suc j) h = below_added ys more j (omega arith)

abbrev pub Key : Type 0
Key = Vec ℕ Global

abbrev sees : List ℕ → Key → Bool
sees name key = is_eq (slice_cmp nat_cmp name key.items)

equal : (o : Ordering) → is_eq o ≡ true → o ≡ Equal
equal Less h = absurd (cc)
equal Equal h = refl
equal Greater h = absurd (cc)

seen : (name : List ℕ) (key : Key) → sees name key ≡ true → name ≡ key.items
seen name key h = exact_bytes name key.items (equal (slice_cmp nat_cmp name key.items) h)

swapped : (a b : Bool) (x y r : Option ℕ) → (a ≡ true → b ≡ true → ⊥) → cond a x (cond b y r) ≡ cond b y (cond a x r)
swapped true true x y r h = absurd (h refl refl)
swapped true false x y r h = refl
swapped false true x y r h = refl
swapped false false x y r h = refl

-- what the index has, once a key that it lacks is put in
put_found : (q : List ℕ) (key : Key) (n : ℕ) (es : List (Key × ℕ)) → found key.items es ≡ None →
    found q (insert_entry by_bytes es key n) ≡ cond (sees q key) (Some n) (found q es)
put_found q key n [] h = refl
put_found q key n (e ∷ es) h = go (put_found q key n es) (by_bytes key e.0) refl h
  where
    go : (found key.items es ≡ None → found q (insert_entry by_bytes es key n) ≡ cond (sees q key)
        (Some n) (found q es)) → (o : Ordering) → by_bytes key e.0 ≡ o →
        cond (is_eq o) (Some e.1) (found key.items es) ≡ None
        → found q (match_ordering o ((key, n) ∷ e ∷ es) ((e.0, n) ∷ es)
        (e ∷ insert_entry by_bytes es key n)) ≡ cond (sees q key) (Some n)
        (cond (sees q e.0) (Some e.1) (found q es))
    go each Less i h = refl
    go each Equal i h = absurd (cc)
    go each Greater i h =
        ap (cond (sees q e.0) (Some e.1)) (each h)
        ∙ swapped (sees q e.0) (sees q key) (Some e.1) (Some n) (found q es) (λ s t.
        let same : key.items ≡ e.0.items = sym (seen q key t) ∙ seen q e.0 s in
        let tied : by_bytes key e.0 ≡ Equal = ap (λ l. slice_cmp nat_cmp key.items l) (sym same)
        ∙ tied_itself nat_list_cmp_total key.items in
        absurd (cc))

-- ---- places

get_last : (names : List (List ℕ)) (name : List ℕ) → slice_get (names ++ name ∷ []) (length names) ≡ Some name
get_last [] name = refl
get_last (y ∷ ys) name = get_last ys name

past : (names : List (List ℕ)) (j : ℕ) → length names ≤ j → slice_get names j ≡ None
past [] j h = refl
past (y ∷ ys) zero h = absurd (omega arith)
past (y ∷ ys) (suc j) h = past ys j (omega arith)

inside : (names : List (List ℕ)) (j : ℕ) (x : List ℕ) → slice_get names j ≡ Some x → j < length names
inside names j x h = elim (cases_lt j (length names)) [
  | inl low ↦ low
  | inr high ↦ (let e = past names j (omega arith) in absurd (cc))
]

-- a first place stays one
place_stays : (names : List (List ℕ)) (name q : List ℕ) (k : ℕ) → IsFirstPlace names q k →
    IsFirstPlace (names ++ name ∷ []) q k
place_stays names name q k f =
    let low = inside names k q f.here in
    record {
      here = below_added names (name ∷ []) k low ∙ f.here;
      before = λ j h e. f.before j h (sym (below_added names (name ∷ []) j (omega arith)) ∙ e);
    }

-- the last place is the first of a new name
last_place : (names : List (List ℕ)) (name : List ℕ) → ((j : ℕ) → slice_get names j ≢ Some name) →
    IsFirstPlace (names ++ name ∷ []) name (length names)
last_place names name each = record {
  here = get_last names name;
  before = λ j h e. each j (sym (below_added names (name ∷ []) j h) ∙ e);
}

-- ---- one more name

first_more : (names : List (List ℕ)) (es : List (Key × ℕ)) (key : Key) (q : List ℕ) (k : ℕ) →
    IsIndexed names es → found key.items es ≡ None → (s : Bool) → sees q key ≡ s →
    cond s (Some (length names)) (found q es) ≡ Some k → IsFirstPlace (names ++ key.items ∷ []) q k
first_more names es key q k i h true e p =
    let n : length names ≡ k = cc in
    let same : key.items ≡ q = sym (seen q key e) in
    subst (λ q. IsFirstPlace (names ++ key.items ∷ []) q k) same
    (subst (λ k. IsFirstPlace (names ++ key.items ∷ []) key.items k) n
    (last_place names key.items (i.all key.items h)))
first_more names es key q k i h false e p = place_stays names key.items q k (i.first q k p)

all_more : (names : List (List ℕ)) (es : List (Key × ℕ)) (key : Key) (q : List ℕ) (j : ℕ) →
    IsIndexed names es → (s : Bool) → sees q key ≡ s →
    cond s (Some (length names)) (found q es) ≡ None → slice_get (names ++ key.items ∷ []) j ≡ Some q → ⊥
all_more names es key q j i true e p g = absurd (cc)
all_more names es key q j i false e p g = elim (cases_lt j (length names)) [
  | inl low ↦ i.all q p j (sym (below_added names (key.items ∷ []) j low) ∙ g)
  | inr high ↦ (
      let l = inside (names ++ key.items ∷ []) j q g in
      let here : j ≡ length names = omega (arith, length-append names (key.items ∷ [])) in
      let both : Some key.items ≡ Some q = sym (get_last names key.items)
      ∙ ap (slice_get (names ++ key.items ∷ [])) (sym here) ∙ g in
      let same : key.items ≡ q = cc in
      let tied : slice_cmp nat_cmp q key.items ≡ Equal = ap (λ l. slice_cmp nat_cmp q l) same
      ∙ tied_itself nat_list_cmp_total q in
      absurd (cc)
      )
]

-- a new name is none of those before
not_new : (names : List (List ℕ)) (es : List (Key × ℕ)) (key : Key) (j : ℕ) → IsIndexed names es →
    found key.items es ≡ None → j < length names → slice_get (names ++ key.items ∷ []) j ≡ Some key.items → ⊥
not_new names es key j i h low g = i.all key.items h j (sym (below_added names (key.items ∷ []) j low) ∙ g)

last_is : (names : List (List ℕ)) (key : Key) (j : ℕ) (x : List ℕ) → length names ≤ j →
    slice_get (names ++ key.items ∷ []) j ≡ Some x → (j ≡ length names) × (x ≡ key.items)
last_is names key j x high g =
    let l = inside (names ++ key.items ∷ []) j x g in
    let here : j ≡ length names = omega (arith, length-append names (key.items ∷ [])) in
    let both : Some x ≡ Some key.items = sym g ∙ ap (slice_get (names ++ key.items ∷ [])) here
    ∙ get_last names key.items in
    (here, cc)

different_more : (names : List (List ℕ)) (es : List (Key × ℕ)) (key : Key) → IsIndexed names es →
    found key.items es ≡ None → NoNameTwice (names ++ key.items ∷ [])
different_more names es key i h j k x g g' = elim (cases_lt j (length names)) [
  | inl low ↦ elim (cases_lt k (length names)) [
    | inl low' ↦ i.different j k x (sym (below_added names (key.items ∷ []) j low) ∙ g)
        (sym (below_added names (key.items ∷ []) k low') ∙ g')
    | inr high' ↦ (let l = last_is names key k x high' g' in
        absurd (not_new names es key j i h low (g ∙ ap (λ x. Some x) l.1)))
  ]
  | inr high ↦ (
      let l = last_is names key j x high g in
      elim (cases_lt k (length names)) [
        | inl low' ↦ absurd (not_new names es key k i h low' (g' ∙ ap (λ x. Some x) l.1))
        | inr high' ↦ (let l' = last_is names key k x high' g' in l.0 ∙ sym l'.0)
      ]
      )
]

pub one_more : (names names' : List (List ℕ)) (es es' : List (Key × ℕ)) (key : Key) (name : List ℕ)
    (n : ℕ) → IsIndexed names es → found name es ≡ None → key.items ≡ name → n ≡ length names →
    length names < 4294967295 → names' ≡ names ++ name ∷ [] → es' ≡ insert_entry by_bytes es key n →
    IsIndexed names' es'
one_more names names' es es' key name n i h e l short p q =
    let gone : found key.items es ≡ None = ap (λ x. found x es) e ∙ h in
    let put : (x : List ℕ) → found x (insert_entry by_bytes es key (length names)) ≡ cond
    (sees x key) (Some (length names)) (found x es) = λ x. put_found x key (length names) es gone in
    let whole : IsIndexed (names ++ key.items ∷ []) (insert_entry by_bytes es key (length names)) = record {
      short = omega (arith, length-append names (key.items ∷ []));
      first = λ x k f. first_more names es key x k i gone (sees x key) refl (sym (put x) ∙ f);
      all = λ x f j. all_more names es key x j i (sees x key) refl (sym (put x) ∙ f);
      different = different_more names es key i gone;
    } in
    subst (λ x. IsIndexed x es') (ap (λ w. names ++ w ∷ []) e ∙ sym p)
    (subst (λ x. IsIndexed (names ++ key.items ∷ []) x) (ap (insert_entry by_bytes es key) (sym l) ∙ sym q) whole)

pub none_yet : IsIndexed [] []
none_yet = record {
  short = omega arith;
  first = λ x k f. absurd (cc);
  all = λ x f j. λ e. absurd (cc);
  different = λ j k x e. absurd (cc);
}

-- ---- the rows that hold the names

abbrev pub names : List Key → List (List ℕ)
names rows = map (λ row. row.items) rows

pub names_length : (rows : List Key) → length (names rows) ≡ length rows
names_length [] = refl
names_length (row ∷ rows) = ap suc (names_length rows)

names_push : (rows : List Key) (row : Key) → names (rows ++ row ∷ []) ≡ names rows ++ row.items ∷ []
names_push [] row = refl
names_push (r ∷ rows) row = ap (λ l. r.items ∷ l) (names_push rows row)

pub names_more : (rows rows' : List Key) (row : Key) (name : List ℕ) → rows' ≡ rows ++ row ∷ [] →
    row.items ≡ name → names rows' ≡ names rows ++ name ∷ []
names_more rows rows' row name e i = ap names e ∙ names_push rows row ∙ ap (λ x. names rows ++ x ∷ []) i

-- ---- the number of a name

pub known_place : (self names : List (List ℕ)) (es : List (Key × ℕ)) (name : List ℕ) (k : ℕ) →
    self ≡ names → IsIndexed names es → found name es ≡ Some k → IsFirstPlace self name k
known_place self names es name k e i f = subst (λ x. IsFirstPlace x name k) (sym e) (i.first name k f)

pub not_past : (self names : List (List ℕ)) (es : List (Key × ℕ)) (name : List ℕ) (k : ℕ) →
    self ≡ names → IsIndexed names es → found name es ≡ Some k → length self ≤ k → ⊥
not_past self names es name k e i f h =
    let low = inside names k name (i.first name k f).here in
    let l = ap length e in
    omega arith

pub new_place : (names names' : List (List ℕ)) (es : List (Key × ℕ)) (name : List ℕ) (n : ℕ) →
    IsIndexed names es → found name es ≡ None → n ≡ length names → names' ≡ names ++ name ∷ [] →
    IsFirstPlace names' name n
new_place names names' es name n i f l e = subst (λ x. IsFirstPlace x name n) (sym e)
    (subst (λ k. IsFirstPlace (names ++ name ∷ []) name k) (sym l) (last_place names name (i.all name f)))

-- a name without a number is nowhere
pub none_there : (self all : List (List ℕ)) (es : List (Key × ℕ)) (name : List ℕ) (r : Option ℕ) →
    self ≡ all → IsIndexed all es → r ≡ found name es → IsNone r ↔ ((j : ℕ) → slice_get self j ≢ Some name)
none_there self all es name None e i f = (
  λ _ j h.
      i.all name (sym f) j (ap (λ x. slice_get x j) (sym e) ∙ h),
  λ _. refl,
)
none_there self all es name (Some k) e i f = (
  λ h. absurd (cc),
  λ h. absurd (h k (ap (λ x. slice_get x k) e ∙ (i.first name k (sym f)).here)),
)
