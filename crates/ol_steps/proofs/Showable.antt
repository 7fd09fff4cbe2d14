-- A term as it is shown has its places, and is no larger.
use Rattle.std.proofs.Common.{◌≡◌, ℕ, ◌+◌, true, List, ◌++◌, length, take, Option, sym, ap, ◌∙◌, subst, arith}
use Rattle.std.proofs.lemmas.List.{length-map}
use Rattle.ol_term.specs.Trees.{Tree, is_below, is_named_below}
use Rattle.ol_beta.specs.Beta.{IsWithin}
use Rattle.ol_steps.specs.Binders.{Binders}
use Rattle.ol_steps.specs.ValueTrees.{row_of, rows_of}
use Rattle.ol_steps.specs.Lets.{LetRow, let_names, lets, names_of_lets, values_of_lets}
use Rattle.ol_steps.specs.Words.{Glossary, with_words, worded}
use Rattle.ol_steps.specs.declared.lets.Lets.{Lets}
use Rattle.ol_steps.specs.declared.lets.NamedValue.{NamedValue}
use Rattle.ol_steps.specs.EarlierTerms.{glossary_of}
use Rattle.ol_steps.specs.Steps.{glossary}
use Rattle.ol_steps.specs.Folded.{folded_at}
use Rattle.ol_steps.proofs.Smaller.{is_fold_of, still_within}
use Rattle.ol_steps.proofs.WordNumbers.{worded_below, worded_named, worded_size, worded_depth}

pub record IsShowable (all : ℕ) (u : Tree) : Type 0 where
  pub bound : is_below 0 u ≡ true
  pub named : is_named_below all u ≡ true
  pub within : IsWithin u

rows_length : (values : List NamedValue) → length (rows_of values) ≡ length values
rows_length values = length-map values row_of

values_length : (values : List NamedValue) → length (values_of_lets (rows_of values)) ≡ length values
values_length values = length-map (rows_of values) (λ (row : LetRow). row.value) ∙ rows_length values

pub showable : (n : ℕ) (values : List NamedValue) (at : Option (List ℕ)) (t u : Tree) →
    u ≡ folded_at n (values_of_lets (rows_of values)) at t → is_below 0 t ≡ true → is_named_below n t ≡ true →
    IsWithin t → IsShowable (n + length values) u
showable n values at t u e below named within =
    let vs = values_of_lets (rows_of values) in
    let x = folded_at n vs at t in
    let f = is_fold_of n vs at t in
    subst (λ (v : Tree). IsShowable (n + length values) v) (sym e) (record {
      bound = f.below 0 below;
      named = ap (λ (k : ℕ). is_named_below (n + k) x) (sym (values_length values)) ∙ f.named named;
      within = still_within n (n + length vs) t x f within;
    })

-- so it is with its words
pub worded_showable : (names : List (List ℕ)) (found : Lets) (x u : Tree) (s : Binders) →
    u ≡ worded (glossary_of names found) x s → IsShowable (found.first + length found.rows.items) x →
    IsShowable (found.first + length found.rows.items) u
worded_showable names found x u s e h =
    let g = glossary_of names found in
    let all = found.first + length found.rows.items in
    let l : g.first + length g.rows ≡ all = ap (λ (k : ℕ). found.first + k) (rows_length found.rows.items) in
    let size = worded_size g x s in
    let deep = worded_depth g x s in
    let small = h.within.0 in
    let shallow = h.within.1 in
    subst (λ (v : Tree). IsShowable all v) (sym e) (record {
      bound = worded_below g 0 x s h.bound;
      named = subst (λ (k : ℕ). is_named_below k (worded g x s) ≡ true) l
          (worded_named g x s (ap (λ (k : ℕ). is_named_below k x) l ∙ h.named));
      within = (omega (arith, size, small), omega (arith, deep, shallow));
    })

-- ---- the glossary of a term

abbrev glossary_with : List (List ℕ) → ℕ → (rows lets : List LetRow) → Glossary
glossary_with names first rows lets = record { names = names; first = first; rows = rows; lets = lets }

pub same_glossary : (names : List (List ℕ)) (n : ℕ) (t : Tree) (s : Binders) (all : List (List ℕ)) (found : Lets) →
    found.first ≡ length names → all ≡ names ++ names_of_lets (with_words names (lets names (let_names n s) t s)) →
    rows_of found.rows.items ≡ with_words names (lets names (let_names n s) t s) →
    rows_of (take found.own found.rows.items) ≡ lets names (let_names n s) t s →
    glossary_of all found ≡ glossary names n t s
same_glossary names n t s all found first names_are rows_are own_are =
    let own = lets names (let_names n s) t s in
    let rows = with_words names own in
    let kept = rows_of (take found.own found.rows.items) in
    ap (λ (x : List (List ℕ)). glossary_with x found.first (rows_of found.rows.items) kept) names_are
    ∙ ap (λ (k : ℕ). glossary_with (names ++ names_of_lets rows) k (rows_of found.rows.items) kept) first
    ∙ ap (λ (v : List LetRow). glossary_with (names ++ names_of_lets rows) (length names) v kept) rows_are
    ∙ ap (λ (v : List LetRow). glossary_with (names ++ names_of_lets rows) (length names) rows v) own_are
