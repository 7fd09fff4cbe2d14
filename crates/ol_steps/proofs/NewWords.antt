-- The words of lets that are no names yet, one after another.
use Rattle.std.proofs.Common.{◌≡◌, ℕ, Bool, true, false, not, List, [], ◌∷◌, ◌++◌, refl, sym, ap, ◌∙◌, append_assoc}
use Rattle.std.specs.Prelude.{if◌then◌else◌}
use Rattle.std.proofs.lemmas.List.{map-append}
use Rattle.ol_term.specs.Trees.{Tree}
use Rattle.ol_term.specs.BinderNames.{is_among}
use Rattle.ol_steps.specs.Binders.{leaf}
use Rattle.ol_steps.specs.Lets.{LetRow, row_if, names_of_lets}
use Rattle.ol_steps.specs.Words.{new_rows}
use Rattle.ol_steps.proofs.Rows.{append_none}

-- a word and its value
abbrev word_row : List ℕ → Tree → LetRow
word_row x v = record { name = x; value = v; binders = leaf }

-- it, if it is no name yet
abbrev pub one : List (List ℕ) → List ℕ → Tree → List LetRow
one names x v = row_if (not (is_among names x)) x v leaf

new_more : (names : List (List ℕ)) (x : List ℕ) (v : Tree) (rows : List LetRow) →
    new_rows names (word_row x v ∷ rows) ≡ one names x v ++ new_rows (names ++ names_of_lets (one names x v)) rows
new_more names x v rows = go (is_among names x)
  where
    go : (b : Bool) → (if b then new_rows names rows else word_row x v ∷ new_rows (names ++ x ∷ []) rows)
        ≡ row_if (not b) x v leaf ++ new_rows (names ++ names_of_lets (row_if (not b) x v leaf)) rows
    go true = ap (λ (l : List (List ℕ)). new_rows l rows) (append_none names)
    go false = refl

module _ (names : List (List ℕ)) (x y : List ℕ) (v : Tree) (rows : List LetRow) where
  abbrev first : List LetRow
  first = one names x v

  abbrev behind : List (List ℕ)
  behind = names ++ names_of_lets first

  abbrev second : List LetRow
  second = one behind y v

  abbrev last : List (List ℕ)
  last = behind ++ names_of_lets second

  two_more : new_rows names (word_row x v ∷ word_row y v ∷ rows) ≡ first ++ (second ++ new_rows last rows)
  two_more = new_more names x v (word_row y v ∷ rows) ∙ ap (λ (l : List LetRow). first ++ l) (new_more behind y v rows)

  pub names_two : last ++ names_of_lets (new_rows last rows)
      ≡ names ++ names_of_lets (new_rows names (word_row x v ∷ word_row y v ∷ rows))
  names_two =
      let left = new_rows last rows in
      append_assoc behind (names_of_lets second) (names_of_lets left)
      ∙ append_assoc names (names_of_lets first) (names_of_lets second ++ names_of_lets left)
      ∙ ap (λ (l : List (List ℕ)). names ++ (names_of_lets first ++ l))
      (sym (map-append (λ (row : LetRow). row.name) second left))
      ∙ ap (λ (l : List (List ℕ)). names ++ l) (sym (map-append (λ (row : LetRow). row.name) first (second ++ left)))
      ∙ ap (λ (l : List LetRow). names ++ names_of_lets l) (sym two_more)

  pub words_two : (old : List LetRow) → ((old ++ first) ++ second) ++ new_rows last rows
      ≡ old ++ new_rows names (word_row x v ∷ word_row y v ∷ rows)
  words_two old =
      let left = new_rows last rows in
      append_assoc (old ++ first) second left
      ∙ append_assoc old first (second ++ left)
      ∙ ap (λ (l : List LetRow). old ++ l) (sym two_more)
