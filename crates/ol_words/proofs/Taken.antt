-- The numbers and the names that were taken so far.
use Rattle.std.proofs.Common.{ℕ, ◌≡◌, ◌∙◌, ◌<◌, ◌+◌, ap, refl, sym, append_assoc, List, []}
use Rattle.std.proofs.Common.{◌∷◌, ◌++◌, Option, Some, None, option_map, drop, length, get_or, set, take}
use Rattle.std.proofs.lemmas.List.{drop_more, map-append, take_more_set}
use Rattle.std.specs.Borrow.{Bor}
use Rattle.std.specs.Prelude.{option_and_then}
use Rattle.ol_words.specs.Texts.{Text}
use Rattle.ol_words.specs.Views.{texts}
use Rattle.ol_words.specs.declared.settings.Setting.{Setting}
use Rattle.ol_words.specs.Jobs.{numbers}
use Rattle.ol_words.specs.Found.{names_by}

-- these numbers, and then those of the settings that are left
abbrev pub numbers_from : (Setting → Option ℕ) → List ℕ → List Setting → Option (List ℕ)
numbers_from number taken left = option_map (λ more. taken ++ more) (numbers number left)

-- these names, and then those of the ids that are left
abbrev pub names_from : (Text → Option Text) → List Text → List Text → Option (List Text)
names_from given taken left = option_map (λ more. taken ++ more) (names_by given left)

with_first : {X : Type 0} (taken : List X) (x : X) (more : Option (List X)) →
    option_map (λ m. taken ++ m) (option_map (λ m. x ∷ m) more) ≡ option_map (λ m. (taken ++ x ∷ []) ++ m) more
with_first taken x None = refl
with_first taken x (Some m) = ap (λ l. Some l) (sym (append_assoc taken (x ∷ []) m))

module _ (number : Setting → Option ℕ) (ns : List ℕ) (ss : List Setting) (place n : ℕ) (s : Setting)
    (few : place < length ss) (room : place < length ns) (is : number (get_or ss place s) ≡ Some n) where
  pub number_taken : numbers_from number (take (place + 1) (set ns place n)) (drop (place + 1) ss)
      ≡ numbers_from number (take place ns) (drop place ss)
  number_taken = ap (λ (t : List ℕ). numbers_from number t (drop (place + 1) ss)) (take_more_set ns place n room)
      ∙ sym (with_first (take place ns) n (numbers number (drop (place + 1) ss)))
      ∙ sym (ap (λ (x : Option ℕ). option_map (λ m. take place ns ++ m)
      (option_and_then (λ n. option_map (λ more. n ∷ more) (numbers number (drop (place + 1) ss))) x)) is)
      ∙ sym (ap (numbers_from number (take place ns)) (drop_more ss place s few))

module _ (given : Text → Option Text) (ns ids : List (Bor Text)) (place : ℕ) (n id : Bor Text)
    (few : place < length ids) (room : place < length ns) (is : given (get_or ids place id).now ≡ Some n.now) where
  pub name_taken : names_from given (texts (take (place + 1) (set ns place n))) (texts (drop (place + 1) ids))
      ≡ names_from given (texts (take place ns)) (texts (drop place ids))
  name_taken =
      let left = texts (drop (place + 1) ids) in
      ap (λ (t : List (Bor Text)). names_from given (texts t) left) (take_more_set ns place n room)
      ∙ ap (λ (t : List Text). names_from given t left) (map-append (λ (r : Bor Text). r.now) (take place ns) (n ∷ []))
      ∙ sym (with_first (texts (take place ns)) n.now (names_by given left))
      ∙ sym (ap (λ (x : Option Text). option_map (λ m. texts (take place ns) ++ m)
      (option_and_then (λ n. option_map (λ more. n ∷ more) (names_by given left)) x)) is)
      ∙ sym (ap (λ (l : List (Bor Text)). names_from given (texts (take place ns)) (texts l))
      (drop_more ids place id few))
