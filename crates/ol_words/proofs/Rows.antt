-- The rows of what was found, by their ids.
use Rattle.std.proofs.Common.{◌≡◌, ◌∙◌, sym, ap, refl, true, false, true≢false, List, [], ◌∷◌}
use Rattle.std.proofs.Common.{Option, Some, None, if◌then◌else◌, inl, inr}
use Rattle.std.specs.Prelude.{find, is_some, option_and_then, slice_get}
use Rattle.std.specs.Str.{bytes_eq}
use Rattle.std.proofs.lemmas.Bool.{cases_Bool}
use Rattle.std.proofs.lemmas.Slice.Eq.{bytes_eq-Decides}
use Rattle.clap.specs.Walk.{Row, used_as, without, with_values, first_of, has_row}
use Rattle.clap.specs.declared.parser.matches.ValueSource.{ValueSource}
use Rattle.clap.specs.declared.parser.matches.ValueSource.TheVariants.{CommandLine}
use Rattle.clap.specs.declared.builder.value_parser.Reading.{Reading}
use Rattle.clap.specs.declared.builder.action.ArgAction.TheVariants.{Set}
use Rattle.ol_words.specs.Texts.{Text}

pub itself : (id : Text) → bytes_eq id id ≡ true
itself id = (bytes_eq-Decides id id).1 refl

abbrev pub found_in : Text → List Row → Option Row
found_in id rows = find (λ r. bytes_eq r.id id) rows

module _ (id other : Text) (apart : bytes_eq id other ≡ false) where
  without_other : (rows : List Row) → found_in other (without id rows) ≡ found_in other rows
  without_other [] = refl
  without_other (r ∷ rs) =
      let before = without_other rs in
      elim (cases_Bool (bytes_eq r.id id)) [
        | inl same ↦
            let is : r.id ≡ id = (bytes_eq-Decides r.id id).0 same in
            let miss : bytes_eq r.id other ≡ false = ap (λ t. bytes_eq t other) is ∙ apart in
            rw same (rw miss refl)
        | inr differs ↦ rw differs (ap (λ (x : Option Row). if bytes_eq r.id other then Some r else x) before)
      ]

  pub with_values_other : (how : Reading) (source : ValueSource) (values : List Text)
      (rows : List Row) → found_in other (with_values id how source values rows) ≡ found_in other rows
  with_values_other how source values [] = rw apart refl
  with_values_other how source values (r ∷ rs) =
      let before = with_values_other how source values rs in
      elim (cases_Bool (bytes_eq r.id id)) [
        | inl same ↦
            let is : r.id ≡ id = (bytes_eq-Decides r.id id).0 same in
            let miss : bytes_eq r.id other ≡ false = ap (λ t. bytes_eq t other) is ∙ apart in
            rw same (rw miss refl)
        | inr differs ↦ rw differs (ap (λ (x : Option Row). if bytes_eq r.id other then Some r else x) before)
      ]

  -- a use of one id leaves what was found of another
  pub set_other : (how : Reading) (values : List Text) (rows : List Row)
      → found_in other (used_as Set id how values rows) ≡ found_in other rows
  set_other how values rows = with_values_other how CommandLine values (without id rows) ∙ without_other rows

some_is : {X : Type 0} (x : X) → Some x ≡ None → ⊥
some_is x e = true≢false (ap (λ o. is_some o) e)

-- the first use of an id is found
pub set_fresh : (id : Text) (how : Reading) (v : Text) (rows : List Row) → found_in id rows ≡ None
    → first_of id (used_as Set id how (v ∷ []) rows) ≡ Some v
set_fresh id how v [] none = rw (itself id) refl
set_fresh id how v (r ∷ rs) none = elim (cases_Bool (bytes_eq r.id id)) [
  | inl same ↦
      let hit : Some r ≡ None = sym (ap (λ b. if b then Some r else found_in id rs) same) ∙ none in
      absurd (some_is r hit)
  | inr differs ↦
      let rest : found_in id rs ≡ None = sym (ap (λ b. if b then Some r else found_in id rs) differs) ∙ none in
      let before = set_fresh id how v rs rest in
      rw differs (rw differs (rw differs before))
]

-- what isn't found has no row
pub lacks : (id : Text) (rows : List Row) → found_in id rows ≡ None → has_row id rows ≡ false
lacks id [] e = refl
lacks id (r ∷ rs) e = elim (cases_Bool (bytes_eq r.id id)) [
  | inl same ↦ absurd (some_is r (sym (ap (λ b. if b then Some r else found_in id rs) same) ∙ e))
  | inr differs ↦ rw differs (lacks id rs (sym (ap (λ b. if b then Some r else found_in id rs) differs) ∙ e))
]

pub first_same : (id : Text) (a b : List Row) → found_in id a ≡ found_in id b → first_of id a ≡ first_of id b
first_same id a b e = ap (λ (r : Option Row). option_and_then (λ (r : Row). slice_get r.values 0) r) e
