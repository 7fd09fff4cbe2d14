-- Letters that are compared, and rows that are looked for.
use Rattle.std.proofs.Common.{◌≡◌, ℕ, ◌<◌, Bool, true, false, List, [], ◌∷◌, ◌++◌, length, get_or, eqb-true, eq-eqb}
use Rattle.std.proofs.Common.{Some, refl, sym, ap, ◌∙◌, subst, arith}
use Rattle.std.specs.Bool.{Decides}
use Rattle.std.specs.Cmp.Lexicographic.{pointwise}
use Rattle.std.specs.Option.{option_map}
use Rattle.std.specs.Prelude.{slice_get}
use Rattle.std.specs.declared.vec.Vec.{Vec}
use Rattle.std.specs.declared.alloc.Global.{Global}
use Rattle.std.proofs.lemmas.Option.{slice_get-map, slice_get_read}
use Rattle.std.proofs.lemmas.Slice.Eq.{slice_eq-Decides}
use Rattle.ol_families.specs.contracts.degrees.LetterPartialEq.TheImpl.{eq-value}
use Rattle.ol_families.specs.declared.degrees.Letter.{Letter}
use Rattle.ol_families.specs.declared.degrees.Letter.TheVariants.{Own, Over, Under}
use Rattle.ol_families.specs.Tables.{rows_of}
use Rattle.ol_families.proofs.Rows.{same_some}

abbrev pub same : Letter → Letter → Bool
same = eq-value.it

letter_is : (a b : Letter) → same a b ≡ true → a ≡ b
letter_is (Own j) (Own k) e = ap Own (eqb-true j k e)
letter_is (Own j) (Over k) e = absurd (cc)
letter_is (Own j) (Under k) e = absurd (cc)
letter_is (Over j) (Own k) e = absurd (cc)
letter_is (Over j) (Over k) e = ap Over (eqb-true j k e)
letter_is (Over j) (Under k) e = absurd (cc)
letter_is (Under j) (Own k) e = absurd (cc)
letter_is (Under j) (Over k) e = absurd (cc)
letter_is (Under j) (Under k) e = ap Under (eqb-true j k e)

letter_self : (a : Letter) → same a a ≡ true
letter_self (Own k) = eq-eqb k k refl
letter_self (Over k) = eq-eqb k k refl
letter_self (Under k) = eq-eqb k k refl

pub letters_tell : (a b : Letter) → Decides (same a b) (a ≡ b)
letters_tell a b = (letter_is a b, λ e. subst (λ (c : Letter). same a c ≡ true) e (letter_self a))

pub length_rows : (rows : List (Vec Letter Global)) → length (rows_of rows) ≡ length rows
length_rows [] = refl
length_rows (r ∷ rows) = let e = length_rows rows in omega arith

pub rows_push : (rows : List (Vec Letter Global)) (r : Vec Letter Global) →
    rows_of (rows ++ r ∷ []) ≡ rows_of rows ++ r.items ∷ []
rows_push [] r = refl
rows_push (s ∷ rows) r = ap (λ (rs : List (List Letter)). s.items ∷ rs) (rows_push rows r)

module _ (rows : List (Vec Letter Global)) (k : ℕ) (v : Vec Letter Global) (s row : List Letter) (r : Bool)
    (l : k < length rows) (e : v ≡ get_or rows k v) (f : s ≡ v.items) (g : r ≡ pointwise same s row) where
  there : slice_get (rows_of rows) k ≡ Some s
  there = slice_get-map (λ r. r.items) rows k
      ∙ ap (option_map (λ r. r.items)) (slice_get_read rows (length rows) k v refl l e) ∙ ap Some (sym f)

  pub is_here : r ≡ true → slice_get (rows_of rows) k ≡ Some row
  is_here h = there ∙ ap Some ((slice_eq-Decides letters_tell s row r g).0 h)

  pub not_here : r ≡ false → slice_get (rows_of rows) k ≡ Some row → ⊥
  not_here h p = clash (sym h ∙ (slice_eq-Decides letters_tell s row r g).1 (same_some (sym there ∙ p)))
    where
      clash : false ≡ true → ⊥
      clash e = cc
