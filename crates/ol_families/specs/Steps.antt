-- Private: what one labelled step of the code does.
use Rattle.std.specs.Prelude.{◌≡◌, ℕ, ◌+◌, ◌<◌, ◌≤◌, Bool, true, false, List, length, Option, Some, None}
use Rattle.ol_families.specs.Letters.{most_letters}
use Rattle.ol_families.specs.Held.{Held, contracted, degree, held_letters, held_of}
use Rattle.ol_families.specs.Tables.{degrees_of, label_of, IsNoted}
use Rattle.ol_families.specs.declared.degrees.Letter.{Letter}
use Rattle.ol_families.specs.declared.counting.Labelling.{Labelling}

-- how many letters the labels of a term have, where there is one
abbrev pub AreLetters : Option Held → ℕ → Type 0
AreLetters None n = Unit {0}
AreLetters (Some t) n = n ≡ held_letters t

-- how many letters a step may add, by the bounds of a term
abbrev pub most_grown : ℕ
most_grown = 2000000000000

-- a step within bounds, of a redex whose degree has number k; or why none was made
pub data IsStepped (at : List ℕ) (old new : Labelling) : Bool → Type 0 where
  on : (row : List Letter) (k : ℕ) → degree (held_of old.term) at ≡ Some row →
      IsNoted (degrees_of old.degrees) (label_of (degrees_of old.degrees) row) k
      (degrees_of new.degrees) →
      contracted k (held_of old.term) at ≡ Some (held_of new.term) →
      new.written ≡ old.written + length row → new.written ≤ most_letters →
      held_letters (held_of new.term) ≤ most_letters → IsStepped at old new true
  too_long : (row : List Letter) → degree (held_of old.term) at ≡ Some row →
      most_letters < old.written + length row → IsStepped at old new false
  too_large : (row : List Letter) (n : ℕ) → degree (held_of old.term) at ≡ Some row →
      AreLetters (contracted 0 (held_of old.term) at) n → most_letters < n →
      IsStepped at old new false
