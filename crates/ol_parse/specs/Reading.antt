-- Private: a machine that reads bytes, over the one that reads tokens.
use Rattle.std.specs.Prelude.{ℕ, List, [], ◌∷◌, ◌++◌, Bool, true, false, cond, nat_eq, Option, Some}
use Rattle.std.specs.Prelude.{None, option_and_then, option_map}
use Rattle.ol_parse.specs.Grammar.{Named, lambda}
use Rattle.ol_parse.specs.Texts.{Class, blank, hash, letter, digit, sign, lead, other, class_of, in_word, token_of}
use Rattle.ol_parse.specs.Machine.{State, at, let_equals, step, final}

-- between tokens, in a comment, in a word, behind the first byte of the letter λ, which has been read as the token
pub data Reading : Type 0 where
  gap : State → Reading
  comment : State → Reading
  word : List ℕ → State → Reading
  half : State → Reading

abbrev pub takes_name : State → Bool
takes_name (let_equals x fs) = false
takes_name _ = true

abbrev pub gap_step : State → ℕ → Class → Option Reading
gap_step p b blank = Some (gap p)
gap_step p b hash = Some (comment p)
gap_step p b letter = cond (takes_name p) (Some (word (b ∷ []) p)) None
gap_step p b digit = None
gap_step p b (sign k) = option_map gap (step p k)
gap_step p b lead = option_map half (step p lambda)
gap_step p b other = None

abbrev pub byte_step : Reading → ℕ → Option Reading
byte_step (gap p) b = gap_step p b (class_of b)
byte_step (comment p) b = Some (cond (nat_eq b 10) (gap p) (comment p))
byte_step (word w p) b = cond (in_word (class_of b)) (Some (word (w ++ (b ∷ [])) p))
    (option_and_then (λ q. gap_step q b (class_of b)) (step p (token_of w)))
byte_step (half p) b = cond (nat_eq b 187) (Some (gap p)) None

abbrev pub byte_final : Reading → Option Named
byte_final (gap p) = final p
byte_final (comment p) = final p
byte_final (word w p) = option_and_then final (step p (token_of w))
byte_final (half p) = None

-- the state after these bytes, unless they are dead
abbrev pub read : Reading → List ℕ → Option Reading
read s [] = Some s
read s (b ∷ bs) = option_and_then (λ s'. read s' bs) (byte_step s b)

-- the term of the whole, where these bytes are the rest
abbrev pub takes : Reading → List ℕ → Option Named
takes s [] = byte_final s
takes s (b ∷ bs) = option_and_then (λ s'. takes s' bs) (byte_step s b)

abbrev pub start : Reading
start = gap (at None [])
