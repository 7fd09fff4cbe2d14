-- Private: gaps and words, byte by byte.
use Rattle.std.specs.Prelude.{ℕ, ◌+◌, ◌==◌, Bool, true, false, if◌then◌else◌, List, [], ◌∷◌}
use Rattle.ol_parse.specs.Texts as texts
use Rattle.ol_parse.specs.Texts.{class_of, in_word}
use Rattle.ol_places.specs.declared.tokens.Class.{Class}
use Rattle.ol_places.specs.declared.tokens.Class.TheVariants as class
use Rattle.ol_places.specs.Tokens.{sign_token}

abbrev pub seen : Class → texts.Class
seen class.Blank = texts.blank
seen class.Hash = texts.hash
seen class.Letter = texts.letter
seen class.Digit = texts.digit
seen (class.Sign s) = texts.sign (sign_token s)
seen class.Lead = texts.lead
seen class.Other = texts.other

-- whether a gap goes on with a byte, within a comment or not
abbrev pub goes_on : Bool → ℕ → texts.Class → Bool
goes_on true b c = true
goes_on false b texts.blank = true
goes_on false b texts.hash = true
goes_on false b _ = false

-- whether one is in a comment behind a byte of a gap
abbrev pub comment_after : Bool → ℕ → texts.Class → Bool
comment_after true b c = if b == 10 then false else true
comment_after false b texts.hash = true
comment_after false b _ = false

-- how many bytes of a gap come first, within a comment or not
abbrev pub gap_length : Bool → List ℕ → ℕ
gap_length comment [] = 0
gap_length comment (b ∷ bs) = if goes_on comment b (class_of b)
    then 1 + gap_length (comment_after comment b (class_of b)) bs else 0

-- how many bytes of a word come first
abbrev pub word_length : List ℕ → ℕ
word_length [] = 0
word_length (b ∷ bs) = if in_word (class_of b) then 1 + word_length bs else 0
