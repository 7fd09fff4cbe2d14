-- Private: what is seen of a text of the grammar, byte by byte.
use Rattle.std.specs.Prelude.{ℕ, List, [], ◌∷◌, ◌++◌, nat_eq, cond}
use Rattle.ol_parse.specs.Grammar.{lambda, dot, equals, open_bracket, close_bracket}
use Rattle.ol_parse.specs.Texts.{Class, hash, letter, digit, sign, lead, class_of, in_word, token_of}
use Rattle.ol_steps.specs.Sights.{Sight, take}
use Rattle.ol_steps.specs.declared.bytes.Kind.{Kind}
use Rattle.ol_steps.specs.declared.bytes.Kind.TheVariants as kind

-- between tokens, in a comment, in a word, behind the first byte of the letter λ
pub data Look : Type 0 where
  gap : Sight → Look
  comment : Sight → Look
  word : List ℕ → Sight → Look
  half : Sight → Look

abbrev pub kind_of : Class → Kind
kind_of letter = kind.Letter
kind_of digit = kind.Digit
kind_of hash = kind.Hash
kind_of lead = kind.Lead
kind_of (sign lambda) = kind.Slash
kind_of (sign dot) = kind.Dot
kind_of (sign equals) = kind.Equals
kind_of (sign open_bracket) = kind.Open
kind_of (sign close_bracket) = kind.Close
kind_of _ = kind.Rest

abbrev pub gap_look : Sight → ℕ → Kind → Look
gap_look s b kind.Letter = word (b ∷ []) s
gap_look s b kind.Hash = comment s
gap_look s b kind.Lead = half (take s lambda)
gap_look s b kind.Slash = gap (take s lambda)
gap_look s b kind.Dot = gap (take s dot)
gap_look s b kind.Equals = gap (take s equals)
gap_look s b kind.Open = gap (take s open_bracket)
gap_look s b kind.Close = gap (take s close_bracket)
gap_look s b kind.Digit = gap s
gap_look s b kind.Rest = gap s

abbrev pub byte_look : Look → ℕ → Look
byte_look (gap s) b = gap_look s b (kind_of (class_of b))
byte_look (comment s) b = cond (nat_eq b 10) (gap s) (comment s)
byte_look (word w s) b = cond (in_word (class_of b)) (word (w ++ (b ∷ [])) s)
    (gap_look (take s (token_of w)) b (kind_of (class_of b)))
byte_look (half s) b = gap s

abbrev pub last : Look → Sight
last (gap s) = s
last (comment s) = s
last (word w s) = take s (token_of w)
last (half s) = s

-- what is seen at the end, where these bytes are the rest
abbrev pub sees : Look → List ℕ → Sight
sees l [] = last l
sees l (b ∷ bs) = sees (byte_look l b) bs
