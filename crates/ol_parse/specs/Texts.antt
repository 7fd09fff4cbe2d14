-- Bytes: gaps, words, what a token is written as, texts, and the dead place.
use Rattle.std.specs.Prelude.{◌≡◌, ◌≢◌, ℕ, ◌≤◌, List, [], ◌∷◌, ◌++◌, take, length, Bool, true}
use Rattle.std.specs.Prelude.{false, ◌&&◌, ◌||◌, nat_eq, nat_le, cond, if◌then◌else◌, codes}
use Rattle.std.specs.Str.{bytes_eq}
use Rattle.ol_parse.specs.Grammar.{Named, Token, name, let_key, in_key, lambda, dot, equals}
use Rattle.ol_parse.specs.Grammar.{open_bracket, close_bracket, IsTerm}

-- what a byte is
pub data Class : Type 0 where
  blank : Class
  hash : Class
  letter : Class
  digit : Class
  sign : Token → Class
  lead : Class
  other : Class

abbrev pub between : ℕ → ℕ → ℕ → Bool
between low high b = nat_le low b && nat_le b high

-- the first class whose test holds
abbrev pub first_class : List (Bool × Class) → Class
first_class [] = other
first_class (row ∷ rows) = cond row.0 row.1 (first_class rows)

-- a letter is a to z, A to Z or _, a digit is 0 to 9 or '
abbrev pub classes : ℕ → List (Bool × Class)
classes b =
    (between 97 122 b || between 65 90 b || nat_eq b 95, letter)
    ∷ (between 48 57 b || nat_eq b 39, digit)
    ∷ (nat_eq b 32 || nat_eq b 9 || nat_eq b 10 || nat_eq b 13, blank)
    ∷ (nat_eq b 35, hash)
    ∷ (nat_eq b 92, sign lambda)
    ∷ (nat_eq b 46, sign dot)
    ∷ (nat_eq b 61, sign equals)
    ∷ (nat_eq b 40, sign open_bracket)
    ∷ (nat_eq b 41, sign close_bracket)
    ∷ (nat_eq b 206, lead)
    ∷ []

unfoldable pub class_of : ℕ → Class
class_of b = first_class (classes b)

abbrev pub in_word : Class → Bool
in_word letter = true
in_word digit = true
in_word _ = false

-- no line feed
abbrev pub IsLine : List ℕ → Type 0
IsLine [] = Unit {0}
IsLine (b ∷ c) = (nat_eq b 10 ≡ false) × IsLine c

-- blanks and comments, each comment with its line feed
pub data IsGap : List ℕ → Type 0 where
  gap_none : IsGap []
  gap_blank : {b : ℕ} {g : List ℕ} → class_of b ≡ blank → IsGap g → IsGap (b ∷ g)
  gap_comment : {b : ℕ} {g : List ℕ} → class_of b ≡ hash → (c : List ℕ) → IsLine c → IsGap g → IsGap (b ∷ c ++ (10 ∷ g))

-- a gap, or one whose last comment is ended by the text
pub data IsLastGap : List ℕ → Type 0 where
  last_gap : {g : List ℕ} → IsGap g → IsLastGap g
  last_comment : {g : List ℕ} → IsGap g → (b : ℕ) → class_of b ≡ hash → (c : List ℕ) → IsLine c →
      IsLastGap (g ++ (b ∷ c))

-- letters and digits
abbrev pub AreInWord : List ℕ → Type 0
AreInWord [] = Unit {0}
AreInWord (b ∷ w) = (in_word (class_of b) ≡ true) × AreInWord w

-- `let` and `in` are keywords, every other word is a name
unfoldable pub token_of : List ℕ → Token
token_of w = if bytes_eq w (codes "let") then let_key else (if bytes_eq w (codes "in") then in_key else name w)

abbrev pub is_word : Token → Bool
is_word (name w) = true
is_word let_key = true
is_word in_key = true
is_word _ = false

-- a token and its bytes; the letter λ is two bytes
pub data IsToken : Token → List ℕ → Type 0 where
  token_sign : {k : Token} {b : ℕ} → class_of b ≡ sign k → IsToken k (b ∷ [])
  token_letter : {b : ℕ} → class_of b ≡ lead → IsToken lambda (b ∷ 187 ∷ [])
  token_word : {b : ℕ} {w : List ℕ} → class_of b ≡ letter → AreInWord w → IsToken (token_of (b ∷ w)) (b ∷ w)

-- a word that is no keyword
abbrev pub IsName : List ℕ → Type 0
IsName x = IsToken (name x) x

-- Tokens with gaps before, between and after them. Between two words the gap isn't empty: the test says whether a word
-- stands just before.
pub data Spells : Bool → List Token → List ℕ → Type 0 where
  spells_none : {after : Bool} {g : List ℕ} → IsLastGap g → Spells after [] g
  spells_one : {after : Bool} {k : Token} {ks : List Token} {g a bs : List ℕ} → IsGap g →
      (after ≡ true → is_word k ≡ true → g ≢ []) → IsToken k a → Spells (is_word k) ks bs →
      Spells after (k ∷ ks) (g ++ (a ++ bs))

-- the bytes are a text of the term
pub record IsText (bytes : List ℕ) (t : Named) : Type 0 where
  pub tokens : List Token
  pub spelled : Spells false tokens bytes
  pub term : IsTerm tokens t

-- the bytes begin a text
pub record BeginsText (bytes : List ℕ) : Type 0 where
  pub rest : List ℕ
  pub whole : Named
  pub text : IsText (bytes ++ rest) whole

-- the length of the longest prefix that begins a text
pub record IsDeadPlace (bytes : List ℕ) (at : ℕ) : Type 0 where
  pub within : at ≤ length bytes
  pub alive : BeginsText (take at bytes)
  pub longest : (n : ℕ) → n ≤ length bytes → BeginsText (take n bytes) → n ≤ at

-- the bytes are no text, and this is their dead place
abbrev pub IsRefusedAt : List ℕ → ℕ → Type 0
IsRefusedAt bytes at = ((t : Named) → IsText bytes t → ⊥) × IsDeadPlace bytes at
