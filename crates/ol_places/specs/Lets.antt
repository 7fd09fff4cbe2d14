-- The `let` that has no `in` yet at a place of a text, and the line that tells where it stands.
use Rattle.std.specs.Prelude.{◌≡◌, ℕ, zero, suc, ◌+◌, ◌<◌, ◌≤◌, Bool, List, [], ◌∷◌, ◌++◌, length, take, codes}
use Rattle.std.specs.Prelude.{Option, Some, None}
use Rattle.ol_parse.specs.Grammar.{Named, Token, name, let_key, in_key, equals, IsTerm}
use Rattle.ol_parse.specs.Texts.{Spells, spells_none, spells_one, IsText}
use Rattle.ol_places.specs.Places.{IsLineOf, line_and_column}

-- the byte at which the token behind k others begins, in bytes that are read as tokens
abbrev pub let_start : ℕ → {after : Bool} {tokens : List Token} {bytes : List ℕ} → Spells after tokens bytes → ℕ
let_start k (spells_none gap) = 0
let_start zero (spells_one {g = g} gap apart token rest) = length g
let_start (suc k) (spells_one {g = g} {a = a} gap apart token rest) = length g + length a + let_start k rest

-- Some text begins with these bytes and a line feed. In it a `let` stands at this byte, before the line feed, and its
-- `in` stands behind that. Between the two stand a name, `=` and a term, so the `in` is that of the `let`.
pub record IsOpenLet (front : List ℕ) (at : ℕ) : Type 0 where
  pub rest : List ℕ
  pub whole : Named
  pub text : IsText (front ++ codes "\n" ++ rest) whole
  pub before : List Token
  pub x : List ℕ
  pub definition : List Token
  pub after : List Token
  pub tokens : text.tokens ≡ before ++ (let_key ∷ name x ∷ equals ∷ definition ++ (in_key ∷ after))
  pub defined : Named
  pub term : IsTerm definition defined
  pub let_at : let_start (length before) text.spelled ≡ at
  pub is_before : at < length front
  pub in_behind : length front ≤ let_start (length before + 3 + length definition) text.spelled

-- the innermost such `let`, which is the last, if there is one
abbrev pub IsInnermostLet : List ℕ → Option ℕ → Type 0
IsInnermostLet front None = (at : ℕ) → IsOpenLet front at → ⊥
IsInnermostLet front (Some at) = IsOpenLet front at × ((other : ℕ) → IsOpenLet front other → other ≤ at)

-- the line that tells where a `let` stands, whose own line begins at `start`
abbrev pub open_line : List ℕ → ℕ → ℕ → List ℕ
open_line bytes at start = codes "no in yet: let at " ++ line_and_column bytes at start ++ codes "\n"

-- the line of the innermost `let` that has no `in` before this place; without one there is no line
pub data IsLetLine (bytes : List ℕ) (place : ℕ) : List ℕ → Type 0 where
  no_let : IsInnermostLet (take place bytes) None → IsLetLine bytes place []
  open_let : {at start end : ℕ} → IsInnermostLet (take place bytes) (Some at) → IsLineOf bytes at start end →
      IsLetLine bytes place (open_line bytes at start)
