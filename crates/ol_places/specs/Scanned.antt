-- Private: a scan of tokens that keeps where each `let` stands that waits for its `in`, the innermost last.
use Rattle.std.specs.Prelude.{◌≡◌, ℕ, ◌+◌, ◌-◌, Bool, false, List, [], ◌∷◌, ◌++◌, length, take, Option, Some, None}
use Rattle.ol_parse.specs.Grammar.{Token, let_key, in_key}
use Rattle.ol_parse.specs.Texts.{Spells, spells_none, spells_one}
use Rattle.ol_places.specs.Places.{IsLineOf}
use Rattle.ol_places.specs.Lets.{open_line}

-- behind a token that begins at this byte
abbrev pub lets_after : List ℕ → ℕ → Token → List ℕ
lets_after lets at let_key = lets ++ (at ∷ [])
lets_after lets at in_key = take (length lets - 1) lets
lets_after lets at _ = lets

-- behind bytes that are read as tokens, the first of which is at byte p
abbrev pub lets_from : List ℕ → ℕ → {after : Bool} {tokens : List Token} {bytes : List ℕ} → Spells after tokens bytes →
    List ℕ
lets_from lets p (spells_none gap) = lets
lets_from lets p (spells_one {k = k} {g = g} {a = a} gap apart token rest) =
    lets_from (lets_after lets (p + length g) k) (p + length g + length a) rest

-- the last of a list, if there is one
pub data IsLast (xs : List ℕ) : Option ℕ → Type 0 where
  nothing : xs ≡ [] → IsLast xs None
  top : {x : ℕ} (others : List ℕ) → xs ≡ others ++ (x ∷ []) → IsLast xs (Some x)

-- however some bytes are read as tokens, this is the last `let` that waits behind them
abbrev pub IsLastLet : List ℕ → Option ℕ → Type 0
IsLastLet front last = (tokens : List Token) (s : Spells false tokens front) → IsLast (lets_from [] 0 s) last

-- the text is the line that tells where this `let` stands
pub record IsOpenLine (bytes : List ℕ) (at : ℕ) (text : List ℕ) : Type 0 where
  pub start : ℕ
  pub end : ℕ
  pub line : IsLineOf bytes at start end
  pub is : text ≡ open_line bytes at start
