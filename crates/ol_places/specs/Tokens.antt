-- The first token of some bytes.
use Rattle.std.specs.Prelude.{◌≡◌, ℕ, Bool, List, length, Option, Some, None}
use Rattle.ol_parse.specs.Grammar.{Token, name, let_key, in_key, lambda, dot, equals, open_bracket, close_bracket}
use Rattle.ol_parse.specs.Texts.{Spells, spells_none, spells_one}
use Rattle.ol_places.specs.declared.tokens.Sign.{Sign}
use Rattle.ol_places.specs.declared.tokens.Sign.TheVariants as sign
use Rattle.ol_places.specs.declared.tokens.Kind.{Kind}
use Rattle.ol_places.specs.declared.tokens.Kind.TheVariants as kind
use Rattle.ol_places.specs.declared.tokens.FirstToken.{FirstToken}

abbrev pub sign_token : Sign → Token
sign_token sign.Lambda = lambda
sign_token sign.Dot = dot
sign_token sign.Equals = equals
sign_token sign.Open = open_bracket
sign_token sign.Close = close_bracket

-- the token of a word, or of a sign
abbrev pub kind_token : Kind → List ℕ → Token
kind_token kind.Name w = name w
kind_token kind.Let w = let_key
kind_token kind.In w = in_key
kind_token (kind.Sign s) w = sign_token s

-- where bytes are read as tokens: none is the first, or this one is, behind a gap of so many bytes
abbrev pub IsFirstToken : Option FirstToken → {after : Bool} {tokens : List Token} {bytes : List ℕ} →
    Spells after tokens bytes → Type 0
IsFirstToken None (spells_none gap) = Unit {0}
IsFirstToken (Some f) (spells_one {k = k} {g = g} {a = a} gap apart token rest) =
    (f.gap ≡ length g) × (f.length ≡ length a) × (kind_token f.kind a ≡ k)
IsFirstToken _ _ = ⊥
