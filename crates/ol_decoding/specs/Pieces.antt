-- Private: what is left to be written of a value.
use Rattle.std.specs.Prelude.{◌≡◌, ℕ, ◌+◌, ◌<◌, List, [], ◌∷◌, ◌++◌, codes}
use Rattle.ol_context.specs.Contexts.{Level, empty, o, star, pair}
use Rattle.ol_context.specs.Shapes.{value, IsHeld}
use Rattle.ol_decoding.specs.declared.writing.Piece.{Piece}
use Rattle.ol_decoding.specs.declared.writing.Piece.TheVariants.{Value, Comma, Close}
use Rattle.ol_decoding.specs.Lines.{level_text}

abbrev pub piece_text : List Level → Piece → List ℕ
piece_text vs (Value v) = level_text (value vs v)
piece_text vs Comma = codes ","
piece_text vs Close = codes ">"

-- the last piece is written first
abbrev pub pieces_text : List Level → List Piece → List ℕ
pieces_text vs [] = []
pieces_text vs (p ∷ ps) = pieces_text vs ps ++ piece_text vs p

abbrev pub IsHeldPiece : List Level → Piece → Type 0
IsHeldPiece vs (Value v) = IsHeld vs v
IsHeldPiece vs Comma = Unit {0}
IsHeldPiece vs Close = Unit {0}

abbrev pub AreHeldPieces : List Level → List Piece → Type 0
AreHeldPieces vs [] = Unit {0}
AreHeldPieces vs (p ∷ ps) = IsHeldPiece vs p × AreHeldPieces vs ps

-- how many pieces are still to be taken, at most
abbrev pub level_size : Level → ℕ
level_size empty = 1
level_size (o v) = 1 + level_size v
level_size (star v) = 1 + level_size v
level_size (pair v w) = 4 + level_size v + level_size w

abbrev pub piece_size : List Level → Piece → ℕ
piece_size vs (Value v) = level_size (value vs v)
piece_size vs Comma = 1
piece_size vs Close = 1

abbrev pub pieces_size : List Level → List Piece → ℕ
pieces_size vs [] = 0
pieces_size vs (p ∷ ps) = piece_size vs p + pieces_size vs ps

-- some text is written, and these pieces are left in place of those before
pub record Writes (vs : List Level) (before : List Piece) (old : List ℕ) (after : List Piece)
    (new : List ℕ) : Type 0 where
  pub written : new ++ pieces_text vs after ≡ old ++ pieces_text vs before
  pub held : AreHeldPieces vs after
  pub fewer : pieces_size vs after < pieces_size vs before
