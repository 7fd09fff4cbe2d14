use Rattle.std.proofs.Common.{◌≡◌, ◌++◌}
use Rattle.ol_context.specs.Shapes.{value}
use Rattle.ol_decoding.specs.Lines.{level_text}
use Rattle.ol_decoding.specs.Pieces.{pieces_text, pieces_size, AreHeldPieces}
use Rattle.ol_decoding.proofs.writing.put_value.Given as goal

abbrev pub invariant-loop-piece : goal.invariant-loop-piece
invariant-loop-piece l = (l.text.items ++ pieces_text l.values l.pieces.items
    ≡ l.fn.text.items ++ level_text (value l.values l.fn.of)) × AreHeldPieces l.values l.pieces.items

abbrev pub decreases-loop-piece : goal.decreases-loop-piece
decreases-loop-piece l = pieces_size l.values l.pieces.items
