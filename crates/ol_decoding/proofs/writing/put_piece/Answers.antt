use Rattle.std.proofs.Common.{List, [], ◌∷◌, ◌++◌, sym, subst}
use Rattle.ol_decoding.specs.declared.writing.Piece.{Piece}
use Rattle.ol_decoding.specs.Pieces.{IsHeldPiece, Writes}
use Rattle.ol_decoding.proofs.Pieced.{held_first, held_last, wrote_comma, wrote_close}
use Rattle.ol_decoding.proofs.writing.put_piece.Goals as goal

pub put_first-requires-clause-held : goal.put_first-requires-clause-held
put_first-requires-clause-held c = subst (λ (p : Piece). IsHeldPiece c.args.values.now p) c.in-Value.is
    (held_last c.args.values.now c.args.pieces.now.items c.args.piece c.requires)

pub put_first-requires-clause-pieces : goal.put_first-requires-clause-pieces
put_first-requires-clause-pieces c =
    held_first c.args.values.now c.args.pieces.now.items c.args.piece c.requires

pub returns-in_ok-put-in-Comma : goal.returns-in_ok-put-in-Comma
returns-in_ok-put-in-Comma c =
    subst (λ (p : Piece). Writes c.args.values.now (c.args.pieces.now.items ++ p ∷ []) c.args.text.now.items
    c.args.pieces.now.items c.put.new.text.items) (sym c.in-Comma.is)
    (wrote_comma c.args.values.now c.args.pieces.now.items
    (held_first c.args.values.now c.args.pieces.now.items c.args.piece c.requires)
    c.args.text.now.items c.put.new.text.items c.in_ok-put-in-Comma.ensures)

pub returns-in_ok-put-in-Close : goal.returns-in_ok-put-in-Close
returns-in_ok-put-in-Close c =
    subst (λ (p : Piece). Writes c.args.values.now (c.args.pieces.now.items ++ p ∷ []) c.args.text.now.items
    c.args.pieces.now.items c.put-in-Close.new.text.items) (sym c.in-Close.is)
    (wrote_close c.args.values.now c.args.pieces.now.items
    (held_first c.args.values.now c.args.pieces.now.items c.args.piece c.requires)
    c.args.text.now.items c.put-in-Close.new.text.items c.in_ok-put-in-Close.ensures)
