use Rattle.std.proofs.Common.{[], ◌∷◌, ◌++◌, sym, ap, ◌∙◌, subst, arith}
use Rattle.ol_decoding.specs.declared.writing.Piece.TheVariants.{Value}
use Rattle.ol_decoding.specs.Pieces.{AreHeldPieces}
use Rattle.ol_decoding.proofs.Pieced.{first_piece, one_piece, fewer_pieces, all_written}
use Rattle.ol_decoding.proofs.writing.put_value.Goals as goal

pub loop-piece-init : goal.loop-piece-init
loop-piece-init c = first_piece c.args.values.now c.args.of c.requires c.args.text.now.items
    c.new-pieces.result.items c.push.new.pieces.items c.new-pieces.ensures.items c.in_ok-push.ensures

pub put_piece-requires : goal.put_piece-requires
put_piece-requires c = subst (AreHeldPieces c.args.values.now) c.in-Some.ensures.items c.loop-piece.invariant.1

pub loop-piece-preserved : goal.loop-piece-preserved
loop-piece-preserved c = one_piece c.args.values.now c.loop-piece.pieces.items c.pop.new.self.items c.in-Some.piece
    c.loop-piece.text.items c.put_piece.new.pieces.items c.put_piece.new.text.items _ c.in-Some.ensures.items
    c.in_ok-put_piece.ensures c.loop-piece.invariant.0

pub loop-piece-smaller : goal.loop-piece-smaller
loop-piece-smaller c = fewer_pieces c.args.values.now c.loop-piece.pieces.items c.pop.new.self.items c.in-Some.piece
    c.loop-piece.text.items c.put_piece.new.pieces.items c.put_piece.new.text.items c.in-Some.ensures.items
    c.in_ok-put_piece.ensures

pub returns : goal.returns
returns c =
    let h = c.in_default.ensures.cases in
    all_written c.args.values.now c.loop-piece.pieces.items c.loop-piece.text.items _
    (omega (arith, h.0, c.loop-piece.pieces.ok.0)) c.loop-piece.invariant.0
