use Rattle.std.proofs.Common.{length, ◌∙◌, ap, subst}
use Rattle.ol_context.specs.Shapes.{level_of_shape, IsBelow}
use Rattle.ol_decoding.proofs.Pieced.{wrote_empty, wrote_o, wrote_star, wrote_pair}
use Rattle.ol_decoding.proofs.writing.put_first.Goals as goal

pub returns-in_ok-put-in-Empty : goal.returns-in_ok-put-in-Empty
returns-in_ok-put-in-Empty c = wrote_empty c.args.values.now c.args.pieces.now.items c.requires.pieces
    c.args.text.now.items c.put.new.text.items c.args.of
    (c.shape.ensures.is ∙ ap (level_of_shape c.args.values.now) c.in-Empty.is) c.in_ok-put-in-Empty.ensures

pub returns-in_ok-push-in-O : goal.returns-in_ok-push-in-O
returns-in_ok-push-in-O c = wrote_o c.args.values.now c.args.pieces.now.items c.requires.pieces
    c.args.text.now.items c.put-in-O.new.text.items c.args.of c.in-O.inside c.push.new.pieces.items
    (c.shape.ensures.is ∙ ap (level_of_shape c.args.values.now) c.in-O.is)
    (subst (IsBelow (length c.args.values.now)) c.in-O.is c.shape.ensures.held) c.in_ok-put-in-O.ensures
    c.in_ok-push-in-O.ensures

pub returns-in_ok-push-in-Star : goal.returns-in_ok-push-in-Star
returns-in_ok-push-in-Star c = wrote_star c.args.values.now c.args.pieces.now.items c.requires.pieces
    c.args.text.now.items c.put-in-Star.new.text.items c.args.of c.in-Star.inside c.push-in-Star.new.pieces.items
    (c.shape.ensures.is ∙ ap (level_of_shape c.args.values.now) c.in-Star.is)
    (subst (IsBelow (length c.args.values.now)) c.in-Star.is c.shape.ensures.held) c.in_ok-put-in-Star.ensures
    c.in_ok-push-in-Star.ensures

pub returns-in_ok-push-in-Pair-4 : goal.returns-in_ok-push-in-Pair-4
returns-in_ok-push-in-Pair-4 c = wrote_pair c.args.values.now c.args.pieces.now.items c.requires.pieces
    c.args.text.now.items c.put-in-Pair.new.text.items c.args.of c.in-Pair.first c.in-Pair.second
    c.push-in-Pair.new.pieces.items c.push-in-Pair-2.new.pieces.items c.push-in-Pair-3.new.pieces.items
    c.push-in-Pair-4.new.pieces.items
    (c.shape.ensures.is ∙ ap (level_of_shape c.args.values.now) c.in-Pair.is)
    (subst (IsBelow (length c.args.values.now)) c.in-Pair.is c.shape.ensures.held) c.in_ok-put-in-Pair.ensures
    c.in_ok-push-in-Pair.ensures c.in_ok-push-in-Pair-2.ensures c.in_ok-push-in-Pair-3.ensures
    c.in_ok-push-in-Pair-4.ensures
