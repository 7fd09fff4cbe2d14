use Rattle.ol_decoding.proofs.Levelled.{context_put}
use Rattle.ol_decoding.proofs.writing.put_context.Goals as goal

pub returns : goal.returns
returns c = context_put c.args.values.now c.args.context.now c.written.result c.args.text.now.items
    c.put_levels.new.text.items c.written.ensures.within c.written.ensures.same c.written.ensures.full
    c.in_ok-put_levels.ensures
