use Rattle.ol_wire.proofs.Opening.Words.{fields_twice}
use Rattle.ol_wire.proofs.net_words.put_node.Goals as goal

pub returns-clause-before : goal.returns-clause-before
returns-clause-before c = fields_twice c.args.net.now c.args.parts c.args.words.now.items
    c.put.new.words.items c.put-2.new.words.items c.args.node _ _ c.requires.before
    c.in_ok-put.ensures c.in_ok-put-2.ensures c.field_of-one.ensures.field c.field_of-two.ensures.field
