use Rattle.ol_orders.proofs.Tables.{ports_told}
use Rattle.ol_orders.proofs.comparing.match_ports.Goals as goal

pub returns-in_ok-ok-in-Of-q-2-clause-told : goal.returns-in_ok-ok-in-Of-q-2-clause-told
returns-in_ok-ok-in-Of-q-2-clause-told c =
    ports_told c.args.a.now c.args.b.now c.args.met.now.pairs.items c.args.p c.args.q c.in-Of.x c.in-Of-q-2.y c.in-Of.s
    c.in-Of-q-2.t c.in_ok-ok-in-Of-q-2.ok c.meet.new.met.pairs.items c.in-Of.is c.in-Of-q-2.is c.if-s-t.true
    c.in_ok-ok-in-Of-q-2.ensures.told
