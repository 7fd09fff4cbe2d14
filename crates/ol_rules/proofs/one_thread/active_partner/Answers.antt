use Rattle.ol_rules.proofs.OneThread.{partner_of_active}
use Rattle.ol_rules.proofs.one_thread.active_partner.Goals as goal

pub returns-in_default : goal.returns-in_default
returns-in_default c = λ r a. c.in_default.not-Active r ((c.facing.ensures.active r).1 a)

pub returns : goal.returns
returns c = partner_of_active c.args.net.now c.args.at.0 c.in-Active.field-0
    ((c.facing.ensures.active c.in-Active.field-0).0 c.in-Active.is) c.node_at.result c.node_at.ensures
