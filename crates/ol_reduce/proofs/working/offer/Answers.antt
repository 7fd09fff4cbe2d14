use Rattle.ol_reduce.proofs.Offering.{offered_one}
use Rattle.ol_reduce.proofs.working.offer.Goals as goal

pub returns : goal.returns
returns c = offered_one c.put.result c.args.hand.now c.put.new.hand c.args.cell c.put.ensures.sent
    c.put.ensures.unchanged c.put.ensures.refused
