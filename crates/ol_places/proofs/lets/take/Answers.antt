use Rattle.ol_places.proofs.Taken.{let_taken, in_taken, name_taken, sign_taken}
use Rattle.ol_places.proofs.lets.take.Goals as goal

pub returns-in_ok-push-in-Let : goal.returns-in_ok-push-in-Let
returns-in_ok-push-in-Let c = let_taken c.args.kind c.args.lets.now.items c.args.at c.push.new.self.items c.in-Let.is
    c.in_ok-push-in-Let.ensures.items

pub returns-in-In : goal.returns-in-In
returns-in-In c = in_taken c.args.kind c.args.lets.now.items c.args.at c.pop-ended.new.self.items c.args.lets.now.len
    c.in-In.is c.pop-ended.ensures.rest c.args.lets.now.ok.0

pub returns-in-Name : goal.returns-in-Name
returns-in-Name c = name_taken c.args.kind c.args.lets.now.items c.args.at c.in-Name.is

pub returns-in-Sign : goal.returns-in-Sign
returns-in-Sign c = sign_taken c.args.kind c.args.lets.now.items c.args.at c.in-Sign.field-0 c.in-Sign.is
