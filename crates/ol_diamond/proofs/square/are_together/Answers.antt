use Rattle.std.proofs.Common.{arith}
use Rattle.std.proofs.lemmas.Bool.Decides.{nat_tests}
use Rattle.ol_diamond.proofs.Pairs.{by_node, by_free, by_none}
use Rattle.ol_diamond.proofs.square.are_together.Goals as goal

pub returns-then-slot-eq0 : goal.returns-then-slot-eq0
returns-then-slot-eq0 c =
    by_node c.args.net.now c.is_net.ensures.net c.args.first.0 c.args.second.0
    (grind (arith, nat_tests)) c.in-Some-Of.field-0 c.in-Some-Of.node c.in-Some-Of.slot
    c.in-Some-Of.field-0-is c.in-Some-Of.ensures.linked _ (λ e. grind (arith, nat_tests))
    (λ a b. grind (arith, nat_tests))

pub returns-else-slot-eq0 : goal.returns-else-slot-eq0
returns-else-slot-eq0 c =
    by_node c.args.net.now c.is_net.ensures.net c.args.first.0 c.args.second.0
    (grind (arith, nat_tests)) c.in-Some-Of.field-0 c.in-Some-Of.node c.in-Some-Of.slot
    c.in-Some-Of.field-0-is c.in-Some-Of.ensures.linked _ (λ e. grind (arith, nat_tests))
    (λ a b. grind (arith, nat_tests))

pub returns-in-Some-Free : goal.returns-in-Some-Free
returns-in-Some-Free c = by_free c.args.net.now c.is_net.ensures.net c.args.first.0 c.args.second.0
    (grind (arith, nat_tests)) c.in-Some-Free.field-0 c.in-Some-Free.field-0-0
    c.in-Some-Free.field-0-is c.in-Some-Free.ensures.linked

pub returns-in-None : goal.returns-in-None
returns-in-None c = by_none c.args.net.now c.is_net.ensures.net c.args.first.0 c.args.second.0
    (grind (arith, nat_tests)) c.in-None.ensures.none
