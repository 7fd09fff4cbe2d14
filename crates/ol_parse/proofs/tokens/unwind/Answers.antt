use Rattle.std.proofs.Common.{◌≡◌, true, ap}
use Rattle.ol_parse.proofs.FlatSteps.{emits, unwound, let_unwound}
use Rattle.ol_parse.specs.declared.flat.Op.TheVariants.{Apply, Abstract}
use Rattle.ol_parse.specs.declared.flat.Open.TheVariants.{Applied}
use Rattle.ol_parse.proofs.tokens.unwind.Goals as goal

pub returns-in_ok-push-in-Applied-true-clause-ended : goal.returns-in_ok-push-in-Applied-true-clause-ended
returns-in_ok-push-in-Applied-true-clause-ended c = let e : c.args.innermost ≡ Applied true = cc in
    unwound c.args.innermost Apply c.args.out.now.items c.push.new.self.items
    (ap emits e) c.in_ok-push-in-Applied-true.ensures.items

pub returns-in_ok-push-in-Abstracted-clause-ended : goal.returns-in_ok-push-in-Abstracted-clause-ended
returns-in_ok-push-in-Abstracted-clause-ended c = unwound c.args.innermost
    (Abstract c.in-Abstracted.x) c.args.out.now.items c.push-in-Abstracted.new.self.items
    (ap emits c.in-Abstracted.is) c.in_ok-push-in-Abstracted.ensures.items

pub returns-in_ok-push-in-Bound-2-clause-ended : goal.returns-in_ok-push-in-Bound-2-clause-ended
returns-in_ok-push-in-Bound-2-clause-ended c = let_unwound c.args.innermost c.in-Bound.x c.args.out.now.items
    c.push-in-Bound.new.self.items c.push-in-Bound-2.new.self.items c.in-Bound.is
    c.in_ok-push-in-Bound.ensures.items c.in_ok-push-in-Bound-2.ensures.items
