use Rattle.std.proofs.Common.{inl, inr, refl, arith}
use Rattle.ol_diamond.proofs.Facing.{unlinked}
use Rattle.ol_orders.proofs.replaying.Replay.rewrite.Goals as goal

pub returns-then-not-are_facing-clause-idle : goal.returns-then-not-are_facing-clause-idle
returns-then-not-are_facing-clause-idle c = λ e l. unlinked c.args.self.now.net c.args.x.0 c.args.y.0
    (λ h. let e = c.if-not-are_facing.ensures.1 h in cc)

pub returns-in_default-clause-idle : goal.returns-in_default-clause-idle
returns-in_default-clause-idle c = λ e l r. (
  (λ a. c.in_default.not-Active r ((c.facing.ensures.active r).1 (c.args.y.0, inl a))),
  (λ a. c.in_default.not-Active r ((c.facing.ensures.active r).1 (c.args.y.0, inr a))),
)

pub rewrite_pair-requires-clause-pair : goal.rewrite_pair-requires-clause-pair
rewrite_pair-requires-clause-pair c = (
  c.in-Active.field-0,
  ((c.facing.ensures.active c.in-Active.field-0).0 c.in-Active.is, c.if-not-are_facing.ensures.0 refl),
)

pub returns-clause-made : goal.returns-clause-made
returns-clause-made c = λ e. record {
  lesser = let l = c.if-y-x.false in omega arith;
  linked = c.if-not-are_facing.ensures.0 refl;
  old_net = c.is_net.ensures.net;
  advances = c.in_ok-rewrite_pair.ensures.ok;
  bases = c.in_ok-push.ensures.bases;
}
