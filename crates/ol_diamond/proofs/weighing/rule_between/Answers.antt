use Rattle.std.proofs.Common.{inl, inr, refl}
use Rattle.ol_diamond.proofs.Facing.{unlinked}
use Rattle.ol_diamond.proofs.weighing.rule_between.Goals as goal

pub returns-in_default-clause-idle : goal.returns-in_default-clause-idle
returns-in_default-clause-idle c = λ r. (
  (λ a. c.in_default.not-Active r ((c.facing.ensures.active r).1 (c.args.g.0, inl a))),
  (λ a. c.in_default.not-Active r ((c.facing.ensures.active r).1 (c.args.g.0, inr a))),
)

pub returns-then-not-are_facing-clause-idle : goal.returns-then-not-are_facing-clause-idle
returns-then-not-are_facing-clause-idle c = unlinked c.args.net.now c.args.f.0 c.args.g.0
    (λ l. let e = c.if-not-are_facing.ensures.1 l in cc)

pub returns-clause-linked : goal.returns-clause-linked
returns-clause-linked c = c.if-not-are_facing.ensures.0 refl
