-- Two nodes that no rule joins after the other pair was rewritten had none before.
use Rattle.std.proofs.Common.{◌⊎◌, inl, inr, refl, sym, ◌∙◌}
use Rattle.ol_diamond.specs.Squares.{IsInNoActive}
use Rattle.ol_diamond.proofs.Turns.{idle_apart, not_idle, in_one_pair, as_made}
use Rattle.ol_diamond.proofs.square.two_orders.Goals.{then-not-is_active-via-then-not-is_active}
use Rattle.ol_diamond.proofs.square.two_orders.Goals.{then-not-is_active-via-else-not-is_active+then-not-is_active-2}
use Rattle.ol_diamond.proofs.square.two_orders.Goals as goal

idle : (c : goal.Joined-then-not-is_active) →
    IsInNoActive c.args.net.now c.args.a.0 ⊎ IsInNoActive c.args.net.now c.args.b.0
idle c = elim c.then-not-is_active.branch [
  | then-not-is_active-via-then-not-is_active w ↦ inl (c.is_active.ensures.idle w.if-not-is_active.true)
  | then-not-is_active-via-else-not-is_active+then-not-is_active-2 w ↦ inr
      (w.is_active-else-not-is_active.ensures.idle w.if-not-is_active-2.true)
]

pub returns-then-not-is_active-clause-not_active :
    goal.returns-then-not-is_active-clause-not_active
returns-then-not-is_active-clause-not_active c = let h = idle c in ((λ e. h), (λ h. refl))

pub returns-then-not-is_active-clause-same_pair : goal.returns-then-not-is_active-clause-same_pair
returns-then-not-is_active-clause-same_pair c = (
  (λ e. absurd (cc)),
  (λ p. absurd (idle_apart c.args.net.now c.args.a.0 c.args.b.0 (idle c) p)),
)

pub returns-then-are_together-clause-not_active : goal.returns-then-are_together-clause-not_active
returns-then-are_together-clause-not_active c = (
  (λ e. absurd (cc)),
  (λ h. absurd (not_idle c.args.net.now c.args.a.0 c.args.b.0
      (c.is_active.ensures.active c.if-not-is_active.false)
      (c.is_active-else-not-is_active.ensures.active c.if-not-is_active-2.false) h)),
)

pub returns-then-are_together-clause-same_pair : goal.returns-then-are_together-clause-same_pair
returns-then-are_together-clause-same_pair c = (
  (λ e. in_one_pair c.args.net.now c.args.a.0 c.args.b.0 c.is_net.ensures.net
      (c.is_active.ensures.active c.if-not-is_active.false) (c.are_together.ensures.0 c.if-are_together.true)),
  (λ h. refl),
)

pub returns-in_default-clause-not_active : goal.returns-in_default-clause-not_active
returns-in_default-clause-not_active c = (
  (λ e. absurd (cc)),
  (λ h. absurd (not_idle c.args.net.now c.args.a.0 c.args.b.0
      (c.is_active.ensures.active c.if-not-is_active.false)
      (c.is_active-else-not-is_active.ensures.active c.if-not-is_active-2.false) h)),
)

pub returns-in_default-in_turn-clause-not_active :
    goal.returns-in_default-in_turn-clause-not_active
returns-in_default-in_turn-clause-not_active c = (
  (λ e. absurd (cc)),
  (λ h. absurd (not_idle c.args.net.now c.args.a.0 c.args.b.0
      (c.is_active.ensures.active c.if-not-is_active.false)
      (c.is_active-else-not-is_active.ensures.active c.if-not-is_active-2.false) h)),
)

pub returns-clause-orders : goal.returns-clause-orders
returns-clause-orders c =
    as_made c.args.net.now c.in-Ok.ab c.in-Ok-in_turn.ba c.args.a.0 c.args.b.0 c.in-Ok.rule_a
    c.in-Ok.rule_b c.in-Ok-in_turn.field-0-2 c.in-Ok-in_turn.field-0-1 c.is_net.ensures.net
    (λ t. let e = sym (c.are_together.ensures.1 t) ∙ c.if-are_together.false in absurd (cc))
    c.in-Ok.ensures.turn c.in-Ok-in_turn.ensures.turn c.in-Ok.ensures.first_rule
    c.in-Ok.ensures.second_rule c.in-Ok-in_turn.ensures.first_rule c.in-Ok-in_turn.ensures.second_rule

pub returns-clause-not_active : goal.returns-clause-not_active
returns-clause-not_active c = (
  (λ e. absurd (cc)),
  (λ h. absurd (not_idle c.args.net.now c.args.a.0 c.args.b.0
      (c.is_active.ensures.active c.if-not-is_active.false)
      (c.is_active-else-not-is_active.ensures.active c.if-not-is_active-2.false) h)),
)
