use Rattle.std.proofs.Common.{ℕ, Option, refl, sym, ◌∙◌, subst}
use Rattle.ol_net.specs.Numbered.{numbered_port, net_of}
use Rattle.ol_net.specs.Nets.{slot}
use Rattle.ol_context.specs.Open.{open_at}
use Rattle.ol_context.specs.Passing.{HasPassed}
use Rattle.ol_context.proofs.Crossings.{node_port, has_kind, slot_within, goes_through, is_barred}
use Rattle.ol_context.proofs.Passing.{open_not_barred}
use Rattle.ol_context.proofs.open_walking.cross_open.Goals as goal

pub unreachable-requires-in_default-kind_of : goal.unreachable-requires-in_default-kind_of
unreachable-requires-in_default-kind_of g c =
    has_kind c.args.net.now c.in-Of.node.0 c.in-Of.slot
    (node_port c.args.net.now c.args.at c.in-Of.node c.in-Of.slot c.in-Of.is c.requires.port)
    (sym c.kind_of.ensures.table ∙ c.in_default-kind_of.is)

pub pass-requires-clause-slot : goal.pass-requires-clause-slot
pass-requires-clause-slot g c = slot_within c.args.net.now c.args.at c.in-Of.node c.in-Of.slot
    c.in-Of.is c.in-Some.kind c.in-Some.index (sym c.in-Some.ensures.table) c.requires.port

pub returns-in_default-crossed-clause-undefined : goal.returns-in_default-crossed-clause-undefined
returns-in_default-crossed-clause-undefined g c =
    let y = subst (λ (r : Option ℕ). HasPassed c.in-Some.kind c.in-Some.index c.in-Of.slot
    c.args.values.now c.pass.new.values c.args.context.now c.pass.new.self r)
    c.in_default-crossed.is c.in_ok-crossed.ensures.passed in (
      λ e n b. is_barred c.args.net.now c.args.at c.in-Of.node c.in-Of.slot c.in-Of.is c.in-Some.kind
          c.in-Some.index (sym c.in-Some.ensures.table)
          (open_at c.args.values.now c.args.context.now n) (y.0 n b),
      λ b. refl,
    )

pub returns-clause-out : goal.returns-clause-out
returns-clause-out g c =
    let y = subst (λ (r : Option ℕ). HasPassed c.in-Some.kind c.in-Some.index c.in-Of.slot
    c.args.values.now c.pass.new.values c.args.context.now c.pass.new.self r)
    c.in-Some-crossed.is c.in_ok-crossed.ensures.passed in
    record {
      within = y.within;
      made = λ n b. goes_through c.args.net.now c.args.at c.in-Of.node c.in-Of.slot c.in-Of.is
          c.in-Some.kind c.in-Some.index (sym c.in-Some.ensures.table) c.in-Some-crossed.slot
          (open_at c.args.values.now c.args.context.now n) (open_at c.pass.new.values c.pass.new.self n) (y.made n b);
      barred = λ n b d. is_barred c.args.net.now c.args.at c.in-Of.node c.in-Of.slot c.in-Of.is
          c.in-Some.kind c.in-Some.index (sym c.in-Some.ensures.table)
          (open_at c.args.values.now c.args.context.now n) (y.barred n b d);
    }

pub returns-clause-undefined : goal.returns-clause-undefined
returns-clause-undefined g c =
    open_not_barred (net_of c.args.net.now) (numbered_port c.args.at)
    (slot c.in-Of.node.0 c.in-Some-crossed.slot) c.args.values.now c.pass.new.values
    c.args.context.now c.pass.new.self _
    (returns-clause-out g c) (λ e. absurd (cc))
