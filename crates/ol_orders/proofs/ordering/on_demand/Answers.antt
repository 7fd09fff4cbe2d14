use Rattle.std.proofs.Common.{sym, ◌∙◌, subst}
use Rattle.ol_net.specs.Graph.{Graph}
use Rattle.ol_demand.specs.declared.answers.Demanded.TheVariants.{Done, Spent}
use Rattle.ol_demand.specs.Answers.{IsAnswer}
use Rattle.ol_orders.specs.declared.ordering.Order.TheVariants.{Demand}
use Rattle.ol_orders.specs.Orders.{IsJournalOf, demand_ended, demand_goes_on, no_root}
use Rattle.ol_orders.proofs.ordering.on_demand.Goals as goal

pub returns-then-free_ports-eq0 : goal.returns-then-free_ports-eq0
returns-then-free_ports-eq0 c =
    subst (λ e. IsJournalOf c.args.net.now c.args.fuel.most c.args.heads.most c.in_ok-answer.answer.text.items
    Demand e) (sym c.in_ok-answer.ensures.yes)
    (no_root (sym c.free_ports.ensures.free ∙ c.if-free_ports-eq0.true) c.in_ok-answer.ensures.text)

pub returns-in-Spent : goal.returns-in-Spent
returns-in-Spent c =
    demand_goes_on
    (subst (λ (g : Graph). IsAnswer g c.args.heads.most c.args.fuel.most c.demand.new.net
    (Spent c.in-Spent.journal)) c.in_ok-last.ensures.copy
    (subst (IsAnswer c.in_ok-last.last c.args.heads.most c.args.fuel.most c.demand.new.net) c.in-Spent.is
    c.in_ok-demanded.ensures.answer))
    c.in_ok-text-in-Spent.ensures

pub returns : goal.returns
returns c =
    demand_ended
    (subst (λ (g : Graph). IsAnswer g c.args.heads.most c.args.fuel.most c.demand.new.net
    (Done c.in-Done.tree c.in-Done.journal)) c.in_ok-last.ensures.copy
    (subst (IsAnswer c.in_ok-last.last c.args.heads.most c.args.fuel.most c.demand.new.net) c.in-Done.is
    c.in_ok-demanded.ensures.answer))
    c.in_ok-text-in-Done.ensures
