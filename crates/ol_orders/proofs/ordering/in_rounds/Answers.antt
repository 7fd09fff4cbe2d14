use Rattle.std.proofs.Common.{length, subst}
use Rattle.ol_orders.specs.Orders.{rounds_ended, rounds_go_on}
use Rattle.ol_orders.specs.Played.{IsPlayed}
use Rattle.ol_orders.proofs.Traced.{few_entries}
use Rattle.ol_orders.proofs.ordering.in_rounds.Goals as goal

pub traced-requires-clause-few : goal.traced-requires-clause-few
traced-requires-clause-few c = few_entries (length c.args.net.now.nodes)
    (length c.in_ok-ran.ran.journal) c.args.fuel.most c.requires.few c.args.fuel.within c.in_ok-ran.ensures.within

pub returns-in-Done : goal.returns-in-Done
returns-in-Done c = λ heads.
    rounds_ended (subst (λ e. IsPlayed c.args.net.now c.args.fuel.most c.in_ok-ran.ran.journal e)
    c.in-Done.is c.in_ok-ran.ensures.played) c.in_ok-text.ensures

pub returns : goal.returns
returns c = λ heads.
    rounds_go_on (subst (λ e. IsPlayed c.args.net.now c.args.fuel.most c.in_ok-ran.ran.journal e)
    c.in-Spent.is c.in_ok-ran.ensures.played) c.in_ok-text.ensures
