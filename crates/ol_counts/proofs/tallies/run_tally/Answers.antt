use Rattle.std.proofs.Common.{sym, subst}
use Rattle.ol_net.specs.Graph.{Graph}
use Rattle.ol_counts.specs.declared.tallies.Tally.{Tally}
use Rattle.ol_counts.specs.Tallies.{IsRunTally}
use Rattle.ol_counts.proofs.tallies.run_tally.Goals as goal

pub returns-in-Spent : goal.returns-in-Spent
returns-in-Spent c =
    let n = c.net_tally.ensures in
    subst (λ (g : Graph). IsRunTally g c.args.fuel.most c.net_tally.result) c.in_ok-last.ensures.copy
    (subst (λ (t : Tally). IsRunTally c.in_ok-last.last c.args.fuel.most t) (sym n.2)
    (IsRunTally.cut c.in_ok-ran.ensures.runs (c.in_ok-ran.ensures.spent.0 c.in-Spent.is) n.1))

pub returns : goal.returns
returns c =
    let n = c.net_tally-in-Done.ensures in
    subst (λ (g : Graph). IsRunTally g c.args.fuel.most c.net_tally-in-Done.result) c.in_ok-last.ensures.copy
    (subst (λ (t : Tally). IsRunTally c.in_ok-last.last c.args.fuel.most t) (sym n.2)
    (IsRunTally.ended c.in_ok-ran.ensures.runs (c.in_ok-ran.ensures.done.0 c.in-Done.is) n.1))
