use Rattle.std.proofs.Common.{sym, subst, inr}
use Rattle.ol_view.specs.Checks.{start_net_of_graph}
use Rattle.ol_explain.specs.Reasons.{AreJoined, IsCauseOff}
use Rattle.ol_explain.proofs.WhyNot.{is_there}
use Rattle.ol_explain.proofs.causes.cause_of.Goals as goal

pub other-requires-clause-joined : goal.other-requires-clause-joined
other-requires-clause-joined c =
    subst (λ made. AreJoined c.args.replay.now c.args.line made) c.in-Some.is c.requires.joined

pub returns-in-Some : goal.returns-in-Some
returns-in-Some c = subst (λ made. IsCauseOff c.args.net.now c.args.replay.now c.args.line made
    c.in_ok-cause.cause) (sym c.in-Some.is) c.in_ok-cause.ensures

pub returns-in_default-live-2 : goal.returns-in_default-live-2
returns-in_default-live-2 c = λ form waves text at o.
    c.away-in_default-live-2.ensures form (start_net_of_graph c.args.net.now) waves o.entry o.wave
    (inr (
      sym o.second,
      is_there c.args.net.now c.args.replay.now c.requires.replay c.args.line.first o.entry.first c.in-Some-live.x
          c.in-Some-live.ensures.there o.first,
    ))
