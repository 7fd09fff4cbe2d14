use Rattle.std.proofs.Common.{ℕ, List, Some, set, sym, subst}
use Rattle.ol_orders.specs.Meetings.{TellPairs}
use Rattle.ol_orders.proofs.Tables.{put_tells}
use Rattle.ol_orders.proofs.comparing.put_pair.Goals as goal

pub returns-clause-tables : goal.returns-clause-tables
returns-clause-tables c =
    let met = c.args.met.now in
    subst (λ (pairs : List (ℕ × ℕ)). TellPairs pairs (set met.there.items c.args.x.0 (Some c.args.y.0))
    (set met.back.items c.args.y.0 (Some c.args.x.0))) (sym c.in-Ok.ensures.items)
    (put_tells met.pairs.items met.there.items met.back.items c.args.x.0 c.args.y.0 c.requires.tables
    c.requires.first c.requires.second c.requires.new_first c.requires.new_second)
