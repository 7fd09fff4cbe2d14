use Rattle.std.proofs.Common.{◌<◌, sym, subst}
use Rattle.ol_pool.specs.Owned.{OwnState}
use Rattle.ol_pool.proofs.Balances.{pushes}
use Rattle.ol_pool.proofs.own.Own.put.Goals as goal

pub put-requires-clause-pushes : goal.put-requires-clause-pushes
put-requires-clause-pushes c = pushes _ _ c.args.cell c.self.invariant.3
    (subst (λ (s : OwnState). c.args.cell < s.log.bound) (sym c.self.view_is) c.requires.below)
