use Rattle.std.proofs.Common.{◌<◌, sym, subst}
use Rattle.ol_pool.specs.Owned.{OwnState}
use Rattle.ol_pool.proofs.Balances.{forks}
use Rattle.ol_pool.proofs.own.Own.lend.Goals as goal

pub another-requires : goal.another-requires
another-requires c = forks _ _ c.self.invariant.3
    (subst (λ (s : OwnState). 1 < s.log.parts) (sym c.self.view_is) c.requires)
