-- One of three parts with counts has counts.
use Rattle.std.proofs.Common.{Bool, true, false, if◌then◌else◌, ◌==◌, [], arith}
use Rattle.ol_pool.specs.Looks.{Part, HasCounts, new_part}
use Rattle.ol_net_tests.proofs.pools.FakeLook.parts.Goals as goal

one_of : (a b c : Bool) (x y z : Part) → HasCounts x → HasCounts y → HasCounts z →
    HasCounts (if a then x else if b then y else if c then z else new_part)
one_of true b c x y z p q r = p
one_of false true c x y z p q r = q
one_of false false true x y z p q r = r
one_of false false false x y z p q r = (omega arith, omega arith)

pub returns-clause-counts : goal.returns-clause-counts
returns-clause-counts c = λ p. one_of (p == 0) (p == 1)
    (p == 2) c.args.self.now.zero c.args.self.now.one c.args.self.now.two c.counts.ensures
    c.counts-2.ensures c.counts-3.ensures
