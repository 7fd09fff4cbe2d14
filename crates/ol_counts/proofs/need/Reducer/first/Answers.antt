use Rattle.std.proofs.Common.{◌≡◌, suc, ◌-◌, sym, ◌∙◌, arith}
use Rattle.ol_counts.specs.HeldMachines.{machine_of}
use Rattle.ol_counts.proofs.Holding.{first_is}
use Rattle.ol_counts.proofs.need.Reducer.first.Goals as goal

pub returns : goal.returns
returns c =
    let k = c.args.chain - 1 in
    let e : c.args.chain ≡ suc k = omega (arith, c.if-chain-eq0.false) in
    c.link_at.ensures ∙ sym (first_is (machine_of c.args.self.now).links c.args.chain k e)
