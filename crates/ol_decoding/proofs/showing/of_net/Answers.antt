use Rattle.std.proofs.Common.{◌≡◌, ◌-◌, length, sym, subst, arith}
use Rattle.ol_readback.specs.Texts.{AreNamed}
use Rattle.ol_demand.specs.Answers.{IsSpent}
use Rattle.ol_decoding.specs.NormalFormsOfNets.{goes_on, ends}
use Rattle.ol_decoding.proofs.showing.of_net.Goals as goal

pub of_tree-requires : goal.of_tree-requires
of_tree-requires c =
    let p = c.requires.ports in
    let e : c.args.net.free - 1 ≡ length c.args.names.now = omega (arith, p) in
    let named = rw c.in-Done.is at c.in_ok-demanded.ensures.names in
    record { named = subst (λ n. AreNamed n c.in-Done.tree) e named }

pub returns-in-Spent : goal.returns-in-Spent
returns-in-Spent c =
    goes_on (c.in_ok-demanded.ensures.spent.0 (subst IsSpent (sym c.in-Spent.is) tt)) c.in_ok-text-in-Spent.ensures

pub returns : goal.returns
returns c =
    let d = rw c.in-Done.is at c.in_ok-demanded.ensures.answer in
    let h = rw c.in-Done.is at c.in_ok-demanded.ensures.heads in
    ends (record { journal = c.in-Done.journal; last = c.demand.new.net; run = d }) h c.in_ok-answer-in-Done.ensures
