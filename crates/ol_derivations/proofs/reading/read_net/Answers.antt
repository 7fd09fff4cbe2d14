use Rattle.std.proofs.Common.{refl, sym, subst, ◌-◌, ◌≡◌, length, arith}
use Rattle.ol_demand.specs.Answers.{IsSpent, IsAnswer, IfDone}
use Rattle.ol_demand.specs.declared.answers.Demanded.{Demanded}
use Rattle.ol_readback.specs.Texts.{AreNamed}
use Rattle.ol_derivations.proofs.reading.read_net.Goals as goal

pub returns-in-Spent : goal.returns-in-Spent
returns-in-Spent c = (refl, c.in_ok-demanded.ensures.spent.0 (subst IsSpent (sym c.in-Spent.is) tt))

pub returns-in-Done : goal.returns-in-Done
returns-in-Done c =
    let net = c.args.net in
    let tree = c.in-Done.tree in
    let named = subst (λ (d : Demanded). IfDone d (AreNamed (net.free - 1))) c.in-Done.is c.in_ok-demanded.ensures.names in
    let e : net.free - 1 ≡ length c.args.names = omega (arith, c.requires.free) in (
      refl,
      subst (λ n. AreNamed n tree) e named,
      c.demand.new.net,
      c.in-Done.journal,
      subst (IsAnswer net c.args.bounds.heads.most c.args.bounds.fuel.most c.demand.new.net) c.in-Done.is
          c.in_ok-demanded.ensures.answer,
    )
