use Rattle.std.proofs.Common.{◌==◌, length, ℕ, Some, sym, ap, ◌∙◌, subst, arith}
use Rattle.ol_net.specs.Graph.{Graph}
use Rattle.ol_demand.specs.Answers.{IsAnswer}
use Rattle.ol_counts.specs.declared.tallies.Tally.{Tally}
use Rattle.ol_counts.specs.Tallies.{IsDemandTally, net_tally}
use Rattle.ol_counts.proofs.tallies.demand_tally.Goals as goal

pub returns-then-free_ports-eq0 : goal.returns-then-free_ports-eq0
returns-then-free_ports-eq0 c =
    subst (λ (t : Tally). IsDemandTally c.args.net.now c.args.heads.most c.args.fuel.most t) (sym c.nothing.ensures)
    (IsDemandTally.no_root (sym c.free_ports.ensures.free ∙ c.if-free_ports-eq0.true))

pub returns-in-Spent : goal.returns-in-Spent
returns-in-Spent c =
    let n = c.net_tally.ensures in
    subst (λ (g : Graph). IsDemandTally g c.args.heads.most c.args.fuel.most c.net_tally.result) c.in_ok-last.ensures.copy
    (subst (λ (t : Tally). IsDemandTally c.in_ok-last.last c.args.heads.most c.args.fuel.most t) (sym n.2)
    (IsDemandTally.cut (subst (IsAnswer c.in_ok-last.last c.args.heads.most c.args.fuel.most
    c.demand.new.net) c.in-Spent.is c.in_ok-demanded.ensures.answer) n.1))

pub crossings-requires-clause-root : goal.crossings-requires-clause-root
crossings-requires-clause-root c =
    let e = c.in_ok-demanded.ensures.free in
    let f = c.in_ok-last.ensures.copy in
    let z = c.if-free_ports-eq0.false in
    let y = c.free_ports.ensures.free in
    let x = ap (λ (g : Graph). g.free) f in
    omega (arith, e, x, y, z)

pub returns : goal.returns
returns c =
    let n = c.net_tally-in-Done.ensures in
    let tree = c.in-Done.tree in
    let places = c.places_read-places.result in
    let crossings = c.in_ok-crossings-in-Done.crossings in
    let P : ℕ → ℕ → Type 0 = λ p k. IsDemandTally c.in_ok-last.last c.args.heads.most c.args.fuel.most
    (net_tally c.in-Done.journal n.0 (Some (record { places = p; crossings = crossings })) (p == k)) in
    subst (λ (g : Graph). IsDemandTally g c.args.heads.most c.args.fuel.most c.net_tally-in-Done.result) c.in_ok-last.ensures.copy
    (subst (λ (t : Tally). IsDemandTally c.in_ok-last.last c.args.heads.most c.args.fuel.most t) (sym n.2)
    (subst (λ (k : ℕ). P places k) (sym c.len.ensures)
    (subst (λ (p : ℕ). P p (length tree)) (sym c.places_read-places.ensures)
    (IsDemandTally.reads (subst (IsAnswer c.in_ok-last.last c.args.heads.most c.args.fuel.most
    c.demand.new.net) c.in-Done.is c.in_ok-demanded.ensures.answer) n.1 c.in_ok-crossings-in-Done.ensures))))
