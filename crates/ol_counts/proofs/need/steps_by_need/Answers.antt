use Rattle.std.proofs.Common.{◌≡◌, ℕ, ◌<◌, ◌≤◌, true, sym, subst, arith}
use Rattle.ol_term.specs.Trees.{tree_of}
use Rattle.ol_counts.specs.Machines.{after, begun, is_ended}
use Rattle.ol_counts.specs.HeldMachines.{machine_of, HasRoom}
use Rattle.ol_counts.proofs.Moves.{counted_now, counted_within, few}
use Rattle.ol_counts.proofs.need.steps_by_need.Goals as goal

pub returns-then-is_ended : goal.returns-then-is_ended
returns-then-is_ended c =
    let l = c.loop-made in
    let d : is_ended (machine_of l.machine) ≡ true = sym c.if-is_ended.ensures in
    let b : l._made ≤ c.args.moves = (let t = c.loop-made-test.true in omega arith) in
    counted_within (tree_of c.args.term.now) l._made c.args.moves (machine_of l.machine) l.invariant b d

pub returns : goal.returns
returns c =
    let l = c.loop-made in
    let e : l._made ≡ c.args.moves = omega (arith, c.loop-made-test.false, l.auto._made-end) in
    let i : machine_of l.machine ≡ after c.args.moves (begun (tree_of c.args.term.now)) =
    subst (λ (k : ℕ). machine_of l.machine ≡ after k (begun (tree_of c.args.term.now))) e l.invariant in
    counted_now (tree_of c.args.term.now) c.args.moves (machine_of l.machine) i c.is_ended-ended.result
    c.is_ended-ended.ensures

pub step-requires : goal.step-requires
step-requires c =
    let l = c.loop-made in
    let f = few l._made (tree_of c.args.term.now) in
    let t = c.loop-made-test.true in
    let r = c.ranges.moves.fits in
    let b : l._made < 4294967295 = omega arith in
    record {
      room = subst HasRoom (sym l.invariant) (omega (arith, f.0, b), omega (arith, f.1, b), omega (arith, f.2, b));
    }
