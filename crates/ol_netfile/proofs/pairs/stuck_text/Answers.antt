use Rattle.std.proofs.Common.{arith}
use Rattle.ol_net.specs.Numbered.{net_of}
use Rattle.ol_netfile.proofs.StuckBelow.{more-below, same-below, all-below, one-stuck}
use Rattle.ol_netfile.proofs.pairs.stuck_text.Goals as goal
use Rattle.ol_netfile.proofs.pairs.stuck_text.Goals.{in-Some+in_ok-put_pair, in_default}

pub loop-number-preserved : goal.loop-number-preserved
loop-number-preserved c = elim c.match-stuck_with.branch [
  | in-Some+in_ok-put_pair w ↦
      let g = c.args.net.now in
      let n = c.loop-number.number in
      let b = w.in-Some.greater in
      rw w.text-is
      (more-below (net_of g) n b c.loop-number.text.items w.put_pair.new.text.items
      (λ k s. one-stuck g c.is_net.ensures.net n b k w.in-Some.ensures.1 s) w.in-Some.ensures
      c.loop-number.invariant w.in_ok-put_pair.ensures)
  | in_default w ↦
      rw w.text-is
      (same-below (net_of c.args.net.now) c.loop-number.number c.loop-number.text.items
      w.in_default.ensures c.loop-number.invariant)
]

pub returns : goal.returns
returns c = record {
  pairs = all-below c.args.net.now c.loop-number.number c.loop-number.text.items
      (let e = c.born-number-end.ensures.born in omega (arith, e, c.loop-number-test.false)) c.loop-number.invariant;
}
