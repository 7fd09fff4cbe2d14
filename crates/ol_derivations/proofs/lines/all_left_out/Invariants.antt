use Rattle.std.proofs.Common.{◌≡◌, map, drop}
use Rattle.ol_derivations.specs.Lines.{all_left_out}
use Rattle.ol_derivations.proofs.lines.all_left_out.Given as goal

abbrev pub invariant-loop-k : goal.invariant-loop-k
invariant-loop-k l = all_left_out (map (λ x. x.now) (drop l.k l.lines)) ≡ all_left_out (map (λ x. x.now) l.lines)
