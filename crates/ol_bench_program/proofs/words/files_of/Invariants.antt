use Rattle.std.proofs.Common.{length, ◌≤◌}
use Rattle.ol_bench_program.proofs.words.files_of.Given as goal

abbrev pub invariant-loop-k : goal.invariant-loop-k
invariant-loop-k l = length l.files.items ≤ l.k
