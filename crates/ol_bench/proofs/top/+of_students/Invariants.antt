use Rattle.std.proofs.Common.{length, ◌-◌}
use Rattle.ol_bench.proofs.top.+of_students.Given as goal

abbrev pub decreases-of_students : goal.decreases-of_students
decreases-of_students g l = length l.files.now - l.at
