-- The numbers that a process ends with.
use Rattle.std.specs.Prelude.{ℕ}
use Rattle.ol_bench.specs.declared.top.Status.{Status}
use Rattle.ol_bench.specs.declared.top.Status.TheVariants.{Yes, No, Refused, WriteFault, NoMemory, Run, NotARun, BadText}

abbrev pub status_number : Status → ℕ
status_number Yes = 0
status_number No = 1
status_number Refused = 3
status_number WriteFault = 5
status_number NoMemory = 6
status_number Run = 10
status_number NotARun = 11
status_number BadText = 12
