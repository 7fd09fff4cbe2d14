use Rattle.std.proofs.Common.{◌≡◌, ◌++◌, take}
use Rattle.ol_explain.proofs.left.append.Given as goal

-- the entries so far are appended
abbrev pub invariant-loop-k : goal.invariant-loop-k
invariant-loop-k l = l.journal ≡ l.fn.journal ++ take l.k l.more
