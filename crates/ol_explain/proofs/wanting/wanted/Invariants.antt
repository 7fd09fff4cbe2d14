use Rattle.ol_explain.specs.Wanted.{AreThose}
use Rattle.ol_explain.specs.Fields.{GoesOn}
use Rattle.ol_explain.proofs.wanting.wanted.Given as goal

-- those below this one are found
abbrev pub invariant-loop-number : goal.invariant-loop-number
invariant-loop-number l = AreThose (GoesOn l.field l.end l.read) l.number l.bytes.items
