use Rattle.ol_explain.proofs.WhyNot.{NoneBefore}
use Rattle.ol_explain.proofs.causes.naming.Given as goal

-- no entry so far names the node
abbrev pub invariant-loop-m : goal.invariant-loop-m
invariant-loop-m l = NoneBefore l.journal l.name l.m
