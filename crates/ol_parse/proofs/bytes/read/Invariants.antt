use Rattle.ol_parse.proofs.FlatReads.{Reads}
use Rattle.ol_parse.proofs.bytes.read.Given as goal

abbrev pub invariant-loop-at : goal.invariant-loop-at
invariant-loop-at l = Reads l.text l.at l.place l.mode l.opens.items l.out.items
