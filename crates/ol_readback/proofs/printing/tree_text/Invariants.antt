use Rattle.std.proofs.Common.{◌≡◌}
use Rattle.ol_readback.proofs.Printed.{Printing}
use Rattle.ol_readback.proofs.printing.tree_text.Given as goal

abbrev pub invariant-loop-place : goal.invariant-loop-place
invariant-loop-place l = Printing l.names l.tree l.place l.text.items l.rounds.items l.pending.items
    l.t l.argument × (l.binders ≡ l.names)
