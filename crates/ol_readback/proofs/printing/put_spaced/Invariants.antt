use Rattle.std.proofs.Common.{◌≡◌, ◌+◌, ◌-◌, ◌++◌}
use Rattle.ol_readback.specs.Texts.{spaced}
use Rattle.ol_readback.proofs.printing.put_spaced.Given as goal

abbrev pub invariant-loop-k : goal.invariant-loop-k
invariant-loop-k l = (l.text.items ++ spaced l.binders (l.t + l.k)
    (l.fn.l - l.k) ≡ l.initial.text.items ++ spaced l.initial.binders l.t l.fn.l) × (l.binders ≡ l.initial.binders)
