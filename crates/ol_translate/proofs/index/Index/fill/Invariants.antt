use Rattle.std.proofs.Common.{◌≡◌, ℕ, ◌<◌, Some, slice_get, slice_index_or}
use Rattle.ol_net.specs.declared.parts.Port.{Port}
use Rattle.ol_translate.proofs.index.Index.fill.Given as goal

-- the places of the wires that were gone through
abbrev pub invariant-loop-place : goal.invariant-loop-place
invariant-loop-place l = (j : ℕ) (w : ℕ × Port) → j < l.place →
    slice_get l.self.places.items (slice_index_or l.wire-items j w).0 ≡ Some j
