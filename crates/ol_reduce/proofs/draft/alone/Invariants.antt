use Rattle.std.proofs.Common.{◌≡◌, ℕ, length}
use Rattle.ol_net.specs.Pairing.{other}
use Rattle.ol_reduce.proofs.draft.alone.Given as goal

abbrev pub invariant-loop-place : goal.invariant-loop-place
invariant-loop-place l = (length l.partners.items ≡ l.place) × ((j : ℕ) → other l.partners.items j ≡ j)
