use Rattle.std.proofs.Common.{◌≡◌, ℕ, ◌+◌, ◌≤◌, take}
use Rattle.ol_derivations.specs.PlacesOfPaths.{gone}
use Rattle.ol_derivations.proofs.rounding.round_of.Given as goal

-- what is left to be walked back over leads to the same
abbrev pub invariant-back : goal.invariant-back
invariant-back l = record {
  within : l.place ≤ l.k;
  few : l.trees + l.place ≤ l.k;
  same : ◌≡◌ {A = ℕ × ℕ} (gone (take l.place l.tree) (l.trees, l.round)) (gone (take l.k l.tree) (0, 0));
}

abbrev pub decreases-back : goal.decreases-back
decreases-back l = l.place
