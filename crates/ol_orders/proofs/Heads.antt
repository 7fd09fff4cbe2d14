-- Where the line `ol net 1` stands.
use Rattle.std.proofs.Common.{◌≡◌, ℕ, ◌<◌, ◌≤◌, ◌⊎◌, inl, inr, List, [], length, drop, arith}
use Rattle.std.proofs.lemmas.Bool.{cases_lt}
use Rattle.std.proofs.Math.ListN.{drop_of_length-le}
use Rattle.ol_orders.specs.Same.{HasHead}

-- nowhere, where it stands at no byte of the text
pub nowhere : (bytes : List ℕ) (n : ℕ) → length bytes ≤ n → ((k : ℕ) → k < n → HasHead bytes k → ⊥) →
    (k : ℕ) → HasHead bytes k → ⊥
nowhere bytes n l f k h = go (cases_lt k n)
  where
    go : (k < n) ⊎ (n ≤ k) → ⊥
    go (inl b) = f k b h
    go (inr b) =
        let past : length bytes ≤ k = omega arith in
        let e : drop k bytes ≡ [] = drop_of_length-le bytes past in
        let s = h.stands in
        absurd (cc)
