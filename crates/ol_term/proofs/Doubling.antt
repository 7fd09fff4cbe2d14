-- How long the text of a doubled term is.
use Rattle.std.proofs.Common.{◌≡◌, ℕ, zero, suc, ◌+◌, ◌*◌, ◌^◌, [], ◌∷◌, ◌++◌, length, length-append, refl, arith}
use Rattle.std.proofs.Math.Nat.{pow-suc}
use Rattle.ol_term.specs.Generated.{doubled, doubled_text}

length_doubled : (k : ℕ) → length (doubled k) + 3 ≡ 22 * 2 ^ k
length_doubled zero = refl
length_doubled (suc k) =
    let ih = length_doubled k in
    let p = pow-suc 2 k in
    let a = length-append (doubled k) (32 ∷ doubled k ++ 41 ∷ []) in
    let b = length-append (doubled k) (41 ∷ []) in
    omega arith

pub length_text : (k : ℕ) → length (doubled_text k) + 2 ≡ 22 * 2 ^ k
length_text k = let d = length_doubled k in omega (arith, length-append (doubled k) (10 ∷ []))
