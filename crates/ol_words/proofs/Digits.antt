-- How great a number of few digits is.
use Rattle.std.proofs.Common.{ℕ, ◌≡◌, ◌<◌, ◌≤◌, ◌^◌, ◌+◌, ◌-◌, zero, suc, ap, arith}

more_digits : (few more : ℕ) → 10 ^ few ≤ 10 ^ (more + few)
more_digits few zero =
    let none : few ≡ 0 + few = omega arith in
    let same : 10 ^ few ≡ 10 ^ (0 + few) = ap (λ n. 10 ^ n) none in
    omega (arith, same)
more_digits few (suc more) =
    let before = more_digits few more in
    let next : suc more + few ≡ suc (more + few) = omega arith in
    let same : 10 ^ (suc more + few) ≡ 10 ^ suc (more + few) = ap (λ n. 10 ^ n) next in
    omega (arith, before, same)

pub seven_digits : (number places : ℕ) → number < 10 ^ places → places < 8 → number < 10000000
seven_digits number places below few =
    let seven : 7 - places + places ≡ 7 = omega arith in
    let most = more_digits places (7 - places) in
    let same : 10 ^ (7 - places + places) ≡ 10000000 = ap (λ n. 10 ^ n) seven in
    omega (arith, most, same)
