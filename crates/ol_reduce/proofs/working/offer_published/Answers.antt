-- The cells of a mask are offered one by one.
use Rattle.std.proofs.Common.{◌≡◌, ℕ, suc, ◌+◌, ◌/◌, ◌%◌, ◌^◌, ◌==◌, Bool, true, false, List, []}
use Rattle.std.proofs.Common.{◌∷◌, if◌then◌else◌, refl, sym, subst, arith}
use Rattle.ol_pool.specs.Pools.{HandState}
use Rattle.ol_rules.specs.Listed.{each}
use Rattle.ol_reduce.specs.Offered.{HasOffered}
use Rattle.ol_reduce.proofs.Offering.{offered_none, offered_more}
use Rattle.ol_reduce.proofs.working.offer_published.Goals as goal

pub loop-bit-init : goal.loop-bit-init
loop-bit-init c = offered_none c.args.hand.now

abbrev row : ℕ → ℕ → ℕ → List ℕ
row first mask j = if mask / 2 ^ j % 2 == 1 then (first + j) ∷ [] else []

row_offered : (v n : HandState) (cells : List ℕ) (test b : Bool) → test ≡ b →
    (test ≡ true → HasOffered v cells n) → (test ≡ false → n ≡ v) → HasOffered v (if test then cells else []) n
row_offered v n cells test true e set clear = subst
    (λ (b : Bool). HasOffered v (if b then cells else []) n) (sym e) (set e)
row_offered v n cells test false e set clear = subst
    (λ (b : Bool). HasOffered v (if b then cells else []) n) (sym e)
    (subst (λ (m : HandState). HasOffered v [] m) (sym (clear e)) (offered_none v))

one_more : (v m n : HandState) (first mask j : ℕ) → HasOffered v (each j (row first mask)) m →
    HasOffered m (row first mask j) n → HasOffered v (each (j + 1) (row first mask)) n
one_more v m n first mask j before now =
    let e : suc j ≡ j + 1 = omega arith in
    subst (λ k. HasOffered v (each k (row first mask)) n) e
    (offered_more v m n (each j (row first mask)) (row first mask j) before now)

pub loop-bit-preserved : goal.loop-bit-preserved
loop-bit-preserved c =
    let j = c.loop-bit.bit in
    let test : Bool = c.args.mask / 2 ^ j % 2 == 1 in
    one_more c.args.hand.now c.loop-bit.hand c.offer_bit.new.hand c.args.first_cell c.args.mask j c.loop-bit.invariant
    (row_offered c.loop-bit.hand c.offer_bit.new.hand
    ((c.args.first_cell + j) ∷ []) test test refl c.offer_bit.ensures.set c.offer_bit.ensures.clear)
