-- What an action tells of its rule.
-- Used in crates above.
use Rattle.std.proofs.Common.{◌≡◌, ℕ, Bool, true, false, if◌then◌else◌, refl}
use Rattle.ol_rules.specs.Rewriting.{meeting, crossing}

pub crosses : (m : Bool) (n j : ℕ) → (if m then meeting else crossing n) ≡ crossing j → (m ≡ false) × (j ≡ n)
crosses true n j e = absurd (cc)
crosses false n j e = (refl, cc)

pub meets : (m : Bool) (n : ℕ) → (if m then meeting else crossing n) ≡ meeting → m ≡ true
meets true n e = refl
meets false n e = absurd (cc)
