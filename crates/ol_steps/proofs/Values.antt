-- The number of a value.
use Rattle.std.proofs.Common.{◌≡◌, ℕ, suc, ◌+◌, ◌-◌, ◌<◌, ◌≤◌, Bool, true, false, List, [], ◌∷◌, length, Some}
use Rattle.std.proofs.Common.{refl, ap, ◌∙◌, arith}
use Rattle.std.specs.Prelude.{if◌then◌else◌, slice_index_or}
use Rattle.ol_term.specs.Trees.{Tree}
use Rattle.ol_steps.specs.Folded.{is_same, value_at}
use Rattle.ol_steps.proofs.Same.{same_is}

-- a number leads to the value
pub record LeadsTo (n : ℕ) (vs : List Tree) (t : Tree) (k : ℕ) : Type 0 where
  pub from : n ≤ k
  pub within : k < n + length vs
  pub value : (d : Tree) → slice_index_or vs (k - n) d ≡ t

one_value : (n : ℕ) (v : Tree) (vs : List Tree) (t : Tree) (k : ℕ) (b : Bool) → is_same v t ≡ b →
    (value_at (n + 1) vs t ≡ Some k → LeadsTo (n + 1) vs t k) →
    (if b then Some n else value_at (n + 1) vs t) ≡ Some k → LeadsTo n (v ∷ vs) t k
one_value n v vs t k true s each h =
    let same : n ≡ k = cc in
    let z : k - n ≡ 0 = omega (arith, same) in
    record {
      from = omega (arith, same);
      within = omega (arith, same);
      value = λ d. ap (λ (i : ℕ). slice_index_or (v ∷ vs) i d) z ∙ same_is v t s;
    }
one_value n v vs t k false s each h =
    let l = each h in
    let from : n + 1 ≤ k = l.from in
    let within : k < n + 1 + length vs = l.within in
    let z : k - n ≡ suc (k - (n + 1)) = omega (arith, from) in
    record {
      from = omega (arith, from);
      within = omega (arith, within);
      value = λ d. ap (λ (i : ℕ). slice_index_or (v ∷ vs) i d) z ∙ l.value d;
    }

pub leads_to : (n : ℕ) (vs : List Tree) (t : Tree) (k : ℕ) → value_at n vs t ≡ Some k → LeadsTo n vs t k
leads_to n [] t k e = absurd (cc)
leads_to n (v ∷ vs) t k e = one_value n v vs t k (is_same v t) refl (λ h. leads_to (n + 1) vs t k h) e
