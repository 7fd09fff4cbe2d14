-- Values that are taken away where no head was found.
use Rattle.std.proofs.Common.{◌≡◌, ℕ, suc, ◌<◌, ◌≤◌, List, [], ◌∷◌, length, take, refl, sym, ap, ◌∙◌, subst, arith}
use Rattle.ol_context.specs.Contexts.{Level}
use Rattle.ol_context.specs.Shapes.{value, Extends}
use Rattle.ol_context.proofs.Shapes.{extends_refl}
use Rattle.ol_readback.specs.Heads.{answer_of, IsHeldHead}
use Rattle.ol_readback.specs.Asking.{IsUnchangedUnlessFound}
use Rattle.ol_readback.specs.Searches.{KeepsFirst}
use Rattle.ol_readback.specs.declared.answers.Head.{Head}
use Rattle.ol_readback.specs.declared.answers.Head.TheVariants.{Is, NoHead, Budget}

pub answer_kept : (count : ℕ) (mid new : List Level) (h : Head) → KeepsFirst count mid new h →
    answer_of new h ≡ answer_of mid h
answer_kept count mid new (Is l v k ns) e = ap (λ vs. answer_of vs (Is l v k ns)) e
answer_kept count mid new NoHead e = refl
answer_kept count mid new Budget e = refl

pub held_kept : (count : ℕ) (mid new : List Level) (h : Head) → KeepsFirst count mid new h →
    IsHeldHead mid h → IsHeldHead new h
held_kept count mid new (Is l v k ns) e b = subst (λ (vs : List Level). IsHeldHead vs (Is l v k ns)) (sym e) b
held_kept count mid new NoHead e b = tt
held_kept count mid new Budget e b = tt

front_is : (old mid : List Level) → ((k : ℕ) → k < length old → value mid k ≡ value old k) →
    length old ≤ length mid → take (length old) mid ≡ old
front_is [] mid h b = refl
front_is (v ∷ vs) [] h b = absurd (omega arith)
front_is (v ∷ vs) (w ∷ ws) h b = ap (λ u. u ∷ take (length vs) ws) (h 0 (omega arith))
    ∙ ap (λ r. v ∷ r) (front_is vs ws (λ k c. h (suc k) (omega arith)) (omega arith))

module _ (old mid new : List Level) (count : ℕ) (c : count ≡ length old) (x : Extends old mid) where
  cut_is : new ≡ take count mid → new ≡ old
  cut_is e = e ∙ ap (λ n. take n mid) c ∙ front_is old mid x.same x.longer

  pub unchanged : (h : Head) → KeepsFirst count mid new h → IsUnchangedUnlessFound old new h
  unchanged (Is l v k ns) e = tt
  unchanged NoHead e = cut_is e
  unchanged Budget e = cut_is e

  pub extends_kept : (h : Head) → KeepsFirst count mid new h → Extends old new
  extends_kept (Is l v k ns) e = subst (Extends old) (sym e) x
  extends_kept NoHead e = subst (Extends old) (sym (cut_is e)) (extends_refl old)
  extends_kept Budget e = subst (Extends old) (sym (cut_is e)) (extends_refl old)
