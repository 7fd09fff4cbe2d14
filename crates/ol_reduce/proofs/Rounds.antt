-- The rounds over free ports and nodes, over all nets that the words stand for.
use Rattle.std.proofs.Common.{◌≡◌, ℕ, zero, suc, ◌+◌, ◌*◌, ◌<◌, List, [], ◌++◌, length, get_or}
use Rattle.std.proofs.Common.{slice_index, refl, sym, ap, ◌∙◌, subst, arith}
use Rattle.std.specs.Prelude.{replicate, take}
use Rattle.std.proofs.lemmas.List.{get_or_default}
use Rattle.ol_wire.specs.declared.layout.Parts.{Parts}
use Rattle.ol_wire.specs.Layout.{port_word, table_size}
use Rattle.ol_wire.specs.Standing.{is_reached_in}
use Rattle.ol_wire.specs.Closed.{ClosedTable}
use Rattle.ol_reduce.specs.Left.{ranks_in, AreLeft}
use Rattle.ol_reduce.specs.Found.{AreMetTo, AreCelledTo, IsWordOf, IsWordAt, KeepsPartners}
use Rattle.ol_reduce.proofs.Arriving.{Told, small_of}
use Rattle.ol_reduce.proofs.WordOf.{word_of_port, word_of_slot, field_within}
use Rattle.ol_reduce.proofs.Meeting.{wider_met, none_met, owner_no_slot}
use Rattle.ol_wire.proofs.Opening.Lists.{empty_at}

module _ (w : ClosedTable) (places numbers : List ℕ)
    (left_are : AreLeft w (ranks_in w) places numbers) (told : Told w) where
  abbrev z : Parts
  z = w.plan.parts

  pub port_word_at : (k n : ℕ) → k < z.free → n ≡ port_word k → IsWordAt w places k n
  port_word_at k n lt e = subst (λ m. IsWordAt w places k m) (sym e)
      (λ N reached s. word_of_port w places numbers left_are N reached s k lt)

  -- the word of slot c + 1 of node j
  pub slot_word_at : (j c place at : ℕ) → j < length places → c < 2 →
      place ≡ z.free + 3 * j + (c + 1) → at ≡ slice_index places j + c → IsWordAt w places place at
  slot_word_at j c place at lt small p q N reached s =
      subst (λ a. IsWordOf w N reached places a at) (sym p)
      (subst (λ n. IsWordOf w N reached places (z.free + 3 * j + (c + 1)) n) (sym q)
      (word_of_slot w places numbers left_are N reached s j c lt small))

  pub slot_within : (j c at : ℕ) → j < length places → c < 2 → at ≡ slice_index places j + c → at < table_size z
  slot_within j c at lt small q = omega
      (arith, q, field_within w places numbers left_are told.0 (is_reached_in w) told.2 j c lt small)

  pub slot_below : (j c at : ℕ) → j < length places → c < 2 → at ≡ slice_index places j + c → at < 400000000
  slot_below j c at lt small q = omega (arith, slot_within j c at lt small q, small_of w told)

  -- slot 0 owns no word
  pub past_slot : (partners met : List ℕ) (j a b : ℕ) → a ≡ z.free + 3 * j →
      b ≡ z.free + 3 * j + 1 → AreMetTo w places partners met a → AreMetTo w places partners met b
  past_slot partners met j a b e f h N reached s =
      wider_met w places numbers left_are N reached s partners met a b (omega (arith, e, f))
      (h N reached s) (λ c d m le lt i o. owner_no_slot w places numbers left_are N reached s c
      d m j i o (omega (arith, le, lt, e, f)))

  pub met_at : (partners met : List ℕ) (a b : ℕ) → a ≡ b → AreMetTo w places partners met a →
      AreMetTo w places partners met b
  met_at partners met a b e h = subst (λ n. AreMetTo w places partners met n) e h

  pub met_first : (partners met : List ℕ) → ((u : ℕ) → slice_index met u ≡ 0) → AreMetTo w places partners met 0
  met_first partners met empty N reached s = none_met w places numbers left_are N reached s partners met empty

pub keeps_all : (xs ys zs : List ℕ) → KeepsPartners xs ys → KeepsPartners ys zs → KeepsPartners xs zs
keeps_all xs ys zs f g a h = g a (f a h)

pub celled_kept : (w : ClosedTable) (places partners partners' : List ℕ) (n : ℕ) →
    AreCelledTo w places partners n → KeepsPartners partners partners' →
    length partners' ≡ length partners → AreCelledTo w places partners' n
celled_kept w places partners partners' n h k e N reached s c r a lt lta f q i = k a
    (h N reached s c r a lt (omega (arith, lta, e)) f q i)

pub place_read : (places : List ℕ) (j v : ℕ) → j < length places → v ≡ get_or places j v → v ≡ slice_index places j
place_read places j v lt e = e ∙ get_or_default places j v 0 lt

take_none : (n : ℕ) → take {A = ℕ} n [] ≡ []
take_none zero = refl
take_none (suc n) = refl

pub filled_zeros : (items xs : List ℕ) (n m : ℕ) → xs ≡ [] → items ≡ take n xs ++ replicate m 0 →
    (u : ℕ) → slice_index items u ≡ 0
filled_zeros items xs n m e h u = ap (λ ys. slice_index ys u)
    (h ∙ ap (λ xs. take n xs ++ replicate m 0) e ∙ ap (λ ys. ys ++ replicate m 0) (take_none n)) ∙ empty_at m u
