-- Where the net has no active pair the live word is what seats with tickets owe.
-- Used in `nothing_is_owed`.
use Rattle.std.proofs.Common.{◌≡◌, ◌≢◌, ℕ, zero, suc, ◌<◌, ◌⊎◌, Option, Some, None, List, [], ◌∷◌}
use Rattle.std.proofs.Common.{length, get_or, refl, sym, ap, ◌∙◌, arith, inl, inr}
use Rattle.std.proofs.lemmas.Bool.{cases_eq}
use mathlib.Core.Option.{some}
use lib.ListN.{get_elem?}
use Rattle.ol_law_edges.specs.Edges.{IsIn}
use Rattle.ol_net.specs.declared.parts.Rule.{Rule}
use Rattle.ol_net.specs.Nets.{slot}
use Rattle.ol_net.specs.Pairs.{IsComplete, HasActive}
use Rattle.ol_wire.specs.declared.plan.Plan.{Plan}
use Rattle.ol_wire.specs.declared.view.View.{View}
use Rattle.ol_wire.specs.Weights.{total, sum_below}
use Rattle.ol_wire.specs.Layout.{left, part_of_word, left_word, cells_of}
use Rattle.ol_wire.specs.Events.{rule_between}
use Rattle.ol_wire.specs.Credit.{ruled, active_in, active_at, active_cells, active_claims, Credited}
use Rattle.ol_wire.specs.Rule.{Table, Kept, IsView}
use Rattle.ol_wire.specs.Still.{NothingIsOwed}
use Rattle.ol_wire.proofs.InWords.Places.{part_cell, is_left}
use Rattle.ol_wire.proofs.InWords.Held.{word_full}
use Rattle.ol_wire.proofs.InWords.Claimed.{IsCellPair, cell_pair, right_written}
use Rattle.ol_wire.proofs.Steps.Pair.{full_of_claimed, fits_pair, turned}
use Rattle.ol_wire.proofs.Credit.Sums.{active_empty, active_some}

sum_none : (n : ℕ) (f : ℕ → ℕ) → ((c : ℕ) → c < n → f c ≡ 0) → sum_below n f ≡ 0
sum_none zero f h = refl
sum_none (suc n) f h = omega (arith, sum_none n f (λ c lt. h c (omega (arith, lt))), h n (omega arith))

total_nothing : {A : Type 0} (f : A → ℕ) (xs : List A) → ((x : A) → IsIn x xs → f x ≡ 0) → total f xs ≡ 0
total_nothing f [] h = refl
total_nothing f (x ∷ xs) h = omega (arith, h x (inl refl), total_nothing f xs (λ y m. h y (inr m)))

total_zero : {A : Type 0} (f : A → ℕ) (xs : List A) →
    ((j : ℕ) (x : A) → get_elem? xs j ≡ some x → f x ≡ 0) → total f xs ≡ 0
total_zero f [] h = refl
total_zero f (x ∷ xs) h = omega (arith, h 0 x refl, total_zero f xs (λ j y e. h (suc j) y e))

module _ (p : Plan) (s : Table) (k : Kept p s) (c : Credited p s) (done : IsComplete k.net) where
  none_left : HasActive k.net → ⊥
  none_left h = done h.0 h.1 h.2 h.3

  -- the pair that a cell is to hold isn't active
  cell_rests : (w : ℕ) → part_of_word p.parts w ≡ left → get_or k.full w 0 ≢ 0 →
      active_in (get_or k.full w 0) (get_or k.full (suc w) 0) ≡ 0
  cell_rests w is some_pair = active_some l r some_pair ∙ none (rule_between l r) (rule_between r l) refl refl
    where
      l : ℕ
      l = get_or k.full w 0

      r : ℕ
      r = get_or k.full (suc w) 0

      pair : IsCellPair p s k w
      pair = cell_pair p s k w is some_pair

      none : (a b : Option Rule) → rule_between l r ≡ a → rule_between r l ≡ b →
          ruled (rule_between l r) (rule_between r l) ≡ 0
      none None None e f = ap (λ (x : Option Rule). ruled x (rule_between r l)) e
          ∙ ap (λ (x : Option Rule). ruled None x) f
      none (Some x) b e f = absurd (none_left (fits_pair p s k l r pair.f pair.g x pair.linked e))
      none None (Some x) e f = absurd (none_left
          (fits_pair p s k r l pair.g pair.f x (turned p s k (slot pair.f.x 0) (slot pair.g.x 0) pair.linked) f))

  -- nor is the one that stands there, or that a view has claimed there
  word_rests : (w : ℕ) → part_of_word p.parts w ≡ left → active_at s.words w ≡ 0
  word_rests w is = elim (cases_eq (get_or s.words w 0) 0) [
    | inl e ↦ active_empty (get_or s.words w 0) (get_or s.words (suc w) 0) e
    | inr d ↦
        let e : get_or k.full w 0 ≡ get_or s.words w 0 = word_full p s k w
        (omega (arith, (is_left p.parts w is).1)) d in
        let some_pair : get_or k.full w 0 ≢ 0 = λ q. d (sym e ∙ q) in
        ap (λ (n : ℕ). active_in n (get_or s.words (suc w) 0)) (sym e)
        ∙ ap (active_in (get_or k.full w 0)) (right_written p s k w is some_pair) ∙ cell_rests w is some_pair
  ]

  claim_rests : (v : View) → IsView s v → active_claims s.words v ≡ 0
  claim_rests v is = total_nothing (λ (x : ℕ × ℕ). active_in x.1 (get_or s.words (suc x.0) 0)) v.taken (λ x m.
      let h = full_of_claimed p s k v x.0 x.1 is m in
      ap (λ (n : ℕ). active_in n (get_or s.words (suc x.0) 0)) (sym h.1)
      ∙ ap (active_in (get_or k.full x.0 0)) (right_written p s k x.0 h.0 h.2) ∙ cell_rests x.0 h.0 h.2)

  cells_rest : active_cells p.parts s.words ≡ 0
  cells_rest = sum_none (cells_of p.parts) (λ a. active_at s.words (left_word p.parts a))
      (λ a lt. word_rests (left_word p.parts a) (part_cell p.parts a lt).0)

  owed_rests : ((v : View) → IsView s v → (v.made ≡ []) ⊎ (v.owed ≡ 0)) → (v : View) → IsView s v → v.owed ≡ 0
  owed_rests paid v is = of (paid v is)
    where
      of : (v.made ≡ []) ⊎ (v.owed ≡ 0) → v.owed ≡ 0
      of (inl e) = omega (arith, c.owes v is, claim_rests v is, ap length e)
      of (inr e) = e

pub nothing_owed : NothingIsOwed
nothing_owed p s k c done paid = omega (
  arith,
  c.live,
  cells_rest p s k c done,
  total_zero (active_claims s.words) s.views (λ j v e. claim_rests p s k c done v (j, e)),
  total_zero (λ (v : View). v.owed) s.views (λ j v e. owed_rests p s k c done paid v (j, e)),
)
