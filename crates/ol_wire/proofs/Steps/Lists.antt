-- Sums over views and words of which one changes.
-- Used in Credit, LinkSteps and Steps.
use Rattle.std.proofs.Common.{◌≡◌, ◌≢◌, ℕ, zero, suc, ◌+◌, ◌<◌, ◌≤◌, ◌⊎◌, Bool, List, [], ◌∷◌, ◌++◌, length, get_or}
use Rattle.std.proofs.Common.{set, sym, refl, ap, ◌∙◌, subst, inl, inr, arith, get_or-set_other, get_or-set_same}
use Rattle.std.proofs.lemmas.Bool.{cases_eq}
use mathlib.Core.Option.{some, some-injective, some-ne-none}
use lib.ListN.{get_elem?}
use Rattle.atomic_table.proofs.Lists.{at_set, at_snoc}
use Rattle.ol_net.specs.Nets.{NamedNet}
use Rattle.ol_rules.specs.declared.journal.NodeName.{NodeName}
use Rattle.ol_wire.specs.declared.layout.Parts.{Parts}
use Rattle.ol_wire.specs.declared.view.View.{View}
use Rattle.ol_wire.specs.Weights.{total, weigh}
use Rattle.ol_wire.specs.Layout.{part_of_word}
use Rattle.ol_wire.specs.Edges.{edge_in, edges_in, links_in, pending_in}
use Rattle.ol_wire.proofs.InWords.Alike.{total_append}

module _ {A : Type 0} (g : A → ℕ) where
  pub total_set : (l : List A) (j : ℕ) (v w : A) → get_elem? l j ≡ some v → total g (set l j w) + g v ≡ total g l + g w
  total_set [] j v w e = absurd (some-ne-none v (sym e))
  total_set (x ∷ xs) zero v w e = omega (arith, ap g (some-injective x v e))
  total_set (x ∷ xs) (suc j) v w e = omega (arith, total_set xs j v w e)

  pub one_below : (l : List A) (j : ℕ) (v : A) → get_elem? l j ≡ some v → g v ≤ total g l
  one_below [] j v e = absurd (some-ne-none v (sym e))
  one_below (x ∷ xs) zero v e = omega (arith, ap g (some-injective x v e))
  one_below (x ∷ xs) (suc j) v e = omega (arith, one_below xs j v e)

  -- one changes, and a new one comes
  pub total_cut : (l : List A) (j : ℕ) (v w u : A) → get_elem? l j ≡ some v → g w + g u ≡ g v →
      total g (set l j w ++ u ∷ []) ≡ total g l
  total_cut l j v w u here e = omega (arith, e, total_append g (set l j w) (u ∷ []), total_set l j v w here)

module _ {A : Type 0} (P : A → Type 0) (l : List A) (id : ℕ) (w : A) (new : P w)
    (old : (j : ℕ) (u : A) → get_elem? l j ≡ some u → P u) where
  placed : (j : ℕ) (u : A) → ((j ≡ id) × (w ≡ u)) ⊎ ((j ≢ id) × (get_elem? l j ≡ some u)) → P u
  placed j u (inl t) = subst P t.1 new
  placed j u (inr t) = old j u t.1

  -- what holds of the new one and of the others holds of each
  pub each_set : (j : ℕ) (u : A) → get_elem? (set l id w) j ≡ some u → P u
  each_set j u e = placed j u (at_set l id j w u e)

pub each_cut : {A : Type 0} (P : A → Type 0) (l : List A) (id : ℕ) (w u : A) → P w → P u →
    ((j : ℕ) (x : A) → get_elem? l j ≡ some x → P x) → (j : ℕ) (x : A) →
    get_elem? (set l id w ++ u ∷ []) j ≡ some x → P x
each_cut P l id w u pw pu old j x e = last (at_snoc (set l id w) u x j e)
  where
    last : (get_elem? (set l id w) j ≡ some x) ⊎ (u ≡ x) → P x
    last (inl t) = each_set P l id w pw old j x t
    last (inr t) = subst P t pu

module _ (h : ℕ → ℕ → ℕ) where
  -- a word outside is set
  pub weigh_out : (ws : List ℕ) (n i x : ℕ) → n ≤ i → weigh h (set ws i x) n ≡ weigh h ws n
  weigh_out ws zero i x o = refl
  weigh_out ws (suc n) i x o = omega (
    arith,
    weigh_out ws n i x (omega arith),
    ap (h n) (get_or-set_other ws i n x 0 (λ e. omega arith)),
  )

  -- one of the words is set
  pub weigh_set : (ws : List ℕ) (n i x : ℕ) → i < n → n ≤ length ws →
      weigh h (set ws i x) n + h i (get_or ws i 0) ≡ weigh h ws n + h i x
  weigh_set ws zero i x lt wide = absurd (omega arith)
  weigh_set ws (suc n) i x lt wide = elim (cases_eq i n) [
    | inl e ↦
        let same : get_or (set ws i x) n 0 ≡ x = ap (λ (j : ℕ). get_or (set ws j x) n 0) e
        ∙ get_or-set_same ws n x 0 (omega arith) in
        omega (
          arith,
          weigh_out ws n i x (omega arith),
          ap (h n) same,
          ap (λ (j : ℕ). h j x) e,
          ap (λ (j : ℕ). h j (get_or ws j 0)) e,
        )
    | inr ne ↦ omega (
      arith,
      weigh_set ws n i x (omega arith) (omega arith),
      ap (h n) (get_or-set_other ws i n x 0 (λ e. ne (sym e))),
    )
  ]

module _ (z : Parts) (net : NamedNet NodeName) (r s : ℕ → Bool) (ws vs : List ℕ)
    (reached : (u : ℕ) → r u ≡ s u) (words : (u : ℕ) → 1 < u → get_or ws u 0 ≡ get_or vs u 0) where
  one_same : (n : ℕ) → 1 < n → edge_in net (r n) (part_of_word z n) n (get_or ws n 0)
      (get_or ws (suc n) 0) ≡ edge_in net (s n) (part_of_word z n) n (get_or vs n 0) (get_or vs (suc n) 0)
  one_same n lt = ap (λ b. edge_in net b (part_of_word z n) n (get_or ws n 0) (get_or ws (suc n) 0))
      (reached n) ∙ ap (λ y. edge_in net (s n) (part_of_word z n) n y (get_or ws (suc n) 0))
      (words n lt) ∙ ap (edge_in net (s n) (part_of_word z n) n (get_or vs n 0)) (words (suc n) (omega (arith, lt)))

  -- the ticket word and the live word have no edge
  pub edges_same : (n : ℕ) → edges_in z net r ws n ≡ edges_in z net s vs n
  edges_same zero = refl
  edges_same (suc zero) = refl
  edges_same (suc (suc zero)) = refl
  edges_same (suc (suc (suc n))) = ap (λ es.
      es ++ edge_in net (r (suc (suc n))) (part_of_word z (suc (suc n))) (suc (suc n))
      (get_or ws (suc (suc n)) 0) (get_or ws (suc (suc (suc n))) 0)) (edges_same (suc (suc n)))
      ∙ ap (λ es. edges_in z net s vs (suc (suc n)) ++ es) (one_same (suc (suc n)) (omega arith))

pub pending_set : (l : List View) (j : ℕ) (v w : View) → get_elem? l j ≡ some v →
    w.pending ≡ v.pending → pending_in (set l j w) ≡ pending_in l
pending_set [] j v w e q = absurd (some-ne-none v (sym e))
pending_set (x ∷ xs) zero v w e q = ap (λ ls. links_in ls ++ pending_in xs)
    (q ∙ ap (λ (u : View). u.pending) (sym (some-injective x v e)))
pending_set (x ∷ xs) (suc j) v w e q = ap (λ es. links_in x.pending ++ es) (pending_set xs j v w e q)

-- a view with no link comes
pub pending_more : (l : List View) (u : View) → u.pending ≡ [] → pending_in (l ++ u ∷ []) ≡ pending_in l
pending_more [] u e = ap (λ ls. links_in ls ++ []) e
pending_more (x ∷ xs) u e = ap (λ es. links_in x.pending ++ es) (pending_more xs u e)
