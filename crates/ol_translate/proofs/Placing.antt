-- The index of wires by their variables.
use Rattle.std.proofs.Common.{◌≡◌, ◌≢◌, ℕ, zero, suc, ◌<◌, ◌≤◌, ◌+◌, List, [], ◌∷◌, ◌++◌, length, drop, take, get_or}
use Rattle.std.proofs.Common.{set, true, false, nat_eq, nat_lt, Option, None, Some, slice_get, refl, ap, sym, ◌∙◌}
use Rattle.std.proofs.Common.{arith, subst, length-append, eq-eqb, ne_eqb}
use Rattle.std.proofs.lemmas.Bool.Decides.{nat_tests}
use Rattle.std.proofs.lemmas.List.{get_or-set_same, get_or-set_other, length-set}
use Rattle.std.proofs.Math.ListN.{get_or-append}
use Rattle.std.proofs.Math.Seq.{get_or-append_seam}
use Rattle.ol_net.specs.declared.parts.Port.{Port}
use Rattle.ol_term.specs.declared.translations.Translation.{Translation}
use Rattle.ol_term.specs.Trees.{Tree}
use Rattle.ol_translate.specs.Translation.{Wires, wire_of, reconnected, subnet_of}
use Rattle.ol_translate.specs.Growth.{IsPlaced, HaveOneEach, IsIndex}
use Rattle.ol_translate.proofs.Counts.{times}
use Rattle.ol_translate.proofs.Joints.{few_wires}
use Rattle.ol_translate.proofs.Walks.{wire_of-passed, rewired-passed, wire_of-found, rewired-found}

-- ---- a variable that has one wire at most has it at one place

times-at : (wires : Wires) (i : ℕ) (w : ℕ × Port) → i < length wires → 1 ≤ times (get_or wires i w).0 wires
times-at [] i w h = absurd (omega arith)
times-at (u ∷ wires) zero w h = rw (eq-eqb u.0 u.0 refl) (omega arith)
times-at (u ∷ wires) (suc i) w h = omega (arith, times-at wires i w (omega arith))

times-two : (wires : Wires) (i j : ℕ) (w : ℕ × Port) → i < j → j < length wires →
    (get_or wires i w).0 ≡ (get_or wires j w).0 → 2 ≤ times (get_or wires j w).0 wires
times-two [] i j w o h e = absurd (omega arith)
times-two (u ∷ wires) i zero w o h e = absurd (omega arith)
times-two (u ∷ wires) zero (suc j) w o h e = let here = eq-eqb u.0 (get_or wires j w).0 e in
    rw here (omega (arith, times-at wires j w (omega arith)))
times-two (u ∷ wires) (suc i) (suc j) w o h e = omega (arith, times-two wires i j w (omega arith) (omega arith) e)

apart : (i j : ℕ) → (i < j → ⊥) → (j < i → ⊥) → i ≡ j
apart i j a b = elim (nat_lt i j) as (λ t. nat_lt i j ≡ t → i ≡ j) [
  | true ↦ (λ t. absurd (a (grind (arith, nat_tests, t))))
  | false ↦ (λ t. elim (nat_lt j i) as (λ u. nat_lt j i ≡ u → i ≡ j) [
    | true ↦ (λ u. absurd (b (grind (arith, nat_tests, u))))
    | false ↦ (λ u. grind (arith, nat_tests, t, u))
  ] refl)
] refl

one_each : (wires : Wires) → ((v : ℕ) → times v wires ≤ 1) → HaveOneEach wires
one_each wires few i j w hi hj e = apart i j
    (λ o. let two = times-two wires i j w o hj e in let one = few (get_or wires j w).0 in absurd (omega arith))
    (λ o. let two = times-two wires j i w o hi (sym e) in let one = few (get_or wires i w).0 in absurd (omega arith))

pub part_has_one_each : (w : Translation) (t : Tree) (d n k : ℕ) (wires : Wires) →
    wires ≡ (subnet_of w t d n k).wires → HaveOneEach wires
part_has_one_each w t d n k wires e = subst HaveOneEach (sym e)
    (one_each (subnet_of w t d n k).wires (λ v. few_wires w v t d n k))

-- ---- wires without one variable

passes : (v : ℕ) (wires : Wires) (w : ℕ × Port) (i : ℕ) → i ≤ length wires →
    ((j : ℕ) → j < i → nat_eq (get_or wires j w).0 v ≡ false)
    → wire_of v wires ≡ wire_of v (drop i wires)
passes v wires w zero h others = refl
passes v wires w (suc i) h others = passes v wires w i (omega arith) (λ j l. others j (omega arith))
    ∙ wire_of-passed v wires i w (omega arith) (others i (omega arith))

moves : (v : ℕ) (p : Port) (wires : Wires) (w : ℕ × Port) (i : ℕ) → i ≤ length wires →
    ((j : ℕ) → j < i → nat_eq (get_or wires j w).0 v ≡ false)
    → reconnected v p wires ≡ take i wires ++ reconnected v p (drop i wires)
moves v p wires w zero h others = refl
moves v p wires w (suc i) h others = moves v p wires w i (omega arith)
    (λ j l. others j (omega arith)) ∙ rewired-passed v p wires i w (omega arith) (others i (omega arith))

none_of : (v : ℕ) (wires : Wires) (w : ℕ × Port) →
    ((j : ℕ) → j < length wires → nat_eq (get_or wires j w).0 v ≡ false) → wire_of v wires ≡ None
none_of v [] w others = refl
none_of v (u ∷ wires) w others = rw (others 0 (omega arith)) (none_of v wires w (λ j l. others (suc j) (omega arith)))

index_apart : (places : List ℕ) (wires : Wires) (w : ℕ × Port) (i j : ℕ) → IsIndex places wires →
    i < length wires → j < length wires
    → (get_or wires i w).0 ≡ (get_or wires j w).0 → i ≡ j
index_apart places wires w i j h hi hj e =
    let there : slice_get places (get_or wires j w).0 ≡ Some i = subst
    (λ v. slice_get places v ≡ Some i) e (h i w hi) in
    let same : ◌≡◌ {A = Option ℕ} (Some i) (Some j) = sym there ∙ h j w hj in cc

-- the place that the index has, where a wire of the variable stands there
pub index_hit : (places : List ℕ) (wires : Wires) (d : ℕ × Port) (v i : ℕ) → IsIndex places wires →
    i < length wires → (get_or wires i d).0 ≡ v → IsPlaced v wires i
index_hit places wires d v i h low e =
    let others : (j : ℕ) → j < i → nat_eq (get_or wires j d).0 v ≡ false =
    λ j l. ne_eqb (get_or wires j d).0 v
    (λ q. let same = index_apart places wires d j i h (omega arith) low (q ∙ sym e) in absurd (omega arith)) in
    let hit = eq-eqb (get_or wires i d).0 v e in
    record {
      within = low;
      own = λ w. own_key w;
      port = λ w. passes v wires d i (omega arith) others ∙ wire_of-found v wires i d w low hit;
      changes = λ p. moves v p wires d i (omega arith) others ∙ rewired-found v p wires i d low hit
          ∙ ap (λ v. set wires i (v, p)) e;
    }
  where
    same_default : (wires : Wires) (i : ℕ) (d w : ℕ × Port) → i < length wires → get_or wires i w ≡ get_or wires i d
    same_default [] i d w l = absurd (omega arith)
    same_default (u ∷ wires) zero d w l = refl
    same_default (u ∷ wires) (suc i) d w l = same_default wires i d w (omega arith)

    own_key : (w : ℕ × Port) → (get_or wires i w).0 ≡ v
    own_key w = ap (λ (w : ℕ × Port). w.0) (same_default wires i d w low) ∙ e

-- the variable has no wire, where none of it stands at the place that the index has
pub index_miss : (places : List ℕ) (wires : Wires) (d : ℕ × Port) (v : ℕ) → IsIndex places wires
    → ((i : ℕ) → slice_get places v ≡ Some i → i < length wires → (get_or wires i d).0 ≡ v → ⊥) → wire_of v wires ≡ None
index_miss places wires d v h miss =
    none_of v wires d (λ j l. ne_eqb (get_or wires j d).0 v
    (λ q. miss j (subst (λ v. slice_get places v ≡ Some j) q (h j d l)) l q))

-- ---- the index is kept up

pub index_push : (places places' : List ℕ) (wires : Wires) (w : ℕ × Port) → IsIndex places wires →
    wire_of w.0 wires ≡ None → slice_get places' w.0 ≡ Some (length wires)
    → ((u k : ℕ) → u ≢ w.0 → slice_get places u ≡ Some k → slice_get places' u ≡ Some k) →
    IsIndex places' (wires ++ w ∷ [])
index_push places places' wires w h none noted kept i d low =
    elim (nat_lt i (length wires)) as (λ t. nat_lt i (length wires) ≡ t →
    slice_get places' (get_or (wires ++ w ∷ []) i d).0 ≡ Some i) [
      | true ↦ (λ t. let l : i < length wires = grind (arith, nat_tests, t) in
          let e : get_or (wires ++ w ∷ []) i d ≡ get_or wires i d = get_or-append wires (w ∷ []) d i l in
          let other : (get_or wires i d).0 ≢ w.0 = λ q. absent wires i d l q none in
          rw e (kept (get_or wires i d).0 i other (h i d l)))
      | false ↦ (λ t. let l : i ≡ length wires = grind (arith, nat_tests, t, length-append wires (w ∷ [])) in
          rw (l, get_or-append_seam wires w [] d) noted)
    ] refl
  where
    absent : (wires : Wires) (i : ℕ) (d : ℕ × Port) → i < length wires →
        (get_or wires i d).0 ≡ w.0 → wire_of w.0 wires ≡ None → ⊥
    absent [] i d l q n = absurd (omega arith)
    absent (u ∷ wires) zero d l q n = let hit = eq-eqb u.0 w.0 q in let found = rw hit at n in absurd (cc)
    absent (u ∷ wires) (suc i) d l q n =
        elim (nat_eq u.0 w.0) as (λ b. nat_eq u.0 w.0 ≡ b → ⊥) [
          | true ↦ (λ t. let found = rw t at n in absurd (cc))
          | false ↦ (λ t. let later = rw t at n in absent wires i d (omega arith) q later)
        ] refl

pub index_set : (places : List ℕ) (wires : Wires) (v k : ℕ) (p : Port) → IsIndex places wires →
    IsPlaced v wires k → IsIndex places (set wires k (v, p))
index_set places wires v k p h placed i d low =
    elim (nat_eq i k) as (λ t. nat_eq i k ≡ t → slice_get places (get_or (set wires k (v, p)) i d).0 ≡ Some i) [
      | true ↦ (λ t. let same : i ≡ k = grind (arith, nat_tests, t) in
          let key : slice_get places v ≡ Some k = subst (λ u. slice_get places u ≡ Some k)
          (placed.own d) (h k d placed.within) in
          rw (same, get_or-set_same wires k (v, p) d placed.within) key)
      | false ↦ (λ t. let other : i ≢ k = λ e. let hit = eq-eqb i k e in absurd (cc) in
          rw (get_or-set_other wires k i (v, p) d other) (h i d (omega (arith, low, length-set wires k (v, p)))))
    ] refl

-- one more wire is noted
pub index_more : (places places' : List ℕ) (wires : Wires) (i : ℕ) (d : ℕ × Port) → HaveOneEach wires → i < length wires
    → ((j : ℕ) (w : ℕ × Port) → j < i → slice_get places (get_or wires j w).0 ≡ Some j) →
    slice_get places' (get_or wires i d).0 ≡ Some i
    → ((u k : ℕ) → u ≢ (get_or wires i d).0 → slice_get places u ≡ Some k → slice_get places' u ≡ Some k)
    → (j : ℕ) (w : ℕ × Port) → j < i + 1 → slice_get places' (get_or wires j w).0 ≡ Some j
index_more places places' wires i d one low h noted kept j w l =
    elim (nat_lt j i) as (λ t. nat_lt j i ≡ t → slice_get places' (get_or wires j w).0 ≡ Some j) [
      | true ↦ (λ t. let l' : j < i = grind (arith, nat_tests, t) in
          let other : (get_or wires j w).0 ≢ (get_or wires i d).0 = λ q.
          let same = one j i w (omega arith) low
          (q ∙ ap (λ (w : ℕ × Port). w.0) (same_default wires i d w low)) in absurd (omega arith) in
          kept (get_or wires j w).0 j other (h j w l'))
      | false ↦ (λ t. let same : j ≡ i = grind (arith, nat_tests, t) in
          rw same (subst (λ (w : ℕ × Port). slice_get places' w.0 ≡ Some i) (same_default wires i d w low) noted))
    ] refl
  where
    same_default : (wires : Wires) (i : ℕ) (d w : ℕ × Port) → i < length wires → get_or wires i d ≡ get_or wires i w
    same_default [] i d w l = absurd (omega arith)
    same_default (u ∷ wires) zero d w l = refl
    same_default (u ∷ wires) (suc i) d w l = same_default wires i d w (omega arith)
