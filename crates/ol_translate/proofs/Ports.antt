-- A port of the whole net stands in one link, and no other port does.
use Rattle.std.proofs.Common.{◌≡◌, ◌≢◌, ℕ, zero, suc, ◌<◌, ◌≤◌, ◌+◌, List, [], ◌∷◌, true, false, Bool, nat_eq, nat_lt}
use Rattle.std.proofs.Common.{refl, ap, arith, ne_eqb, eq-eqb, if◌then◌else◌, zero-add}
use Rattle.std.proofs.lemmas.Bool.Decides.{nat_tests}
use Rattle.ol_term.specs.declared.translations.Translation.{Translation}
use Rattle.ol_term.specs.Trees.{Tree}
use Rattle.ol_net.specs.declared.parts.Kind.{Kind}
use Rattle.ol_net.specs.declared.parts.Kind.TheVariants as kind
use Rattle.ol_net.specs.declared.parts.Port.{Port}
use Rattle.ol_net.specs.declared.parts.Port.TheVariants.{Free, Of}
use Rattle.ol_net.specs.Parts.{slots_of}
use Rattle.ol_net.specs.Graph.{kind_at, has_slot, has_port}
use Rattle.ol_net.specs.Numbered.{all_live}
use Rattle.ol_translate.specs.Translation.{slot_port, subnet_of, nodes_of, links_of}
use Rattle.ol_translate.specs.Names.{HasNames}
use Rattle.ol_translate.proofs.Counts.{hit, uses, free_ends, node_slots, slots, times}
use Rattle.ol_translate.proofs.Joints.{few_wires, none_past, name_has_wire, whole_balance}

abbrev pub bit : Bool → ℕ
bit b = if b then 1 else 0

-- ---- the slots of nodes

other_slot : (k s l t : ℕ) → k ≢ l → hit (slot_port k s) (slot_port l t) ≡ 0
unfolding hit
other_slot k s l t e = let other : nat_eq k l ≡ false = ne_eqb k l e in rw other refl

own_slot : (k s t : ℕ) → hit (slot_port k s) (slot_port k t) ≡ bit (nat_eq s t)
unfolding hit
own_slot k s t = let same : nat_eq k k ≡ true = eq-eqb k k refl in rw same refl

no_slot : (m k s : ℕ) → hit (Free m) (slot_port k s) ≡ 0
unfolding hit
no_slot m k s = refl

one : (s : ℕ) → bit (nat_eq s 0) ≡ bit (nat_lt s 1)
one s = grind (arith, nat_tests)

two : (s : ℕ) → bit (nat_eq s 0) + bit (nat_eq s 1) ≡ bit (nat_lt s 2)
two s = grind (arith, nat_tests)

three : (s : ℕ) → bit (nat_eq s 0) + bit (nat_eq s 1) + bit (nat_eq s 2) ≡ bit (nat_lt s 3)
three s = grind (arith, nat_tests)

own_slots : (k s : ℕ) (K : Kind) → node_slots (slot_port k s) k K ≡ bit (nat_lt s (slots_of K))
own_slots k s kind.Lam = rw (own_slot k s 0, own_slot k s 1, own_slot k s 2) (three s)
own_slots k s kind.App = rw (own_slot k s 0, own_slot k s 1, own_slot k s 2) (three s)
own_slots k s kind.Fan = rw (own_slot k s 0, own_slot k s 1, own_slot k s 2) (three s)
own_slots k s kind.Croissant = rw (own_slot k s 0, own_slot k s 1) (two s)
own_slots k s kind.Bracket = rw (own_slot k s 0, own_slot k s 1) (two s)
own_slots k s kind.Eraser = rw (own_slot k s 0) (one s)

other_slots : (k s l : ℕ) (K : Kind) → k ≢ l → node_slots (slot_port k s) l K ≡ 0
other_slots k s l kind.Lam e = omega (arith, other_slot k s l 0 e, other_slot k s l 1 e, other_slot k s l 2 e)
other_slots k s l kind.App e = omega (arith, other_slot k s l 0 e, other_slot k s l 1 e, other_slot k s l 2 e)
other_slots k s l kind.Fan e = omega (arith, other_slot k s l 0 e, other_slot k s l 1 e, other_slot k s l 2 e)
other_slots k s l kind.Croissant e = omega (arith, other_slot k s l 0 e, other_slot k s l 1 e)
other_slots k s l kind.Bracket e = omega (arith, other_slot k s l 0 e, other_slot k s l 1 e)
other_slots k s l kind.Eraser e = other_slot k s l 0 e

no_slots : (m l : ℕ) (K : Kind) → node_slots (Free m) l K ≡ 0
no_slots m l kind.Lam = omega (arith, no_slot m l 0, no_slot m l 1, no_slot m l 2)
no_slots m l kind.App = omega (arith, no_slot m l 0, no_slot m l 1, no_slot m l 2)
no_slots m l kind.Fan = omega (arith, no_slot m l 0, no_slot m l 1, no_slot m l 2)
no_slots m l kind.Croissant = omega (arith, no_slot m l 0, no_slot m l 1)
no_slots m l kind.Bracket = omega (arith, no_slot m l 0, no_slot m l 1)
no_slots m l kind.Eraser = no_slot m l 0

slots_before : (k s j : ℕ) (nodes : List (Kind × ℕ)) → k < j → slots (slot_port k s) j nodes ≡ 0
slots_before k s j [] h = refl
slots_before k s j (K ∷ nodes) h =
    let apart : k ≢ j = λ e. omega arith in
    omega (arith, other_slots k s j K.0 apart, slots_before k s (j + 1) nodes (omega arith))

-- k is i places after j
slots_at : (k s j i : ℕ) (nodes : List (Kind × ℕ)) → k ≡ j + i →
    slots (slot_port k s) j nodes ≡ bit (has_slot (kind_at (all_live nodes) i) s)
slots_at k s j i [] e = refl
slots_at k s j zero (K ∷ nodes) e =
    let same : j ≡ k = omega arith in
    let here : node_slots (slot_port k s) j K.0 ≡ bit (nat_lt s (slots_of K.0)) = rw same (own_slots k s K.0) in
    omega (arith, here, slots_before k s (j + 1) nodes (omega arith))
slots_at k s j (suc i) (K ∷ nodes) e =
    let apart : k ≢ j = λ same. omega arith in
    omega (arith, other_slots k s j K.0 apart, slots_at k s (j + 1) i nodes (omega arith))

free_slots : (m j : ℕ) (nodes : List (Kind × ℕ)) → slots (Free m) j nodes ≡ 0
free_slots m j [] = refl
free_slots m j (K ∷ nodes) = omega (arith, no_slots m j K.0, free_slots m (j + 1) nodes)

-- ---- the free ports

no_free_ends : (k s : ℕ) (wires : List (ℕ × Port)) → free_ends (slot_port k s) wires ≡ 0
unfolding hit
no_free_ends k s [] = refl
no_free_ends k s (w ∷ wires) = rw zero-add (no_free_ends k s wires)

root_free_ends : (wires : List (ℕ × Port)) → free_ends (Free 0) wires ≡ 0
unfolding hit
root_free_ends [] = refl
root_free_ends (w ∷ wires) = let other : nat_eq 0 (w.0 + 1) ≡ false = ne_eqb 0 (w.0 + 1)
    (λ e. omega arith) in rw (other, zero-add) (root_free_ends wires)

name_free_ends : (f : ℕ) (wires : List (ℕ × Port)) → free_ends (Free (f + 1)) wires ≡ times f wires
unfolding hit
name_free_ends f [] = refl
name_free_ends f (w ∷ wires) =
    let same : nat_eq (f + 1) (w.0 + 1) ≡ nat_eq w.0 f = grind (arith, nat_tests) in
    rw same (ap (λ n. (if nat_eq w.0 f then 1 else 0) + n) (name_free_ends f wires))

-- ---- the whole term

name_wires : (w : Translation) (t : Tree) (names f : ℕ) → HasNames t names →
    times f (subnet_of w t 0 0 0).wires ≡ bit (nat_lt f names)
name_wires w t names f h =
    elim (nat_lt f names) as (λ b. nat_lt f names ≡ b → times f (subnet_of w t 0 0 0).wires ≡ bit b) [
      | true ↦ (λ u. let low : f < names = grind (arith, nat_tests, u) in
          let some : 1 ≤ times f (subnet_of w t 0 0 0).wires = rw zero-add at
          (name_has_wire w f t 0 0 0 (h.each f low)) in
          omega (arith, some, few_wires w f t 0 0 0))
      | false ↦ (λ u. let high : names ≤ f = grind (arith, nat_tests, u) in
          none_past w f names t 0 0 0 h.bound h.named (omega arith))
    ] refl

-- each port stands in one link
pub each_port_once : (w : Translation) (t : Tree) (names : ℕ) → HasNames t names → (p : Port) →
    uses p (links_of w t) ≡ bit (has_port (1 + names) (all_live (nodes_of w t)) p)
unfolding hit
each_port_once w t names h (Of n s) =
    omega (
      arith,
      whole_balance w (Of n s) t,
      slots_at n.0 s 0 n.0 (nodes_of w t) (omega arith),
      no_free_ends n.0 s (subnet_of w t 0 0 0).wires,
    )
each_port_once w t names h (Free zero) =
    let there : nat_lt 0 (1 + names) ≡ true = grind (arith, nat_tests) in
    rw there (omega (
      arith,
      whole_balance w (Free 0) t,
      free_slots 0 0 (nodes_of w t),
      root_free_ends (subnet_of w t 0 0 0).wires,
    ))
each_port_once w t names h (Free (suc f)) =
    let next : suc f ≡ f + 1 = omega arith in
    let same : nat_lt (f + 1) (1 + names) ≡ nat_lt f names = grind (arith, nat_tests) in
    let other : nat_eq (f + 1) 0 ≡ false = ne_eqb (f + 1) 0 (λ e. omega arith) in
    let not_root : hit (Free (f + 1)) (Free 0) ≡ 0 = rw other refl in
    rw (next, same) (omega (
      arith,
      whole_balance w (Free (f + 1)) t,
      free_slots (f + 1) 0 (nodes_of w t),
      name_free_ends f (subnet_of w t 0 0 0).wires,
      name_wires w t names f h,
      not_root,
    ))
