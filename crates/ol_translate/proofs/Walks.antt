-- What is laid down so far, and what is left.
use Rattle.std.proofs.Common.{◌≡◌, ℕ, zero, suc, ◌<◌, ◌≤◌, ◌+◌, List, [], ◌∷◌, ◌++◌, length, drop, take, get_or, set}
use Rattle.std.proofs.Common.{true, false, nat_eq, Some, refl, ap, arith, subst, length-append, length-drop, drop-cons}
use Rattle.std.proofs.lemmas.List.{length-map}
use Rattle.ol_net.specs.declared.parts.Kind.{Kind}
use Rattle.ol_net.specs.declared.parts.Kind.TheVariants as kind
use Rattle.ol_net.specs.declared.parts.Port.{Port}
use Rattle.ol_translate.specs.Translation.{bracket_nodes, fans, fan_nodes, wire_of, reconnected}

pub length-bracket_nodes : (n : ℕ) (wires : List (ℕ × Port)) → length (bracket_nodes n wires) ≡ length wires
length-bracket_nodes n wires = length-map wires (λ (w : ℕ × Port). (kind.Bracket, n))

-- a wire that is left lays a bracket
pub brackets_left : (nodes nodes0 : List (Kind × ℕ)) (n i : ℕ) (wires : List (ℕ × Port)) → i < length wires
    → nodes ++ bracket_nodes n (drop i wires) ≡ nodes0 ++ bracket_nodes n wires
    → length nodes < length nodes0 + length (bracket_nodes n wires)
brackets_left nodes nodes0 n i wires h e =
    omega (
      arith,
      ap length e,
      length-append nodes (bracket_nodes n (drop i wires)),
      length-append nodes0 (bracket_nodes n wires),
      length-bracket_nodes n (drop i wires),
      length-drop i wires,
    )

-- ---- the place of a wire

pub wire_of-passed : (v : ℕ) (wires : List (ℕ × Port)) (i : ℕ) (d : ℕ × Port) → i < length wires →
    nat_eq (get_or wires i d).0 v ≡ false
    → wire_of v (drop i wires) ≡ wire_of v (drop (suc i) wires)
wire_of-passed v [] i d h e = absurd (omega arith)
wire_of-passed v (w ∷ wires) zero d h e = rw e refl
wire_of-passed v (w ∷ wires) (suc i) d h e = wire_of-passed v wires i d (omega arith) e

pub rewired-passed : (v : ℕ) (p : Port) (wires : List (ℕ × Port)) (i : ℕ) (d : ℕ × Port) →
    i < length wires → nat_eq (get_or wires i d).0 v ≡ false
    → take i wires ++ reconnected v p (drop i wires) ≡ take (suc i) wires ++ reconnected v p (drop (suc i) wires)
rewired-passed v p [] i d h e = absurd (omega arith)
rewired-passed v p (w ∷ wires) zero d h e = rw e refl
rewired-passed v p (w ∷ wires) (suc i) d h e = ap (λ l. w ∷ l) (rewired-passed v p wires i d (omega arith) e)

pub wire_of-found : (v : ℕ) (wires : List (ℕ × Port)) (i : ℕ) (d w' : ℕ × Port) → i < length wires →
    nat_eq (get_or wires i d).0 v ≡ true
    → wire_of v (drop i wires) ≡ Some (get_or wires i w').1
wire_of-found v [] i d w' h e = absurd (omega arith)
wire_of-found v (w ∷ wires) zero d w' h e = rw e refl
wire_of-found v (w ∷ wires) (suc i) d w' h e = wire_of-found v wires i d w' (omega arith) e

pub rewired-found : (v : ℕ) (p : Port) (wires : List (ℕ × Port)) (i : ℕ) (d : ℕ × Port) →
    i < length wires → nat_eq (get_or wires i d).0 v ≡ true
    → take i wires ++ reconnected v p (drop i wires) ≡ set wires i ((get_or wires i d).0, p)
rewired-found v p [] i d h e = absurd (omega arith)
rewired-found v p (w ∷ wires) zero d h e = rw e refl
rewired-found v p (w ∷ wires) (suc i) d h e = ap (λ l. w ∷ l) (rewired-found v p wires i d (omega arith) e)

-- ---- the fans

pub fan_left : (nodes nodes0 : List (Kind × ℕ)) (n i f0 : ℕ) (wires wires0 more : List (ℕ × Port))
    (d : ℕ × Port) → i < length more
    → nodes ++ (fans n (length nodes) wires (drop i more)).nodes ≡ nodes0 ++ (fans n f0 wires0 more).nodes
    → length nodes + length (fan_nodes n
    (wire_of (get_or more i d).0 wires)) ≤ length nodes0 + length (fans n f0 wires0 more).nodes
fan_left nodes nodes0 n i f0 wires wires0 more d h e =
    let first : drop i more ≡ get_or more i d ∷ drop (suc i) more = drop-cons more i d h in
    let e2 : nodes ++ (fans n (length nodes) wires
    (get_or more i d ∷ drop (suc i) more)).nodes ≡ nodes0 ++ (fans n f0 wires0 more).nodes =
    subst (λ l. nodes ++ (fans n (length nodes) wires l).nodes ≡ nodes0 ++ (fans n f0 wires0 more).nodes) first e in
    omega (arith, simp length-append at (ap length e2))
