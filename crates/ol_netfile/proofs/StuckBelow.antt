-- The stuck pairs whose smaller numbers are below a number.
use Rattle.std.proofs.Common.{◌≡◌, ℕ, zero, suc, map, ◌+◌, ◌<◌, ◌≤◌, ◌↔◌, ◌⊎◌, List, [], ◌∷◌, ◌++◌, length, Option}
use Rattle.std.proofs.Common.{Some, None, MatchOption, inl, inr, refl, sym, ap, ◌∙◌, subst, arith}
use Rattle.std.specs.List.{flat_map}
use Rattle.ol_law_edges.specs.Edges.{IsIn}
use Rattle.ol_law_edges.proofs.Lists.{in_left, in_right, in_cases}
use Rattle.ol_net.specs.declared.parts.NodeId.{NodeId}
use Rattle.ol_net.specs.declared.parts.Port.TheVariants.{Of}
use Rattle.ol_net.specs.Graph.{Graph}
use Rattle.ol_net.specs.Nets.{NamedNet, IsNet, slot}
use Rattle.ol_net.specs.Numbered.{net_of, PortsLinked}
use Rattle.ol_net.specs.Pairs.{IsStuck, IsInStuck}
use Rattle.ol_net.proofs.Numbered.{has_node}
use Rattle.ol_net.proofs.Places.{kind_at-inside}
use Rattle.std.specs.List.Sorted.{IsStrictlyIncreasing}
use Rattle.ol_netfile.specs.StuckPairs.{pair_line, IsPairsText}
use Rattle.ol_netfile.proofs.Ordered.{pushed}

-- ---- the other node of a stuck pair

abbrev pub IsAbove : NamedNet ℕ → ℕ → Option ℕ → Type 0
IsAbove N n r = MatchOption r ((b : ℕ) → n < b → IsStuck N n b → ⊥) (λ b. (n < b) × IsStuck N n b)

-- a stuck node and the one that its principal port is linked to
only-other : (g : Graph) (n : ℕ) (q : NodeId) (s : ℕ) → IsNet (net_of g) →
    PortsLinked g (Of (record { 0 = n }) 0) (Of q s) → (b : ℕ) → IsStuck (net_of g) n b → b ≡ q.0
only-other g n q s net linked b stuck =
    let one : slot b 0 ≡ slot q.0 s = net.one_link (slot n 0) (slot b 0) (slot q.0 s) stuck.faces.linked linked in cc

pub above-is : (g : Graph) (n : ℕ) (q : NodeId) (s : ℕ) (r : Option ℕ) → IsNet (net_of g) →
    IsInStuck (net_of g) n → PortsLinked g (Of (record { 0 = n }) 0) (Of q s) →
    MatchOption r (q.0 ≤ n) (λ b. (b ≡ q.0) × (n < b)) → IsAbove (net_of g) n r
above-is g n q s None net (y, stuck) linked le = λ b lt other.
    let e = only-other g n q s net linked b other in omega (arith, e, le, lt)
above-is g n q s (Some b) net (y, stuck) linked
    (is, lt) = (lt, subst (IsStuck (net_of g) n) (only-other g n q s net linked y stuck ∙ sym is) stuck)

-- ---- the pairs so far

-- the first numbers ascend, from this one on
abbrev pub Ascend : ℕ → List (ℕ × ℕ) → Type 0
Ascend least [] = Unit {0}
Ascend least (p ∷ pairs) = (least ≤ p.0) × Ascend (suc p.0) pairs

ascends : (least : ℕ) (ps : List (ℕ × ℕ)) → Ascend least ps → IsStrictlyIncreasing (map (λ (p : ℕ × ℕ). p.0) ps)
ascends least [] h k l = absurd (omega arith)
ascends least (x ∷ []) h k l = absurd (omega arith)
ascends least (x ∷ y ∷ ps) h zero l = omega (arith, h.1.0)
ascends least (x ∷ y ∷ ps) h (suc k) l =
    let e : suc k + 1 ≡ suc (k + 1) = omega arith in
    rw e (ascends (suc x.0) (y ∷ ps) h.1 k (omega arith))

pub record Below (N : NamedNet ℕ) (n : ℕ) (text : List ℕ) : Type 0 where
  pub pairs : List (ℕ × ℕ)
  pub all : (a b : ℕ) → IsIn (a, b) pairs ↔ ((a < n) × (a < b) × IsStuck N a b)
  pub ascend : Ascend 0 pairs
  pub written : text ≡ flat_map pair_line pairs

pub none-below : (N : NamedNet ℕ) (text : List ℕ) → text ≡ [] → Below N 0 text
none-below N text e = record {
  pairs = [];
  all = λ a b. (λ h. absurd h, λ h. absurd (omega (arith, h.0)));
  ascend = tt;
  written = e;
}

pub same-below : (N : NamedNet ℕ) (n : ℕ) (text : List ℕ) → IsAbove N n None → Below N n text → Below N (n + 1) text
same-below N n text above w = record {
  pairs = w.pairs;
  all = λ a b. (
    λ h. let r = (w.all a b).0 h in (omega (arith, r.0), r.1, r.2),
    λ h. elim (which a n h.0) [
      | inl lt ↦ (w.all a b).1 (lt, h.1, h.2)
      | inr e ↦ absurd (above b (omega (arith, e, h.1)) (subst (λ a. IsStuck N a b) e h.2))
    ],
  );
  ascend = w.ascend;
  written = w.written;
}
  where
    which : (a n : ℕ) → a < n + 1 → (a < n) ⊎ (a ≡ n)
    which a n lt = grind (arith, lt)

ascend-push : (least : ℕ) (ps : List (ℕ × ℕ)) (p : ℕ × ℕ) → Ascend least ps →
    ((x : ℕ × ℕ) → IsIn x ps → x.0 < p.0) → least ≤ p.0 → Ascend least (ps ++ p ∷ [])
ascend-push least [] p h below le = (le, tt)
ascend-push least (x ∷ ps) p h below le = (
  h.0,
  ascend-push (suc x.0) ps p h.1 (λ y i. below y (inr i)) (let lt = below x (inl refl) in omega (arith, lt)),
)

pub more-below : (N : NamedNet ℕ) (n b : ℕ) (text text' : List ℕ) →
    ((c : ℕ) → IsStuck N n c → c ≡ b) → IsAbove N n (Some b) → Below N n text →
    text' ≡ text ++ pair_line (n, b) → Below N (n + 1) text'
more-below N n b text text' one above w e = record {
  pairs = w.pairs ++ (n, b) ∷ [];
  all = λ x y. (
    λ h. elim (in_cases (x, y) w.pairs ((n, b) ∷ []) h) [
      | inl old ↦ (let r = (w.all x y).0 old in (omega (arith, r.0), r.1, r.2))
      | inr new ↦ elim new [
        | inl is ↦ (let ex : x ≡ n = ap (λ (p : ℕ × ℕ). p.0) is in
            let ey : y ≡ b = ap (λ (p : ℕ × ℕ). p.1) is in (
              omega (arith, ex),
              omega (arith, ex, ey, above.0),
              subst (λ x. IsStuck N x y) (sym ex) (subst (IsStuck N n) (sym ey) above.1),
            ))
        | inr none ↦ absurd none
      ]
    ],
    λ h. elim (which x n h.0) [
      | inl lt ↦ in_left (x, y) w.pairs ((n, b) ∷ []) ((w.all x y).1 (lt, h.1, h.2))
      | inr ex ↦ (let ey : y ≡ b = one y (subst (λ x. IsStuck N x y) ex h.2) in
          in_right (x, y) w.pairs ((n, b) ∷ []) (inl (ap (λ x. (x, y)) ex ∙ ap (λ y. (n, y)) ey)))
    ],
  );
  ascend = ascend-push 0 w.pairs (n, b) w.ascend (λ x i. ((w.all x.0 x.1).0 i).0) (omega arith);
  written = e ∙ ap (λ t. t ++ pair_line (n, b)) w.written ∙ sym (pushed pair_line w.pairs (n, b));
}
  where
    which : (a n : ℕ) → a < n + 1 → (a < n) ⊎ (a ≡ n)
    which a n lt = grind (arith, lt)

-- a net has one partner for each stuck node
pub one-stuck : (g : Graph) → IsNet (net_of g) → (n b c : ℕ) → IsStuck (net_of g) n b → IsStuck (net_of g) n c → c ≡ b
one-stuck g net n b c s t = let one : slot c 0 ≡ slot b 0 = net.one_link (slot n 0) (slot c 0)
    (slot b 0) t.faces.linked s.faces.linked in cc

pub all-below : (g : Graph) (n : ℕ) (text : List ℕ) → length g.nodes ≤ n → Below (net_of g) n text →
    IsPairsText (net_of g) text
all-below g n text le w = record {
  pairs = w.pairs;
  all = λ a b. (
    λ h. let r = (w.all a b).0 h in (r.1, r.2),
    λ h.
        let s = h.1 in
        let here = kind_at-inside g.nodes a (s.k, s.i) ((has_node g a s.k s.i).0 s.faces.first) in
        (w.all a b).1 (omega (arith, here, le), h.0, h.1),
  );
  ascend = ascends 0 w.pairs w.ascend;
  written = w.written;
}
