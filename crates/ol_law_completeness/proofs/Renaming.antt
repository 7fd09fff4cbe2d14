-- The weight of a net is that of the same net, however its lists are ordered, and under other names.
-- Used in Running.
use Rattle.std.proofs.Common.{◌≡◌, ℕ, suc, ◌+◌, ◌≤◌, inl, inr, List, [], ◌∷◌, refl, sym, ap, subst}
use Rattle.ol_law_edges.specs.Edges.{IsIn}
use Rattle.ol_net.specs.Nets.{NamedPort, slot, NamedNet, SameNet, port_under, net_under}
use Rattle.ol_rules.proofs.Renaming.{node_to, node_from, link_to}
use Rattle.ol_law_levels.specs.Unblocked.{Change}
use Rattle.ol_law_completeness.specs.Walks.{ComesDown, leaves, rises, comes}
use Rattle.ol_law_completeness.specs.Weights.{weight, weights, WeighsAtMost}

module _ {A : Type 0} (N K : NamedNet A) (same : SameNet K N) where
  down_same : {p : NamedPort A} {w : List Change} {n : ℕ} → ComesDown N p w n → ComesDown K p w n
  down_same (leaves q l) = leaves q ((same.links _ _).1 l)
  down_same (rises k i l h b r) =
      rises k i ((same.links _ _).1 l) ((same.nodes _ k i).1 h) b (down_same r)
  down_same (comes k i l h r) = comes k i ((same.links _ _).1 l) ((same.nodes _ k i).1 h)
      (λ s d b t. down_same (r s d b t))

  pub weighs_same : (m : ℕ) → WeighsAtMost N m → WeighsAtMost K m
  weighs_same m w = record {
    numbers = w.numbers;
    all = λ x k i h. (let t = w.all x k i ((same.nodes x k i).0 h) in (t.0, t.1, down_same t.2));
    sum = w.sum;
  }

module _ {A B : Type 0} (m : A → B) (N : NamedNet A) where
  down_under : {p : NamedPort A} {w : List Change} {n : ℕ} → ComesDown N p w n →
      ComesDown (net_under m N) (port_under m p) w n
  down_under {p = p} (leaves q l) = leaves q (link_to m N p _ l)
  down_under {p = p} (rises {x = x} {s = s} k i l h b r) =
      rises k i (link_to m N p (slot x (suc s)) l) (node_to m N x k i h) b (down_under r)
  down_under {p = p} (comes {x = x} k i l h r) =
      comes k i (link_to m N p (slot x 0) l) (node_to m N x k i h)
      (λ s d b t. down_under (r s d b t))

  numbers_under : List (A × ℕ) → List (B × ℕ)
  numbers_under [] = []
  numbers_under (e ∷ es) = (m e.0, e.1) ∷ numbers_under es

  in_under : (x : A) (n : ℕ) (es : List (A × ℕ)) → IsIn (x, n) es →
      IsIn (m x, n) (numbers_under es)
  unfolding numbers_under
  in_under x n [] h = absurd h
  in_under x n (e ∷ es) (inl z) = inl (ap (λ (e : A × ℕ). (m e.0, e.1)) z)
  in_under x n (e ∷ es) (inr z) = inr (in_under x n es z)

  same_sum : (es : List (A × ℕ)) → weights (numbers_under es) ≡ weights es
  unfolding numbers_under
  same_sum [] = refl
  same_sum (e ∷ es) = ap (λ s. weight e.1 + s) (same_sum es)

  pub weighs_under : (c : ℕ) → WeighsAtMost N c → WeighsAtMost (net_under m N) c
  weighs_under c w = record {
    numbers = numbers_under w.numbers;
    all = λ y k i h. (
        let t = node_from m N y k i h in
        let z = w.all t.0 k i t.1 in (
          z.0,
          subst (λ y. IsIn (y, z.0) (numbers_under w.numbers)) (sym t.2)
              (in_under t.0 z.0 w.numbers z.1),
          subst (λ y. ComesDown (net_under m N) (slot y 0) [] z.0) (sym t.2) (down_under z.2),
        )
        );
    sum = subst (λ s. s ≤ c) (sym (same_sum w.numbers)) w.sum;
  }
