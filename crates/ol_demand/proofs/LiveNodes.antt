-- The nodes of a graph, each once.
use Rattle.std.proofs.Common.{◌≡◌, ℕ, suc, ◌≤◌, inl, inr, List, [], ◌∷◌, Option, Some, None, ap, arith}
use Rattle.ol_law_edges.specs.Edges.{IsIn}
use Rattle.ol_net.specs.declared.parts.Kind.{Kind}
use Rattle.ol_net.specs.Graph.{Graph}
use Rattle.ol_net.specs.Nets.{NamedNet, SameNet}
use Rattle.ol_net.specs.Numbered.{nodes_from, net_of}
use Rattle.ol_context.specs.Short.{live, IsOnce}
use Rattle.ol_context.proofs.Short.{few}

below_first : (n x : ℕ) (k : Kind) (i : ℕ) (nodes : List (Option (Kind × ℕ))) →
    IsIn (x, k, i) (nodes_from n nodes) → n ≤ x
below_first n x k i [] h = absurd h
below_first n x k i (None ∷ nodes) h = let b = below_first (suc n) x k i nodes h in omega arith
below_first n x k i (Some f ∷ nodes) (inl e) = let z = ap (λ (d : ℕ × Kind × ℕ). d.0) e in
    let z' : x ≡ n = z in omega arith
below_first n x k i (Some f ∷ nodes) (inr h) = let b = below_first (suc n) x k i nodes h in omega arith

once_from : (n : ℕ) (nodes : List (Option (Kind × ℕ))) → IsOnce (nodes_from n nodes)
once_from n [] = tt
once_from n (None ∷ nodes) = once_from (suc n) nodes
once_from n (Some f ∷ nodes) = (
  λ h. let b = below_first (suc n) n f.0 f.1 nodes h in
      absurd (omega arith),
  once_from (suc n) nodes,
)

pub once : (g : Graph) → IsOnce (net_of g).nodes
once g = once_from 0 g.nodes

pub live_same : {A : Type 0} (M N : NamedNet A) → SameNet M N → IsOnce M.nodes → IsOnce N.nodes → live M ≡ live N
live_same M N s o o' =
    let a = few M.nodes N.nodes o (λ x h. (s.nodes x.0 x.1 x.2).0 h) in
    let b = few N.nodes M.nodes o' (λ x h. (s.nodes x.0 x.1 x.2).1 h) in
    omega arith
