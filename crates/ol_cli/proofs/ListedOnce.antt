-- Nets that list each node once.
use Rattle.std.proofs.Common.{◌≡◌, ℕ, suc, ◌≤◌, ◌⊎◌, List, [], ◌∷◌, length, map, Option, Some, None}
use Rattle.std.proofs.Common.{inl, inr, refl, sym, ap, ◌∙◌, subst, arith}
use Rattle.ol_law_edges.specs.Edges.{IsIn}
use Rattle.ol_net.specs.declared.parts.Kind.{Kind}
use Rattle.ol_net.specs.declared.parts.Port.{Port}
use Rattle.ol_net.specs.Graph.{Graph}
use Rattle.ol_net.specs.Nets.{NamedNet, HasNode, SameNet, net_under}
use Rattle.ol_cli.specs.Listing.{AreNamedOnce, ListsOnce}
use Rattle.ol_net.specs.Numbered.{nodes_from, net_of, numbered_from, net_of_parts}

-- ---- numbers

from_later : (nodes : List (Option (Kind × ℕ))) (n x : ℕ) (k : Kind) (i : ℕ) →
    IsIn (x, k, i) (nodes_from n nodes) → n ≤ x
from_later [] n x k i h = absurd h
from_later (None ∷ nodes) n x k i h = let b = from_later nodes (suc n) x k i h in omega arith
from_later (Some f ∷ nodes) n x k i (inl e) = let q : x ≡ n = ap (λ (t : ℕ × Kind × ℕ). t.0) e in omega arith
from_later (Some f ∷ nodes) n x k i (inr h) = let b = from_later nodes (suc n) x k i h in omega arith

from_once : (nodes : List (Option (Kind × ℕ))) (n : ℕ) → AreNamedOnce (nodes_from n nodes)
from_once [] n = tt
from_once (None ∷ nodes) n = from_once nodes (suc n)
from_once (Some f ∷ nodes) n = (
  (λ k i h. let b = from_later nodes (suc n) n k i h in
      absurd (omega arith)),
  from_once nodes (suc n),
)

pub net_of_once : (g : Graph) → ListsOnce (net_of g)
net_of_once g = from_once g.nodes 0

numbered_later : (nodes : List (Kind × ℕ)) (n x : ℕ) (k : Kind) (i : ℕ) → IsIn (x, k, i) (numbered_from n nodes) → n ≤ x
numbered_later [] n x k i h = absurd h
numbered_later (f ∷ nodes) n x k i (inl e) = let q : x ≡ n = ap (λ (t : ℕ × Kind × ℕ). t.0) e in omega arith
numbered_later (f ∷ nodes) n x k i (inr h) = let b = numbered_later nodes (suc n) x k i h in omega arith

numbered_once : (nodes : List (Kind × ℕ)) (n : ℕ) → AreNamedOnce (numbered_from n nodes)
numbered_once [] n = tt
numbered_once (f ∷ nodes) n = (
  (λ k i h. let b = numbered_later nodes (suc n) n k i h in
      absurd (omega arith)),
  numbered_once nodes (suc n),
)

pub net_of_parts_once : (ports : ℕ) (nodes : List (Kind × ℕ)) (links : List (Port × Port)) →
    ListsOnce (net_of_parts ports nodes links)
net_of_parts_once ports nodes links = numbered_once nodes 0

-- ---- other names

module _ {A B : Type 0} (m : A → B) where
  abbrev node_under : A × Kind × ℕ → B × Kind × ℕ
  node_under n = (m n.0, n.1, n.2)

  node_behind : (y : B) (k : Kind) (i : ℕ) (nodes : List (A × Kind × ℕ)) →
      IsIn (y, k, i) (map node_under nodes) → (n : A × Kind × ℕ) × IsIn n nodes × (y ≡ m n.0)
  node_behind y k i [] h = absurd h
  node_behind y k i (n ∷ nodes) (inl e) = (n, inl refl, ap (λ (t : B × Kind × ℕ). t.0) e)
  node_behind y k i (n ∷ nodes) (inr h) = let t = node_behind y k i nodes h in (t.0, inr t.1, t.2)

  -- no two nodes get one name
  abbrev AreApart : List (A × Kind × ℕ) → Type 0
  AreApart nodes = (x y : A) (k l : Kind) (i j : ℕ) → IsIn (x, k, i) nodes → IsIn (y, l, j) nodes → m x ≡ m y → x ≡ y

  under_once : (nodes : List (A × Kind × ℕ)) → AreApart nodes → AreNamedOnce nodes → AreNamedOnce (map node_under nodes)
  under_once [] apart h = tt
  under_once (n ∷ nodes) apart h = (first, under_once nodes (λ x y k l i j a b. apart x y k l i j (inr a) (inr b)) h.1)
    where
      first : (k : Kind) (i : ℕ) → IsIn (m n.0, k, i) (map node_under nodes) → ⊥
      first k i e =
          let t = node_behind (m n.0) k i nodes e in
          let q : n.0 ≡ t.0.0 = apart n.0 t.0.0 n.1 t.0.1 n.2 t.0.2 (inl refl) (inr t.1) t.2 in
          h.0 t.0.1 t.0.2 (subst (λ x. IsIn (x, t.0.1, t.0.2) nodes) (sym q) t.1)

  pub net_under_once : (N : NamedNet A) →
      ((x y : A) (k l : Kind) (i j : ℕ) → HasNode N x k i → HasNode N y l j → m x ≡ m y → x ≡ y) →
      ListsOnce N → ListsOnce (net_under m N)
  net_under_once N apart h = under_once N.nodes apart h

-- ---- how many

module _ {A : Type 0} where
  -- the list without one of its nodes
  record Without (n : A × Kind × ℕ) (ns : List (A × Kind × ℕ)) : Type 0 where
    rest : List (A × Kind × ℕ)
    shorter : length ns ≡ suc (length rest)
    others : (r : A × Kind × ℕ) → IsIn r ns → (r ≡ n) ⊎ IsIn r rest

  without : (n : A × Kind × ℕ) (ns : List (A × Kind × ℕ)) → IsIn n ns → Without n ns
  without n [] h = absurd h
  without n (m ∷ ns) (inl e) = record {
    rest = ns;
    shorter = refl;
    others = λ r h. elim h [ inl e' ↦ inl (e' ∙ sym e) | inr k ↦ inr k ];
  }
  without n (m ∷ ns) (inr h) =
      let w = without n ns h in
      record {
        rest = m ∷ w.rest;
        shorter = ap suc w.shorter;
        others = λ r k. elim k [
          | inl e ↦ inr (inl e)
          | inr k ↦ elim
              (w.others r k) [ inl e ↦ inl e | inr t ↦ inr (inr t) ]
        ];
      }

  -- nodes named once that all stand in a list are no more than its own
  no_more : (ms ns : List (A × Kind × ℕ)) → AreNamedOnce ms →
      ((n : A × Kind × ℕ) → IsIn n ms → IsIn n ns) → length ms ≤ length ns
  no_more [] ns once h = omega arith
  no_more (m ∷ ms) ns once h =
      let w = without m ns (h m (inl refl)) in
      let b = no_more ms w.rest once.1 (λ n k. left w n k) in
      omega (arith, w.shorter, b)
    where
      left : (w : Without m ns) (n : A × Kind × ℕ) → IsIn n ms → IsIn n w.rest
      left w n k = elim (w.others n (h n (inr k))) [
        | inl e ↦ absurd (once.0 m.1 m.2 (subst (λ (n : A × Kind × ℕ). IsIn n ms) e k))
        | inr t ↦ t
      ]

  pub same_length : (M N : NamedNet A) → SameNet M N → ListsOnce M → ListsOnce N → length M.nodes ≡ length N.nodes
  same_length M N s a b =
      let to : length M.nodes ≤ length N.nodes = no_more M.nodes N.nodes a (λ n h. (s.nodes n.0 n.1 n.2).0 h) in
      let back : length N.nodes ≤ length M.nodes = no_more N.nodes M.nodes b (λ n h. (s.nodes n.0 n.1 n.2).1 h) in
      omega (arith, to, back)
