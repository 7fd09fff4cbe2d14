-- Chains of a net under other names.
use Rattle.std.proofs.Common.{◌≡◌, ℕ, inl, inr, List, [], ◌∷◌, map, refl, sym, ap, ◌∙◌, subst, arith}
use Rattle.std.proofs.lemmas.List.{length-map}
use Rattle.ol_law_edges.specs.Edges.{IsIn}
use Rattle.ol_law_edges.proofs.Lists.{in_map_of}
use Rattle.ol_net.specs.declared.parts.Kind.{Kind}
use Rattle.ol_net.specs.declared.parts.Rule.{Rule}
use Rattle.ol_net.specs.Nets.{NamedNet, NamedPort, free, slot, HasNode, IsPrincipalOf, port_under, net_under}
use Rattle.ol_context.specs.Contexts.{Context}
use Rattle.ol_context.specs.Paths.{Crosses, Through, through, IsBarred}
use Rattle.ol_context.specs.Short.{live, IsOnce}
use Rattle.ol_rules.proofs.Renaming.{node_to, node_back, link_to, active_to, active_from, one_port}
use Rattle.ol_demand.specs.Chains.{IsAtPair, IsAtNoPair, Chain, starts, crosses, End, met, left, undefined, budget}
use Rattle.ol_demand.specs.Chains.{Stands, at_pair, at_port, barred, at_last, Ends}

-- the end of a chain under other names
abbrev pub end_under : {A B : Type 0} → (A → B) → End A → End B
end_under m (met f g r) = met (m f) (m g) r
end_under m (left q X) = left q X
end_under m undefined = undefined
end_under m budget = budget

module _ {A B : Type 0} (m : A → B) (one_name : (x y : A) → m x ≡ m y → x ≡ y) (N : NamedNet A) where
  pub live_under : live (net_under m N) ≡ live N
  live_under = length-map N.nodes _

  at_pair_under : (u : NamedPort A) (f g : A) (r : Rule) → IsAtPair N u f g r →
      IsAtPair (net_under m N) (port_under m u) (m f) (m g) r
  at_pair_under u f g r a = record { active = active_to m N f g r a.active; principal = go a.principal }
    where
      go : IsPrincipalOf f g u → IsPrincipalOf (m f) (m g) (port_under m u)
      go (inl e) = inl (ap (port_under m) e)
      go (inr e) = inr (ap (port_under m) e)

  no_pair_under : (u : NamedPort A) → IsAtNoPair N u → IsAtNoPair (net_under m N) (port_under m u)
  no_pair_under u h F G r a =
      let t = active_from m one_name N F G r a.active in
      h t.0 t.1 r (record { active = t.4; principal = go t.0 t.1 t.2 t.3 a.principal })
    where
      go : (f g : A) → F ≡ m f → G ≡ m g → IsPrincipalOf F G (port_under m u) → IsPrincipalOf f g u
      go f g e e' (inl z) = inl (one_port m one_name u (slot f 0) (z ∙ ap (λ F. slot F 0) e))
      go f g e e' (inr z) = inr (one_port m one_name u (slot g 0) (z ∙ ap (λ F. slot F 0) e'))

  chain_under : {p : ℕ} {c : Context} {n : ℕ} {u : NamedPort A} {d : Context} → Chain N p c n u d →
      Chain (net_under m N) p c n (port_under m u) d
  chain_under starts = starts
  chain_under (crosses {u = u} {x = x} {k = k} {i = i} {s = s} h a b l y z) = let e = live_under in
      crosses (chain_under h) (no_pair_under u a) (omega arith) (link_to m N u (slot x s) l) (node_to m N x k i y) z

  barred_under : (x : A) (s : ℕ) (d : Context) → IsBarred N (slot x s) d → IsBarred (net_under m N) (slot (m x) s) d
  barred_under x s d b q e t = go t refl
    where
      go : {P q : NamedPort B} {e : Context} → Through (net_under m N) P d q e → P ≡ slot (m x) s → ⊥
      go (through {x = y} {k = k} {i = i} {s = s'} {t = t} {d = e} h z) w =
          let a : y ≡ m x = cc in
          let b' : s' ≡ s = cc in
          b (slot x t) e (through (node_back m one_name N x k i
          (subst (λ y. HasNode (net_under m N) y k i) a h)) (subst (λ s. Crosses k i s d t e) b' z))

  through_under : (p q : NamedPort A) (d e : Context) → Through N p d q e →
      Through (net_under m N) (port_under m p) d (port_under m q) e
  through_under p q d e (through {x = x} {k = k} {i = i} h z) = through (node_to m N x k i h) z

  stands_under : {n : ℕ} {u : NamedPort A} {d : Context} {end : End A} → Stands N n u d end →
      Stands (net_under m N) n (port_under m u) d (end_under m end)
  stands_under {u = u} (at_pair {f = f} {g = g} {r = r} a) = at_pair (at_pair_under u f g r a)
  stands_under {u = u} (at_port {q = q} l) = at_port (link_to m N u (free q) l)
  stands_under {u = u} {d = d} (barred {x = x} {s = s} a l b) = barred (no_pair_under u a)
      (link_to m N u (slot x s) l) (barred_under x s d b)
  stands_under {u = u} {d = d} (at_last {x = x} {s = s} {v = v} {e = e} a l t
      b) = let z = live_under in at_last (no_pair_under u a) (link_to m N u (slot x s) l)
      (through_under (slot x s) v d e t) (omega arith)

  pub ends_under : (p : ℕ) (c : Context) (end : End A) → Ends N p c end → Ends (net_under m N) p c (end_under m end)
  ends_under p c end h = record {
    made = h.made;
    port = port_under m h.port;
    context = h.context;
    chain = chain_under h.chain;
    stands = stands_under h.stands;
  }

-- a list without repeats stays one under such names
once_map : {X Y : Type 0} (f : X → Y) → ((x y : X) → f x ≡ f y → x ≡ y) → (xs : List X) → IsOnce xs → IsOnce (map f xs)
once_map f one [] h = tt
once_map f one (x ∷ xs) h = (
  λ i. let t = in_map_of f (f x) xs i in
      h.0 (subst (λ y. IsIn y xs) (sym (one x t.0 t.2)) t.1),
  once_map f one xs h.1,
)

pub once_under : {A B : Type 0} (m : A → B) → ((x y : A) → m x ≡ m y → x ≡ y) → (N : NamedNet A) →
    IsOnce N.nodes → IsOnce (net_under m N).nodes
once_under {A} {B} m one N h = once_map _ same N.nodes h
  where
    same : (x y : A × Kind × ℕ) → (let z : B × Kind × ℕ = (m x.0, x.1, x.2) in z) ≡ (m y.0, y.1, y.2) → x ≡ y
    same x y e =
        let a = one x.0 y.0 (ap (λ (z : B × Kind × ℕ). z.0) e) in
        let b : x.1 ≡ y.1 = ap (λ (z : B × Kind × ℕ). z.1) e in
        let c : x.2 ≡ y.2 = ap (λ (z : B × Kind × ℕ). z.2) e in
        ap (λ z. (z, x.1, x.2)) a ∙ ap (λ z. (y.0, z, x.2)) b ∙ ap (λ z. (y.0, y.1, z)) c
