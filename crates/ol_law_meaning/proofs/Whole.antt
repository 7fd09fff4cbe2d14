-- The net of a whole term: what a trail of spots joins.
use Rattle.std.proofs.Common.{◌≡◌, ℕ, zero, suc, ◌+◌, List, [], ◌∷◌, map, Option, None, Some, ◌⊎◌}
use Rattle.std.proofs.Common.{inl, inr, refl, sym, ap, ◌∙◌, arith, subst}
use Rattle.std.proofs.lemmas.Bool.Decides.{nat_tests}
use Rattle.ol_term.specs.declared.translations.Translation.{Translation}
use Rattle.ol_term.specs.Trees.{Tree}
use Rattle.ol_law_edges.specs.Edges.{IsIn, Joined, here}
use Rattle.ol_law_edges.specs.Edges as edges
use Rattle.ol_law_edges.proofs.Joining.{joined_trans, joined_sym}
use Rattle.ol_net.specs.declared.parts.Kind.{Kind}
use Rattle.ol_net.specs.declared.parts.Port.{Port}
use Rattle.ol_net.specs.declared.parts.Port.TheVariants.{Free}
use Rattle.ol_net.specs.Nets.{NamedPort, NamedNet, free}
use Rattle.ol_net.specs.Numbered.{numbered_port, numbered_from}
use Rattle.ol_context.specs.Contexts.{Level, Context, cons}
use Rattle.ol_context.specs.Paths.{Path}
use Rattle.ol_context.proofs.Contexts.{head_eq, tail_eq}
use Rattle.ol_invariance.proofs.Moves.{Move, link}
use Rattle.ol_invariance.proofs.Trails.{path_is_joined}
use Rattle.ol_translate.specs.Translation.{subnet_of, wire_of, name_links, nodes_of, links_of, translation_of}
use Rattle.ol_translate.specs.Names.{HasNames}
use Rattle.ol_translate.proofs.Whole.{translation_net}
use Rattle.ol_law_meaning.specs.Spots.{Spot, at, Edge, Trail, here, on, back, Leads, place}
use Rattle.ol_law_meaning.proofs.Fans.{Holds, Links, links_append, by_wire, wire_here, wire_later}
use Rattle.ol_law_meaning.proofs.Parts.{Has}
use Rattle.ol_law_meaning.proofs.States.{S, H, L, state, at_port, Both, both_sym, both_trans, edge_joined, before_all}

-- ---- what the whole net has

all_nodes : (A : ℕ → Kind → ℕ → Type 0) (k : ℕ) (nodes : List (Kind × ℕ)) →
    ((x : ℕ) (K : Kind) (i : ℕ) → IsIn (x, K, i) (numbered_from k nodes) → A x K i) → Holds A k nodes
all_nodes A k [] h = tt
all_nodes A k (x ∷ nodes) h =
    let next : suc k ≡ k + 1 = omega arith in
    (h k x.0 x.1 (inl refl), subst (λ j. Holds A j nodes) next (all_nodes A (suc k) nodes (λ y K i e. h y K i (inr e))))

all_links : (A : Port → Port → Type 0) (links : List (Port × Port)) →
    ((p q : Port) → IsIn {X = Port × Port} (p, q) links → A p q) → Links A links
all_links A [] h = tt
all_links A (l ∷ links) h = (h l.0 l.1 (inl refl), all_links A links (λ p q e. h p q (inr e)))

in_numbered : (links : List (Port × Port)) (p q : Port) → IsIn {X = Port × Port} (p, q) links →
    IsIn {X = NamedPort ℕ × NamedPort ℕ} (numbered_port p, numbered_port q)
    (map (λ (l : Port × Port). (numbered_port l.0, numbered_port l.1)) links)
in_numbered [] p q h = absurd h
in_numbered (l ∷ links) p q (inl e) = inl (ap (λ (w : Port × Port). (numbered_port w.0, numbered_port w.1)) e)
in_numbered (l ∷ links) p q (inr h) = inr (in_numbered links p q h)

pub name_link : (A : Port → Port → Type 0) (v : ℕ) (p : Port) (wires : List (ℕ × Port)) →
    wire_of v wires ≡ Some p → Links A (name_links wires) → A (Free (v + 1)) p
name_link A v p [] e h = absurd (cc)
name_link A v p (w ∷ wires) e h = by_wire (A (Free (v + 1)) p) v w
    (λ t. let same : w.0 ≡ v = grind (arith, nat_tests, t) in
    let found : ◌≡◌ {A = Option Port} (Some w.1) (Some p) = sym (wire_here v w wires t) ∙ e in
    let port : w.1 ≡ p = cc in
    subst (λ q. A (Free (v + 1)) q) port (subst (λ u. A (Free (u + 1)) w.1) same h.0))
    (λ t. name_link A v p wires (sym (wire_later v w wires t) ∙ e) h.1)

module _ (τ : Translation) (t : Tree) (names : ℕ) (h : HasNames t names) where
  abbrev pub N : NamedNet ℕ
  N = translation_of τ t names

  pub nodes_there : Holds (H N) 0 (nodes_of τ t)
  nodes_there = all_nodes (H N) 0 (nodes_of τ t) (λ x K i e. e)

  pub links_there : Links (L N) (links_of τ t)
  links_there = all_links (L N) (links_of τ t) (λ p q e. inl (in_numbered (links_of τ t) p q e))

  pub has_part : Has (H N) (L N) 0 (subnet_of τ t 0 0 0)
  has_part = record {
    nodes = nodes_there;
    links = (links_append (L N) (subnet_of τ t 0 0 0).links
        ((Free 0, (subnet_of τ t 0 0 0).root) ∷ name_links (subnet_of τ t 0 0 0).wires) links_there).0;
  }

  pub end_links : Links (L N) ((Free 0, (subnet_of τ t 0 0 0).root) ∷ name_links (subnet_of τ t 0 0 0).wires)
  end_links = (links_append (L N) (subnet_of τ t 0 0 0).links
      ((Free 0, (subnet_of τ t 0 0 0).root) ∷ name_links (subnet_of τ t 0 0 0).wires) links_there).1

  -- where the net stands at a spot of the whole term
  abbrev pub stands : Spot → Option S
  stands s = state τ s t 0 0 0 (λ c. c)

  pub edge_both : {s z : Spot} {m : ℕ} → Edge τ t s z m → Both N (stands s) (stands z)
  edge_both e = edge_joined τ N e 0 0 0 (λ c. c) before_all h.bound has_part

  pub trail_both : {s z : Spot} {m : ℕ} → Trail (Edge τ t) s z m → (s ≡ z) ⊎ Both N (stands s) (stands z)
  trail_both here = inl refl
  trail_both (on {s = s} {z = z} e r x) = inr (go (edge_both e) (trail_both r))
    where
      go : {s' : Spot} → Both N (stands s) (stands s') → (s' ≡ z) ⊎ Both N (stands s') (stands z) →
          Both N (stands s) (stands z)
      go b (inl q) = subst (λ z. Both N (stands s) (stands z)) q b
      go b (inr r) = both_trans b r
  trail_both (back {s = s} {z = z} e r x) = inr (go (both_sym (edge_both e)) (trail_both r))
    where
      go : {s' : Spot} → Both N (stands s) (stands s') → (s' ≡ z) ⊎ Both N (stands s') (stands z) →
          Both N (stands s) (stands z)
      go b (inl q) = subst (λ z. Both N (stands s) (stands z)) q b
      go b (inr r) = both_trans b r

  -- a free port is joined to the place that it has
  port_joined : (x : Option Port) (n : ℕ) (c : Context) (u : S) →
      ((q : Port) → x ≡ Some q → L N (Free n) q) → at_port x c ≡ Some u → Joined (Move N) (free n, c) u
  port_joined None n c u l e = absurd (cc)
  port_joined (Some q) n c u l e =
      let same : ◌≡◌ {A = S} (numbered_port q, c) u = cc in
      subst (λ u. Joined (Move N) (free n, c) u) same (edges.on edges.here (link (l q refl)))

  pub place_joined : (p : ℕ) (v : Level) (c : Context) (u : S) →
      stands (at (place p) v c) ≡ Some u → Joined (Move N) (free p, cons v c) u
  place_joined zero v c u e = port_joined (Some (subnet_of τ t 0 0 0).root) 0 (cons v c) u
      (λ q e. let r : (subnet_of τ t 0 0 0).root ≡ q = cc in subst (λ q. L N (Free 0) q) r end_links.0) e
  place_joined (suc f) v c u e =
      port_joined (wire_of (0 + f) (subnet_of τ t 0 0 0).wires) (suc f) (cons v c) u
      (λ q e. let r : 0 + f + 1 ≡ suc f = omega arith in
      subst (λ n. L N (Free n) q) r (name_link (L N) (0 + f) q (subnet_of τ t 0 0 0).wires e end_links.1)) e

  place_of : (p q : ℕ) → ◌≡◌ {A = NamedPort ℕ} (free p) (free q) → place p ≡ place q
  place_of p q e = let same : p ≡ q = cc in ap place same

  same_spot : (p q : ℕ) (v w : Level) (c d : Context) →
      (◌≡◌ {A = S} (free p, cons v c) (free q, cons w d)) → at (place p) v c ≡ at (place q) w d
  same_spot p q v w c d e =
      let ports = place_of p q (ap (λ (u : S). u.0) e) in
      let levels = ap (λ (u : S). u.1) e in
      ap (λ p. at p v c) ports ∙ ap (λ v. at (place q) v c) (head_eq v w c d levels)
      ∙ ap (λ c. at (place q) w c) (tail_eq v w c d levels)

  pub trail_is_path : (p q n : ℕ) (v w : Level) (c d : Context) →
      Leads τ t (at (place p) v c) (at (place q) w d) n → Path N (free p) (cons v c) q (cons w d)
  trail_is_path p q n v w c d (r, apart) = (path_is_joined N (translation_net τ t names h) p
      (cons v c) q (cons w d)).1 (λ e. apart (same_spot p q v w c d e), go (trail_both r))
    where
      go : (at (place p) v c ≡ at (place q) w d)
          ⊎ Both N (stands (at (place p) v c)) (stands (at (place q) w d)) →
          Joined (Move N) (free p, cons v c) (free q, cons w d)
      go (inl e) = absurd (apart e)
      go (inr b) = joined_trans (place_joined p v c b.first b.from)
          (joined_trans b.joined (joined_sym (place_joined q w d b.second b.to)))
