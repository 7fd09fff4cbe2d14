-- A search for names that take one net to another: nodes that no free port reaches, tried against one another.
use Rattle.std.proofs.Common.{◌≡◌, ◌≢◌, ℕ, ◌+◌, ◌*◌, ◌<◌, refl, sym, ap, ◌∙◌, subst}
use Rattle.std.proofs.Common.{List, [], ◌∷◌, ◌++◌, length, Option, None, Some, arith}
use Rattle.std.proofs.lemmas.Option.{none-some}
use Rattle.ol_law_edges.specs.Edges.{IsIn}
use Rattle.ol_net.specs.declared.parts.Kind.{Kind}
use Rattle.ol_net.specs.Graph.{Graph, IsTabled, kind_at}
use Rattle.ol_net.specs.Nets.{HasNode}
use Rattle.ol_net.specs.Numbered.{net_of}
use Rattle.ol_net.proofs.Places.{kind_at-inside}
use Rattle.ol_net.proofs.Numbered.{has_node}
use Rattle.ol_rules.proofs.Renaming.{node_from}
use Rattle.ol_orders.specs.Same.{AreOne, IsRenumbered, Meets, GoesOn, Walks}
use Rattle.ol_orders.specs.Meetings.{met_by, TellPairs, EachMet}
use Rattle.ol_orders.specs.Walked.{HasWalked, Follow, NoneFollow, NoneTake}
use Rattle.ol_orders.proofs.Walking.{seeded}
use Rattle.ol_orders.proofs.Tables.{are_new}
use Rattle.ol_orders.proofs.OneNet.{are_one}
use Rattle.ol_orders.proofs.Renumbered.{node_over, follow_meet, follows, goes_on, nothing_met}

module _ (a b : Graph) (ta : IsTabled a.free a.nodes a.partners) (tb : IsTabled b.free b.nodes b.partners)
    (pairs : List (ℕ × ℕ)) (there back : List (Option ℕ)) (t : TellPairs pairs there back) where
  -- all nodes have met
  pub all_one : a.free ≡ b.free → HasWalked a b (a.free + 3 * length pairs) pairs → EachMet a there → EachMet b back →
      AreOne a b
  all_one f w ea eb = are_one a b ta tb pairs f w (record {
    first = λ x k i h. let y = ea x k i h in (y.0, (t.there_tells x y.0).0 y.1);
    second = λ y k i h. let x = eb y k i h in (x.0, (t.back_tells x.0 y).0 x.1);
  })

  -- the first net's nodes have all met, and one of the second hasn't
  pub one_left : EachMet a there → (y : ℕ) → met_by back y ≡ None → (k : Kind) × (i : ℕ) × HasNode (net_of b) y k i →
      NoneFollow a b pairs
  one_left ea y n h names r f =
      let x = node_from names (net_of a) y h.0 h.1 ((r.same.nodes y h.0 h.1).1 h.2) in
      let z = ea x.0 h.0 h.1 x.1 in
      let i = (t.there_tells x.0 z.0).0 z.1 in
      let e : z.0 ≡ y = f.is x.0 z.0 i ∙ sym x.2 in
      none-some x.0 (sym n ∙ (t.back_tells x.0 y).1 (subst (λ (w : ℕ). IsIn (x.0, w) pairs) e i))

  module _ (x : ℕ) (alone : met_by there x ≡ None) (h : (k : Kind) × (i : ℕ) × HasNode (net_of a) x k i) where
    -- a node that has met another isn't the one of this name
    pub take_taken : (y z : ℕ) → met_by back y ≡ Some z → NoneTake a b pairs x y
    take_taken y z e names r f n =
        let i = (t.back_tells z y).0 e in
        let g = f.there z y i in
        let same : x ≡ z = r.apart x z h.0 g.0 h.1 g.1 h.2 g.2 (n ∙ f.is z y i) in
        none-some y (sym alone ∙ ap (met_by there) same ∙ (t.there_tells z y).1 i)

    -- nor is one of another kind or index
    pub take_unlike : (y : ℕ) → kind_at a.nodes x ≢ kind_at b.nodes y → NoneTake a b pairs x y
    take_unlike y d names r f n =
        d ((has_node a x h.0 h.1).0 h.2
        ∙ sym ((has_node b (names x) h.0 h.1).0 (node_over a b ta tb names r x h.0 h.1 h.2)) ∙ ap (kind_at b.nodes) n)

    -- the pairs with these two are followed too
    more_follow : (names : ℕ → ℕ) (r : IsRenumbered names (net_of a) (net_of b)) → Follow a names pairs →
        (y : ℕ) (met : List (ℕ × ℕ)) → names x ≡ y → Meets a b pairs x y met → Follow a names met
    more_follow names r f y met n m = follow_meet a b ta tb names r pairs f x y met (sym n) h m

    -- nor is one from which a walk stops
    pub take_stopped : (y : ℕ) (had : List (ℕ × ℕ)) (from at : ℕ) (met : List (ℕ × ℕ)) → Meets a b pairs x y had →
        Walks a b from had at met → at < a.free + 3 * length met →
        ((met' : List (ℕ × ℕ)) → GoesOn a b met at met' → ⊥) → NoneTake a b pairs x y
    take_stopped y had from at met m w l stops names r f n =
        let g = follows a b ta tb names r from had (more_follow names r f y had n m) at met w in
        let s = goes_on a b ta tb names r met at g l in
        stops s.0 s.1

    -- nor is one from which a search ends without names
    pub take_apart : (y : ℕ) (had : List (ℕ × ℕ)) (from at : ℕ) (met : List (ℕ × ℕ)) → Meets a b pairs x y had →
        Walks a b from had at met → NoneFollow a b met → NoneTake a b pairs x y
    take_apart y had from at met m w none names r f n =
        none names r (follows a b ta tb names r from had (more_follow names r f y had n m) at met w)

    -- a walk goes on from these two
    pub seeded_by : (y : ℕ) (had : List (ℕ × ℕ)) (from : ℕ) → met_by back y ≡ None →
        kind_at a.nodes x ≡ kind_at b.nodes y → had ≡ pairs ++ (x, y) ∷ [] → from ≡ a.free + 3 * length pairs →
        HasWalked a b (a.free + 3 * length pairs) pairs → HasWalked a b from had
    seeded_by y had from n k e f w =
        subst (λ (met : List (ℕ × ℕ)). HasWalked a b from met) (sym e)
        (subst (λ (at : ℕ). HasWalked a b at (pairs ++ (x, y) ∷ [])) (sym f)
        (seeded a b (a.free + 3 * length pairs) pairs x y (omega arith)
        (are_new a b pairs there back t x y alone n) k w))

    -- so there are no names where no node of the other net is the one
    pub none_taken : ((y : ℕ) → y < length b.nodes → NoneTake a b pairs x y) → NoneFollow a b pairs
    none_taken each names r f =
        let k = (has_node b (names x) h.0 h.1).0 (node_over a b ta tb names r x h.0 h.1 h.2) in
        each (names x) (kind_at-inside b.nodes (names x) (h.0, h.1) k) names r f refl

-- no names follow what a walk from the free ports leaves, so the nets aren't one
pub none_from_walk : (a b : Graph) → IsTabled a.free a.nodes a.partners → IsTabled b.free b.nodes b.partners →
    (at : ℕ) (met : List (ℕ × ℕ)) → Walks a b 0 [] at met → NoneFollow a b met → AreOne a b → ⊥
none_from_walk a b ta tb at met w none one =
    none one.0 one.1 (follows a b ta tb one.0 one.1 0 [] (nothing_met a b ta tb one.0 one.1) at met w)
