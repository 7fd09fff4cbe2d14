-- A step keeps the virtual redexes on a walk.
use Rattle.std.proofs.Common.{◌≡◌, ◌≢◌, ℕ, suc, ◌+◌, ◌<◌, Bool, ◌⊎◌, ◌↔◌, sym, ◌∙◌, subst, arith}
use Rattle.ol_context.proofs.Contexts.{injective}
use Rattle.ol_context.specs.Contexts.{Context, up}
use Rattle.ol_law_edges.proofs.Contraction.{is_or_is_not}
use Rattle.ol_law_edges.proofs.Joining.{joined_trans, joined_map}
use Rattle.ol_law_edges.specs.Edges.{IsTest, Joined, here, on, back}
use Rattle.ol_invariance.proofs.Moves.{State, Suits, same_joined, After, wire}
use Rattle.ol_invariance.proofs.Moves as moves
use Rattle.ol_invariance.proofs.Named.{joined_vertices, joined_ports}
use Rattle.ol_net.specs.Nets.{NamedPort, free, slot, NamedNet, HasNode, IsNet, Faces}
use Rattle.ol_net.specs.Parts.{arity}
use Rattle.ol_net.specs.declared.parts.Kind.{Kind}
use Rattle.ol_net.specs.declared.parts.Kind.TheVariants as kind
use Rattle.ol_rules.proofs.FreshPairs.{linked_sym}
use Rattle.ol_rules.proofs.Wires.{Off, Join, Wire, join}
use Rattle.ol_rules.proofs.Wires as wires
use Rattle.ol_rules.specs.Contracting.{Vertex, old, g_copy}
use Rattle.ol_rules.specs.Laws.{IsFresh}
use Rattle.ol_rules.specs.Rewriting.{Action, crossing, Rewrites}
use Rattle.ol_law_optimality.specs.Redexes.{Carries, put}
use Rattle.ol_law_optimality.specs.Routes.{Route, HasRoute, IsResidue, from_other, from_copy}
use Rattle.ol_law_optimality.specs.Seen.{Move, link, node, IsOnWalk, IsSeen}
use Rattle.ol_law_optimality.proofs.Carrying.{fall_at, are_in, still, copy_of_g}
use Rattle.ol_law_optimality.proofs.Puts.{lift, lower}
use Rattle.ol_law_optimality.proofs.Redexes.{ends_back, ends_on}
use Rattle.ol_law_optimality.proofs.Table.{Gap}

module _ {A : Type 0} (N : NamedNet A) where
  to_move : (u v : State (NamedPort A)) → Move N u v → Joined (moves.Move N) u v
  to_move u v (link h) = on here (moves.link h)
  to_move u v (node k i h b e) = on here (moves.node k i h b e)

  of_move : (u v : State (NamedPort A)) → moves.Move N u v → Joined (Move N) u v
  of_move u v (moves.link h) = on here (link h)
  of_move u v (moves.node k i h b e) = on here (node k i h b e)

  to_moves : {u v : State (NamedPort A)} → Joined (Move N) u v → Joined (moves.Move N) u v
  to_moves r = joined_map to_move r

  of_moves : {u v : State (NamedPort A)} → Joined (moves.Move N) u v → Joined (Move N) u v
  of_moves r = joined_map of_move r

module _ {A : Type 0} (N : NamedNet A) (f g : A) (k : Kind) (i : ℕ) (l : Kind) (j : ℕ)
    (a : Action) (born : ℕ → A) (same : A → A → Bool) (test : IsTest same) (is_net : IsNet N)
    (faces : Faces N f g k i l j) (fresh : IsFresh N born) (M : NamedNet A) (net_after : IsNet M)
    (rewrites : Rewrites born N f g k i l a M) (suits : Suits a k i l j)
    (quiet : (j' : ℕ) → a ≡ crossing j' → (k ≢ kind.Lam) × (k ≢ kind.App))
    (gaps : (j' s : ℕ) → a ≡ crossing j' → s < arity k → Gap k i j j') (p : ℕ) (c : Context) where
  same_name : (x y : A) → (x ≡ y) ⊎ (x ≢ y)
  same_name x y = is_or_is_not same test y x

  off : Off f g (free p)
  off = record { first = λ e. absurd (cc); second = λ e. absurd (cc) }

  off_other : (x : A) → x ≢ f → x ≢ g → Off f g (slot x 0)
  off_other x n n' = record {
    first = λ e. n (let z : x ≡ f = cc in z);
    second = λ e. n' (let z : x ≡ g = cc in z);
  }

  off_aux : (x : A) (s : ℕ) → Off f g (slot x (suc s))
  off_aux x s = record {
    first = λ e. let n : suc s ≡ 0 = cc in absurd (omega arith);
    second = λ e. let n : suc s ≡ 0 = cc in absurd (omega arith);
  }

  abbrev AfterHere : State (Vertex A) → State (Vertex A) → Type 0
  AfterHere = After N f g k i l j a

  -- a port of a node that stays
  on_other : (x : A) (m : Kind) (n : ℕ) → HasNode N x m n → x ≢ f → x ≢ g → (d : Context) →
      IsOnWalk N p c (slot x 0) d ↔ IsOnWalk M p c (slot x 0) d
  on_other x m n h y z d = (
    (λ r. of_moves M (joined_ports N f g k i l j a born same test is_net faces fresh M rewrites
        (old (free p), c) (old (slot x 0), d) tt (y, z, (m, n, h))
        ((same_joined N f g k i l j is_net faces same_name a suits (free p, c) (slot x 0, d) off
        (off_other x y z)).0 (to_moves N r)))),
    (λ r. of_moves N ((same_joined N f g k i l j is_net faces same_name a suits (free p, c)
        (slot x 0, d) off (off_other x y z)).1
        (joined_vertices N f g k i l j a born same test is_net faces fresh M rewrites
        (old (free p), c) (old (slot x 0), d) tt (y, z, (m, n, h)) (to_moves M r)))),
  )

  -- the wire at a copy of g
  at_copy : (s j' : ℕ) → a ≡ crossing j' → s < arity k →
      Wire N f g k i l j a (g_copy s 0) (old (slot f (suc s)))
  at_copy s j' e b =
      join (subst (λ a. Join N f g k i l j a (g_copy s 0) (old (slot f (suc s)))) (sym e)
      (wires.Join.at_f b))

  -- from g through f
  steps : (s : ℕ) → s < arity k → (b d : Context) → up k i s b ≡ d →
      Joined (Move N) (slot g 0, d) (slot f (suc s), b)
  steps s h b d e =
      on (on here (link (linked_sym N (slot f 0) (slot g 0) faces.linked)))
      (node k i faces.first h e)

  steps_back : (s : ℕ) → s < arity k → (b d : Context) → up k i s b ≡ d →
      Joined (Move N) (slot f (suc s), b) (slot g 0, d)
  steps_back s h b d e =
      on (back here (node k i faces.first h e)) (link faces.linked)

  on_copy : (s j' : ℕ) → a ≡ crossing j' → s < arity k → (b d : Context) → up k i s b ≡ d →
      IsOnWalk N p c (slot g 0) d ↔ IsOnWalk M p c (slot (born (arity l + s)) 0) b
  on_copy s j' e h b d q = (
    (λ r. of_moves M (joined_ports N f g k i l j a born same test is_net faces fresh M rewrites
        (old (free p), c) (g_copy s 0, b) tt tt
        (back ((same_joined N f g k i l j is_net faces same_name a suits (free p, c)
        (slot f (suc s), b) off (off_aux f s)).0
        (to_moves N (joined_trans r (steps s h b d q)))) (wire (at_copy s j' e h))))),
    (λ r. joined_trans (of_moves N ((same_joined N f g k i l j is_net faces same_name a suits
        (free p, c) (slot f (suc s), b) off (off_aux f s)).1
        (on (joined_vertices N f g k i l j a born same test is_net faces fresh M rewrites
        (old (free p), c) (g_copy s 0, b) tt tt (to_moves M r)) (wire (at_copy s j' e h)))))
        (steps_back s h b d q)),
  )

  pub seen_on : (s u : Route A) → HasRoute M u → IsResidue born f g (arity l) a s u →
      IsSeen N p c s → IsSeen M p c u
  seen_on s u h (from_other {x = x} {y = y} {z = z} {w = w} {v = v} n n' r) S =
      let V = S.redex in
      let E = ends_on N f g k i l j a born same test is_net faces fresh M net_after rewrites suits
      quiet gaps w v y z r V.route.j h.j V.route.abstraction h.abstraction V.last V.last_is
      (λ c. put V.begin c) V.carries in
      let o = net_after.one_node x kind.App kind.App V.route.i h.i
      (still N f g k i l j a born is_net faces fresh M net_after rewrites suits x kind.App V.route.i
      V.route.application n n') h.application in
      record {
        redex = record {
          route = h;
          begin = V.begin;
          last = E.0;
          begin_is = V.begin_is ∙ o.1;
          last_is = E.1;
          carries = E.2;
        };
        rest = S.rest;
        on_walk = (on_other x kind.App V.route.i V.route.application n n' (put V.begin S.rest)).0
            S.on_walk;
      }
  seen_on s u h (from_copy {y = y} {z = z} {p = m} {j = j'} {w = w} {v = v} e r) S =
      let V = S.redex in
      let ins = are_in N is_net V.route.row in
      let b : m < arity k = subst (λ q. m < arity q)
      (is_net.one_node f ins.0 k ins.1 i ins.2 faces.first).0 ins.3 in
      let at : (e : Context) → (m < arity k) × (b : Context) × (up k i m b ≡ put V.begin e)
      × Carries N b w (put V.last e) = λ e. fall_at N is_net f k i faces.first m w (put V.begin e)
      (put V.last e) (V.carries e) in
      let G = gaps j' m e b in
      let o = is_net.one_node g kind.App l V.route.i j V.route.application faces.second in
      let o' = net_after.one_node (born (arity l + m)) kind.App l h.i j' h.application
      (copy_of_g N f g k i l j a born is_net faces fresh M net_after rewrites suits j' m e b) in
      let L = lower k i m G.crosser G.n V.begin (V.begin_is ∙ o.1 ∙ G.before) (at S.rest).1 S.rest
      (at S.rest).2 in
      let E = ends_on N f g k i l j a born same test is_net faces fresh M net_after rewrites suits
      quiet gaps w v y z r V.route.j h.j V.route.abstraction h.abstraction V.last V.last_is
      (λ c. put L.0 c) (λ c.
      let t = at c in
      subst (λ b. Carries N b w (put V.last c)) (injective k i m m t.1 (put L.0 c) t.0 t.0
      (t.2 ∙ sym (L.2.all c))).1 t.3) in
      record {
        redex = record {
          route = h;
          begin = L.0;
          last = E.0;
          begin_is = L.1 ∙ sym G.after ∙ sym o'.1;
          last_is = E.1;
          carries = E.2;
        };
        rest = S.rest;
        on_walk = (on_copy m j' e b (put L.0 S.rest) (put V.begin S.rest) (L.2.all S.rest)).0
            S.on_walk;
      }

  pub seen_back : (s u : Route A) → HasRoute N s → IsResidue born f g (arity l) a s u →
      IsSeen M p c u → IsSeen N p c s
  seen_back s u h (from_other {x = x} {y = y} {z = z} {w = w} {v = v} n n' r) S =
      let V = S.redex in
      let E = ends_back N f g k i l j a born same test is_net faces fresh M net_after rewrites suits
      quiet gaps w v y z r (are_in N is_net h.row) h.j V.route.j h.abstraction V.route.abstraction
      V.last V.last_is (λ c. put V.begin c) V.carries in
      let o = net_after.one_node x kind.App kind.App V.route.i h.i V.route.application
      (still N f g k i l j a born is_net faces fresh M net_after rewrites suits x kind.App h.i
      h.application n n') in
      record {
        redex = record {
          route = h;
          begin = V.begin;
          last = E.0;
          begin_is = V.begin_is ∙ o.1;
          last_is = E.1;
          carries = E.2;
        };
        rest = S.rest;
        on_walk = (on_other x kind.App h.i h.application n n' (put V.begin S.rest)).1 S.on_walk;
      }
  seen_back s u h (from_copy {y = y} {z = z} {p = m} {j = j'} {w = w} {v = v} e r) S =
      let V = S.redex in
      let ins = are_in N is_net h.row in
      let b : m < arity k = subst (λ q. m < arity q)
      (is_net.one_node f ins.0 k ins.1 i ins.2 faces.first).0 ins.3 in
      let E = ends_back N f g k i l j a born same test is_net faces fresh M net_after rewrites suits
      quiet gaps w v y z r ins.4 h.j V.route.j h.abstraction V.route.abstraction V.last
      V.last_is (λ c. put V.begin c) V.carries in
      let G = gaps j' m e b in
      let o = net_after.one_node (born (arity l + m)) kind.App l V.route.i j' V.route.application
      (copy_of_g N f g k i l j a born is_net faces fresh M net_after rewrites suits j' m e b) in
      let o' = is_net.one_node g kind.App l h.i j h.application faces.second in
      let L = lift k i m G.crosser G.n V.begin (V.begin_is ∙ o.1 ∙ G.after) in
      record {
        redex = record {
          route = h;
          begin = L.0;
          last = E.0;
          begin_is = L.1 ∙ sym G.before ∙ sym o'.1;
          last_is = E.1;
          carries = λ c. (k, i, faces.first, b, put V.begin c, L.2.all c, E.2 c);
        };
        rest = S.rest;
        on_walk = (on_copy m j' e b (put V.begin S.rest) (put L.0 S.rest) (L.2.all S.rest)).1
            S.on_walk;
      }
