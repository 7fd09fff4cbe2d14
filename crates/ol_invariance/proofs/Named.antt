-- A step as a relation: what is joined by vertices is what is joined afterwards, under its names.
use Rattle.std.proofs.Common.{◌≡◌, ◌≢◌, ℕ, suc, ◌+◌, ◌<◌, Bool, ◌⊎◌, ◌↔◌, inl, inr, refl, sym, ap, ◌∙◌, subst}
use Rattle.ol_context.specs.Contexts.{Context, up}
use Rattle.ol_context.specs.Paths.{Path}
use Rattle.ol_law_edges.proofs.Contraction.{is_or_is_not}
use Rattle.ol_law_edges.proofs.Joining.{joined_trans, joined_sym, joined_image, Follows, follow}
use Rattle.ol_law_edges.specs.Edges.{IsTest, Joined, here, on, back}
use Rattle.ol_invariance.proofs.Moves.{State, Move, link, node, Suits, After, wire, other_node}
use Rattle.ol_invariance.proofs.Moves.{f_node, g_node, same_joined}
use Rattle.ol_invariance.proofs.Trails.{path_is_joined}
use Rattle.ol_net.specs.Nets.{NamedPort, free, slot, NamedNet, Linked, IsNet, Faces}
use Rattle.ol_net.specs.Parts.{arity}
use Rattle.ol_net.specs.declared.parts.Kind.{Kind}
use Rattle.ol_rules.proofs.Ports.{Lasts, LinkAfter, links_of, name_one, lasts_real}
use Rattle.ol_rules.proofs.Ports as ports
use Rattle.ol_rules.proofs.Tests.{vertex_test}
use Rattle.ol_rules.specs.Contracting.{Vertex, old, f_copy, g_copy, vertex_same}
use Rattle.ol_rules.proofs.Wires.{Off, Wire}
use Rattle.ol_rules.specs.Laws.{IsFresh}
use Rattle.ol_rules.specs.Rewriting.{Action, NodeOf, left, of_f, of_g, Rewrites}

module _ {A : Type 0} (N : NamedNet A) (f g : A) (k : Kind) (i : ℕ) (l : Kind) (j : ℕ) (a : Action) (born : ℕ → A) where
  abbrev IsLasting : Vertex A → Type 0
  IsLasting u = Lasts N f g k i l j a born u

  abbrev named : Vertex A → NamedPort A
  named u = ports.named N f g k i l j a born u

  module _ (same : A → A → Bool) (t : IsTest same) (is_net : IsNet N) (faces : Faces N f g k i l j)
      (fresh : IsFresh N born) (M : NamedNet A) (rewrites : Rewrites born N f g k i l a M) where
    named_one : (u v : Vertex A) → IsLasting u → IsLasting v → named u ≡ named v → u ≡ v
    named_one u v h h' e = name_one N f g k i l j a born is_net faces fresh u v
        (lasts_real N f g k i l j a born is_net faces fresh u h)
        (lasts_real N f g k i l j a born is_net faces fresh v h') e

    links_after : (p q : NamedPort A) → Linked M p q ↔ LinkAfter N f g k i l j a born p q
    links_after p q =
        let r = rewrites.links p q in
        let c = links_of N f g k i l j a born is_net faces fresh p q in
        ((λ h. c.1 (r.0 h)), (λ h. r.1 (c.0 h)))

    NamedAs : State (NamedPort A) → State (Vertex A) → Type 0
    NamedAs u w = IsLasting w.0 × (u ≡ (named w.0, w.1))

    named_as_one : (u : State (NamedPort A)) (w z : State (Vertex A)) → NamedAs u w → NamedAs u z → w ≡ z
    unfolding NamedAs
    named_as_one u w z a b =
        let e : ◌≡◌ {A = State (NamedPort A)} (named w.0, w.1) (named z.0, z.1) = sym a.1 ∙ b.1 in
        ap (λ x. (x, w.1)) (named_one w.0 z.0 a.0 b.0 (ap (λ (u : State (NamedPort A)). u.0) e))
        ∙ ap (λ c. (z.0, c)) (ap (λ (u : State (NamedPort A)). u.1) e)

    wired_moves : {u v : Vertex A} (c : Context) → Joined (Wire N f g k i l j a) u v →
        Joined (After N f g k i l j a) (u, c) (v, c)
    wired_moves c w = joined_image (λ u. (u, c)) (λ u v e. on here (wire e)) w

    -- a move afterwards, between vertices
    record Lifted (u v : State (NamedPort A)) : Type 0 where
      from : State (Vertex A)
      to : State (Vertex A)
      from_is : NamedAs u from
      to_is : NamedAs v to
      joined : Joined (After N f g k i l j a) from to

    lift_link : (p q : NamedPort A) (c : Context) → LinkAfter N f g k i l j a born p q → Lifted (p, c) (q, c)
    unfolding NamedAs
    lift_link p q c h = record {
      from = (h.from, c);
      to = (h.to, c);
      from_is = (h.from_lasts, ap (λ p. (p, c)) h.from_is);
      to_is = (h.to_lasts, ap (λ p. (p, c)) h.to_is);
      joined = wired_moves c h.joined;
    }

    lift_node : (x : A) (m : Kind) (n s : ℕ) (c d : Context) → NodeOf N born f g k i l a x m n →
        s < arity m → up m n s c ≡ d → Lifted (slot x 0, d) (slot x (suc s), c)
    unfolding NamedAs
    lift_node x m n s c d (left h x' x'') b e = record {
      from = (old (slot x 0), d);
      to = (old (slot x (suc s)), c);
      from_is = ((x', x'', (m, n, h)), refl);
      to_is = ((x', x'', (m, n, h)), refl);
      joined = on here (other_node m n h x' x'' b e);
    }
    lift_node x m n s c d (of_f {q = q} j' r h) b e = record {
      from = (f_copy q 0, d);
      to = (f_copy q (suc s), c);
      from_is = (h, refl);
      to_is = (h, refl);
      joined = on here (f_node j' r b h e);
    }
    lift_node x m n s c d (of_g {p = p} j' r h) b e = record {
      from = (g_copy p 0, d);
      to = (g_copy p (suc s), c);
      from_is = (tt, refl);
      to_is = (tt, refl);
      joined = on here (g_node j' r h b e);
    }

    lift_move : (u v : State (NamedPort A)) → Move M u v → Lifted u v
    lift_move u v (link {p = p} {q = q} {c = c} h) = lift_link p q c ((links_after p q).0 h)
    lift_move u v (node {x = x} {s = s} {c = c} {d = d} m n h b e) = lift_node x m n s c d
        ((rewrites.nodes x m n).0 h) b e

    to_vertices : Follows (Move M) (After N f g k i l j a) NamedAs
    to_vertices = record {
      forth = λ u v w m r. let t = lift_move u v m in (
        t.from,
        t.from_is,
        subst (λ z. Joined (After N f g k i l j a) t.from z)
            (named_as_one v t.to w t.to_is r) t.joined,
      );
      back' = λ u v w m r. let t = lift_move u v m in (
        t.to,
        t.to_is,
        joined_sym (subst (λ z. Joined (After N f g k i l j a) z t.to)
            (named_as_one u t.from w t.from_is r) t.joined),
      );
    }

    -- joined afterwards, by names: joined by vertices
    pub joined_vertices : (u v : State (Vertex A)) → IsLasting u.0 → IsLasting v.0 →
        Joined (Move M) (named u.0, u.1) (named v.0, v.1) → Joined (After N f g k i l j a) u v
    unfolding NamedAs
    joined_vertices u v h h' w =
        let t = follow to_vertices w v (h', refl) in
        subst (λ z. Joined (After N f g k i l j a) z v) (named_as_one (named u.0, u.1) t.0 u t.1 (h, refl)) t.2

    -- vertices that last and are joined by wires are linked afterwards
    hop : (u v : Vertex A) (c : Context) → IsLasting u → IsLasting v →
        Joined (Wire N f g k i l j a) u v → Joined (Move M) (named u, c) (named v, c)
    hop u v c h h' w = go (is_or_is_not (vertex_same same) (vertex_test same t) v u)
      where
        go : (u ≡ v) ⊎ (u ≢ v) → Joined (Move M) (named u, c) (named v, c)
        go (inl e) = subst (λ v. Joined (Move M) (named u, c) (named v, c)) e here
        go (inr n) = on here (link ((links_after (named u) (named v)).1
            (record {
              from = u;
              to = v;
              from_lasts = h;
              to_lasts = h';
              apart = n;
              joined = w;
              from_is = refl;
              to_is = refl;
            })))

    -- the port at the far end of a vertex's wires
    EndOf : State (Vertex A) → State (NamedPort A) → Type 0
    EndOf w u = (v : Vertex A) × IsLasting v × Joined (Wire N f g k i l j a) w.0 v × (u ≡ (named v, w.1))

    Followed : State (Vertex A) → State (Vertex A) → Type 0
    Followed u v = (w : State (NamedPort A)) → EndOf v w → (x : State (NamedPort A)) × EndOf u x × Joined (Move M) x w

    followed_wire : (u v : Vertex A) (c : Context) → Joined (Wire N f g k i l j a) u v → Followed (u, c) (v, c)
    unfolding Followed EndOf
    followed_wire u v c w z t = (z, (t.0, t.1, joined_trans w t.2, t.3), here)

    followed_move : (u v : Vertex A) (c d : Context) → IsLasting u → IsLasting v →
        Joined (Move M) (named u, c) (named v, d) → Followed (u, c) (v, d)
    unfolding Followed EndOf
    followed_move u v c d h h' m z t = (
      (named u, c),
      (u, h, here, refl),
      subst (λ z. Joined (Move M) (named u, c) z) (sym t.3)
          (joined_trans m (hop v t.0 d h' t.1 t.2)),
    )

    followed : (u v : State (Vertex A)) → After N f g k i l j a u v → Followed u v × Followed v u
    followed u v (wire {u = x} {v = y} {c = c} w) = (followed_wire x y c (on here w), followed_wire y x c (back here w))
    followed u v (other_node {x = x} {s = s} {c = c} {d = d} m n h x' x'' b e) =
        let t = (rewrites.nodes x m n).1 (left h x' x'') in
        let r : IsLasting (old (slot x 0)) = (x', x'', (m, n, h)) in (
          followed_move (old (slot x 0)) (old (slot x (suc s))) d c r r (on here (node m n t b e)),
          followed_move (old (slot x (suc s))) (old (slot x 0)) c d r r (back here (node m n t b e)),
        )
    followed u v (f_node {p = p} {q = q} {c = c} {d = d} j' r b b' e) =
        let t = (rewrites.nodes (born q) k i).1 (of_f j' r b') in (
          followed_move (f_copy q 0) (f_copy q (suc p)) d c b' b' (on here (node k i t b e)),
          followed_move (f_copy q (suc p)) (f_copy q 0) c d b' b' (back here (node k i t b e)),
        )
    followed u v (g_node {p = p} {q = q} {c = c} {d = d} j' r b b' e) =
        let t = (rewrites.nodes (born (arity l + p)) l j').1 (of_g j' r b) in (
          followed_move (g_copy p 0) (g_copy p (suc q)) d c tt tt (on here (node l j' t b' e)),
          followed_move (g_copy p (suc q)) (g_copy p 0) c d tt tt (back here (node l j' t b' e)),
        )

    to_ports : Follows (After N f g k i l j a) (Move M) EndOf
    unfolding Followed
    to_ports = record { forth = λ u v w m t. (followed u v m).0 w t; back' = λ u v w m t. (followed u v m).1 w t }

    -- joined by vertices: joined afterwards, by names
    pub joined_ports : (u v : State (Vertex A)) → IsLasting u.0 → IsLasting v.0 →
        Joined (After N f g k i l j a) u v → Joined (Move M) (named u.0, u.1) (named v.0, v.1)
    unfolding EndOf
    joined_ports u v h h' m =
        let t = follow to_ports m (named v.0, v.1) (v.0, h', here, refl) in
        joined_trans (hop u.0 t.1.0 u.1 h t.1.1 t.1.2) (subst (λ x. Joined (Move M) x (named v.0, v.1)) t.1.3 t.2)

    -- Paths between free ports are the same before a step and after it.
    pub keeps_paths : IsNet M → Suits a k i l j → (p : ℕ) (c : Context) (q : ℕ) (d : Context) →
        Path N (free p) c q d ↔ Path M (free p) c q d
    keeps_paths n' m p c q d = (forth, back'')
      where
        same_name : (x y : A) → (x ≡ y) ⊎ (x ≢ y)
        same_name x y = is_or_is_not same t y x

        off : (n : ℕ) → Off f g (free n)
        off n = record { first = λ e. absurd (cc); second = λ e. absurd (cc) }

        forth : Path N (free p) c q d → Path M (free p) c q d
        forth r =
            let h = (path_is_joined N is_net p c q d).0 r in
            (path_is_joined M n' p c q d).1 (
              h.0,
              joined_ports (old (free p), c) (old (free q), d) tt tt
                  ((same_joined N f g k i l j is_net faces same_name a m (free p, c) (free q, d)
                  (off p) (off q)).0 h.1),
            )

        back'' : Path M (free p) c q d → Path N (free p) c q d
        back'' r =
            let h = (path_is_joined M n' p c q d).0 r in
            (path_is_joined N is_net p c q d).1 (
              h.0,
              (same_joined N f g k i l j is_net faces same_name a m (free p, c) (free q, d) (off p) (off q)).1
                  (joined_vertices (old (free p), c) (old (free q), d) tt tt h.1),
            )
