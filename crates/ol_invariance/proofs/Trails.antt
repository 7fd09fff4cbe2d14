-- From a free port, a state is joined exactly where a path comes to it.
use Rattle.std.proofs.Common.{◌≡◌, ℕ, zero, suc, Bool, true, false, ◌⊎◌, ◌↔◌, inl, inr, refl, sym, ap, subst, arith}
use Rattle.ol_context.proofs.Ways.{through_back, through_one, path_way, way_on}
use Rattle.ol_context.specs.Contexts.{Context}
use Rattle.ol_context.specs.Paths.{Crosses, inward, outward, Through, through, Path, ends, goes, crossings}
use Rattle.ol_context.specs.Ways.{Way, start, on}
use Rattle.ol_law_edges.proofs.Joining.{joined_trans}
use Rattle.ol_law_edges.specs.Edges.{Joined, here}
use Rattle.ol_law_edges.specs.Edges as edges
use Rattle.ol_invariance.proofs.Moves.{State, Move, link, node}
use Rattle.ol_net.specs.Nets.{NamedPort, free, slot, NamedNet, Linked, IsNet}
use Rattle.ol_net.specs.declared.parts.Kind.{Kind}
use Rattle.ol_rules.proofs.FreshPairs.{linked_sym}

module _ {A : Type 0} (N : NamedNet A) where
  -- from u by links and nodes in turn; true: by a node last, or not yet at all
  data Trail (u : State (NamedPort A)) : Bool → State (NamedPort A) → Type 0 where
    none : Trail u true u
    by_link : {p q : NamedPort A} {c : Context} → Trail u true (p, c) → Linked N p q → Trail u false (q, c)
    by_node : {p q : NamedPort A} {c d : Context} → Trail u false (p, c) → Through N p c q d → Trail u true (q, d)

  through_joined : {p q : NamedPort A} {c d : Context} → Through N p c q d → Joined (Move N) (p, c) (q, d)
  through_joined (through {k = k} {i = i} h (inward b e)) = edges.back here (node k i h b e)
  through_joined (through {k = k} {i = i} h (outward b e)) = edges.on here (node k i h b e)

  pub path_joined : {p : NamedPort A} {c d : Context} {q : ℕ} → Path N p c q d → Joined (Move N) (p, c) (free q, d)
  path_joined (ends l) = edges.on here (link l)
  path_joined (goes l h x r) = joined_trans
      (joined_trans (edges.on here (link l)) (through_joined (through h x))) (path_joined r)

  through_goes : {r s : NamedPort A} {c d : Context} → Through N r c s d →
      (p : NamedPort A) (q : ℕ) (e : Context) → Linked N p r → Path N s d q e → Path N p c q e
  through_goes (through h x) p q e l r = goes l h x r

  trail_path : {u v : State (NamedPort A)} {b : Bool} → Trail u b v → (q : ℕ) (d : Context) →
      (b ≡ true → Path N v.0 v.1 q d → Path N u.0 u.1 q d)
      × (b ≡ false → (r : NamedPort A) (e : Context) → Through N v.0 v.1 r e → Path N r e q d → Path N u.0 u.1 q d)
  trail_path none q d = (λ e r. r, λ e. absurd (cc))
  trail_path (by_link {p = p} t l) q d = (
    λ e. absurd (cc),
    λ e s z x r. (trail_path t q d).0 refl (through_goes x p q d l r),
  )
  trail_path (by_node {q = s} {d = z} t x) q d = (λ e r. (trail_path t q d).1 refl s z x r, λ e. absurd (cc))

  through_not_free : {p q : NamedPort A} {c d : Context} → Through N p c q d → (n : ℕ) → p ≡ free n → ⊥
  through_not_free (through {x = x} {s = s} h y) n e = let r : slot x s ≡ free n = e in absurd (cc)

  crosses_apart : {k : Kind} {i s t : ℕ} {c d : Context} → Crosses k i s c t d → s ≡ t → ⊥
  crosses_apart (inward {s = s} b e) q = let z : suc s ≡ 0 = q in absurd (omega arith)
  crosses_apart (outward {s = s} b e) q = let z : 0 ≡ suc s = q in absurd (omega arith)

  -- the first crossing of a way, and the way on from there
  record First (n : ℕ) (p : NamedPort A) (c : Context) (u : NamedPort A) (d : Context) : Type 0 where
    port : NamedPort A
    out : NamedPort A
    after : Context
    linked : Linked N p port
    goes_through : Through N port c out after
    rest : Way N out after n u d

  first_of : (n : ℕ) {p u : NamedPort A} {c d : Context} → Way N p c (suc n) u d → First n p c u d
  first_of zero (on {e = e} {x = x} {s = s} {t = t} start l h y) = record {
    port = slot x s;
    out = slot x t;
    after = e;
    linked = l;
    goes_through = through h y;
    rest = start;
  }
  first_of (suc n) (on {u = u} {x = x} {s = s} w l h y) =
      let r = first_of n w in
      record {
        port = r.port;
        out = r.out;
        after = r.after;
        linked = r.linked;
        goes_through = r.goes_through;
        rest = way_on N r.rest l (through h y);
      }

  module _ (is_net : IsNet N) where
    -- one more move stays on the trail
    trail_through : {n : ℕ} {c : Context} {b : Bool} {p q : NamedPort A} {d e : Context} →
        Trail (free n, c) b (p, d) → Through N p d q e → (b' : Bool) × Trail (free n, c) b' (q, e)
    trail_through {n} {c} none x = absurd (through_not_free x n refl)
    trail_through (by_link t l) x = (true, by_node (by_link t l) x)
    trail_through {n} {c} {q = q} {d = d} (by_node {p = r} {q = p} {c = z} t y) x =
        let o = through_one N is_net (through_back N r p z d y) x in
        (false, subst (λ z. Trail (free n, c) false (q, z)) o.1 (subst (λ r. Trail (free n, c) false (r, z)) o.0 t))

    trail_link : {n : ℕ} {c : Context} {b : Bool} {p : NamedPort A} {d : Context} →
        Trail (free n, c) b (p, d) → (q : NamedPort A) → Linked N p q → (b' : Bool) × Trail (free n, c) b' (q, d)
    trail_link none q l = (false, by_link none l)
    trail_link (by_node t y) q l = (false, by_link (by_node t y) l)
    trail_link {n} {c} (by_link {p = r} {q = p} {c = d} t l') q l = (
      true,
      subst (λ z. Trail (free n, c) true (z, d)) (is_net.one_link p r q (linked_sym N r p l') l) t,
    )

    joined_trail : {n : ℕ} {c : Context} {v : State (NamedPort A)} → Joined (Move N) (free n, c) v →
        (b : Bool) × Trail (free n, c) b v
    joined_trail here = (true, none)
    joined_trail (edges.on j (link {q = q} l)) = trail_link (joined_trail j).1 q l
    joined_trail (edges.on j (node k i h b e)) = trail_through (joined_trail j).1 (through h (outward b e))
    joined_trail (edges.back j (link {p = p} {q = q} l)) = trail_link (joined_trail j).1 p (linked_sym N p q l)
    joined_trail (edges.back j (node k i h b e)) = trail_through (joined_trail j).1 (through h (inward b e))

    -- a trail to a free port ends in a link
    last_link : {u v : State (NamedPort A)} {b : Bool} → Trail u b v → (q : ℕ) (d : Context) →
        v ≡ (free q, d) → (u ≡ (free q, d)) ⊎ Path N u.0 u.1 q d
    last_link none q d e = inl e
    last_link (by_node {p = p} {q = r} {c = c} {d = z} t y) q d e = absurd
        (through_not_free (through_back N p r c z y) q (ap (λ (u : State (NamedPort A)). u.0) e))
    last_link {u} (by_link {p = p} {q = r} {c = c} t l) q d e = inr ((trail_path t q d).0 refl
        (subst (λ z. Path N p c q z) (ap (λ (u : State (NamedPort A)). u.1) e)
        (ends (subst (λ z. Linked N p z) (ap (λ (u : State (NamedPort A)). u.0) e) l))))

    pub joined_path : (p : ℕ) (c : Context) (q : ℕ) (d : Context) →
        Joined (Move N) (free p, c) (free q, d) →
        (◌≡◌ {A = State (NamedPort A)} (free p, c) (free q, d)) ⊎ Path N (free p) c q d
    joined_path p c q d j = last_link (joined_trail j).1 q d refl

    -- no way comes back to the link that it left by
    pub no_return : (n : ℕ) {p u : NamedPort A} {c d : Context} → Way N p c n u d → Linked N p u → c ≡ d → ⊥
    no_return zero {p} start l e = is_net.apart p l
    no_return (suc zero) {p} (on {x = x} {s = s} {t = t} start l h y) m e =
        let q : slot x s ≡ slot x t = is_net.one_link p (slot x s) (slot x t) l m in
        crosses_apart y (cc)
    no_return (suc (suc n)) {p} {c = c} {d = z} (on {u = u} {d = d} {x = x} {s = s} {t = t} w l h y) m e =
        let r = first_of n w in
        let same : slot x t ≡ r.port = is_net.one_link p (slot x t) r.port m r.linked in
        let away : Through N (slot x t) c r.out r.after = subst (λ v. Through N v c r.out r.after)
        (sym same) r.goes_through in
        let home : Through N (slot x t) c (slot x s) d = subst
        (λ z. Through N (slot x t) z (slot x s) d) (sym e)
        (through_back N (slot x s) (slot x t) d z (through h y)) in
        let meet = through_one N is_net home away in
        no_return n r.rest (subst (λ v. Linked N v u) meet.0 (linked_sym N u (slot x s) l)) (sym meet.1)

    pub no_loop : (p : ℕ) (c : Context) → Path N (free p) c p c → ⊥
    no_loop p c r = let t = path_way N r in no_return (crossings r) t.1 (linked_sym N t.0 (free p) t.2) refl

    -- a path is a way of moves that ends elsewhere
    pub path_is_joined : (p : ℕ) (c : Context) (q : ℕ) (d : Context) →
        Path N (free p) c q d ↔ ((◌≡◌ {A = State (NamedPort A)} (free p, c) (free q, d)) → ⊥)
        × Joined (Move N) (free p, c) (free q, d)
    path_is_joined p c q d = (λ r. (λ e. loops e r, path_joined r), λ h. choose (joined_path p c q d h.1) h.0)
      where
        loops : (◌≡◌ {A = State (NamedPort A)} (free p, c) (free q, d)) → Path N (free p) c q d → ⊥
        loops e r =
            let e0 : free p ≡ free q = ap (λ (u : State (NamedPort A)). u.0) e in
            let e1 : c ≡ d = ap (λ (u : State (NamedPort A)). u.1) e in
            let n : p ≡ q = cc in
            no_loop q d (subst (λ n. Path N (free n) d q d) n (subst (λ c. Path N (free p) c q d) e1 r))

        choose : (◌≡◌ {A = State (NamedPort A)} (free p, c) (free q, d)) ⊎ Path N (free p) c q d →
            ((◌≡◌ {A = State (NamedPort A)} (free p, c) (free q, d)) → ⊥) → Path N (free p) c q d
        choose (inl e) n = absurd (n e)
        choose (inr r) n = r
