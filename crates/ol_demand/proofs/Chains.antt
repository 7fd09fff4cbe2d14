-- A chain ends in one way.
use Rattle.std.proofs.Common.{◌≡◌, ℕ, suc, ◌*◌, ◌<◌, inl, inr, refl, sym, subst, arith}
use Rattle.ol_net.specs.declared.parts.Rule.{Rule}
use Rattle.ol_net.specs.Nets.{NamedNet, NamedPort, free, slot, Linked, IsNet, IsPrincipalOf}
use Rattle.ol_context.specs.Contexts.{Context}
use Rattle.ol_context.specs.Paths.{Through, through, Path}
use Rattle.ol_context.specs.Ways.{Way, start, on}
use Rattle.ol_context.specs.Short.{live}
use Rattle.ol_context.proofs.Ways.{way_one, way_exits}
use Rattle.ol_context.proofs.Exits.{Three, three, no_stop}
use Rattle.ol_rules.proofs.FreshPairs.{linked_sym}
use Rattle.ol_rules.proofs.OneRun.{ArePaired}
use Rattle.ol_demand.specs.Chains.{IsAtPair, IsAtNoPair, Chain, starts, crosses, End, met, left, undefined, budget}
use Rattle.ol_demand.specs.Chains.{Stands, at_pair, at_port, barred, at_last, Ends}
use Rattle.ol_demand.proofs.Pairs.{no_free}

-- two ends are the same, but for which of two nodes is given first
abbrev pub Agree : {A : Type 0} → End A → End A → Type 0
Agree (met f g r) (met f' g' r') = ArePaired f g f' g'
Agree (left q X) (left q' X') = (q ≡ q') × (X ≡ X')
Agree undefined undefined = Unit {0}
Agree budget budget = Unit {0}
Agree _ _ = ⊥

module _ {A : Type 0} (N : NamedNet A) where
  -- a chain is a walk
  pub chain_way : {p : ℕ} {c : Context} {n : ℕ} {u : NamedPort A} {d : Context} →
      Chain N p c n u d → Way N (free p) c n u d
  chain_way starts = start
  chain_way (crosses h a b l k x) = on (chain_way h) l k x

  -- after n crossings it made one more
  record Passed (p : ℕ) (c : Context) (n : ℕ) : Type 0 where
    port : NamedPort A
    context : Context
    chain : Chain N p c n port context
    alone : IsAtNoPair N port
    few : n < 2 * live N
    node : A
    at : ℕ
    linked : Linked N port (slot node at)
    out : NamedPort A
    after : Context
    goes : Through N (slot node at) context out after

  passes : {p : ℕ} {c : Context} {m : ℕ} {u : NamedPort A} {d : Context} (n : ℕ) →
      Chain N p c m u d → n < m → Passed p c n
  passes n starts b = absurd (omega arith)
  passes {p = p} {c = c} n (crosses {n = m} {u = u} {d = d} {e = e} {x = x} {s = s} {t = t} h a b' l
      k y) b = go (λ z. passes n h z) (three n m)
    where
      go : (n < m → Passed p c n) → Three n m → Passed p c n
      go before (inl (inl z)) = before z
      go before (inl (inr z)) =
          let P : ℕ → Type 0 = λ n. Passed p c n in
          let r : Passed p c m = record {
            port = u;
            context = d;
            chain = h;
            alone = a;
            few = b';
            node = x;
            at = s;
            linked = l;
            out = slot x t;
            after = e;
            goes = through k y;
          } in
          subst P (sym z) r
      go before (inr z) = absurd (omega arith)

  module _ (is_net : IsNet N) where
    -- where it ends it makes no further crossing
    no_further : {n : ℕ} {u : NamedPort A} {d : Context} {end : End A} → Stands N n u d end →
        IsAtNoPair N u → n < 2 * live N → (x : A) (s : ℕ) → Linked N u (slot x s) →
        (v : NamedPort A) (e : Context) → Through N (slot x s) d v e → ⊥
    no_further (at_pair {f = f} {g = g} {r = r} y) a b x s l v e t = a f g r y
    no_further {u = u} (at_port {q = q} y) a b x s l v e t = let z = is_net.one_link u (free q)
        (slot x s) y l in absurd (cc)
    no_further {u = u} {d = d} (barred {x = x'} {s = s'} y l' w) a b x s l v e t =
        let z = is_net.one_link u (slot x s) (slot x' s') l l' in
        w v e (subst (λ p. Through N p d v e) z t)
    no_further (at_last y l' t' m) a b x s l v e t = absurd (omega arith)

    not_passed : {p : ℕ} {c : Context} (n : ℕ) {u : NamedPort A} {d : Context} {end : End A} →
        Chain N p c n u d → Stands N n u d end → Passed p c n → ⊥
    not_passed n {end = end} h y q =
        let e = way_one N is_net (chain_way h) (chain_way q.chain) in
        let y' : Stands N n q.port q.context end = subst (λ d. Stands N n q.port d end) e.1
        (subst (λ u. Stands N n u _ end) e.0 y) in
        no_further y' q.alone q.few q.node q.at q.linked q.out q.after q.goes

    one_pair : (u : NamedPort A) (f g f' g' : A) (r r' : Rule) → IsAtPair N u f g r →
        IsAtPair N u f' g' r' → ArePaired f g f' g'
    one_pair u f g f' g' r r' a b = go a.principal b.principal
      where
        right : (x y z : A) → Linked N (slot x 0) (slot y 0) → Linked N (slot x 0) (slot z 0) → y ≡ z
        right x y z l k = let e = is_net.one_link (slot x 0) (slot y 0) (slot z 0) l k in cc

        la : Linked N (slot f 0) (slot g 0)
        la = a.active.faces.linked

        lb : Linked N (slot f' 0) (slot g' 0)
        lb = b.active.faces.linked

        go : IsPrincipalOf f g u → IsPrincipalOf f' g' u → ArePaired f g f' g'
        go (inl e) (inl e') = let z : f ≡ f' = cc in
            inl (z, right f' g g' (subst (λ f. Linked N (slot f 0) (slot g 0)) z la) lb)
        go (inl e) (inr e') = let z : f ≡ g' = cc in
            inr (
              z,
              right g' g f' (subst (λ f. Linked N (slot f 0) (slot g 0)) z la)
                  (linked_sym N (slot f' 0) (slot g' 0) lb),
            )
        go (inr e) (inl e') = let z : g ≡ f' = cc in
            inr (
              right f' f g' (subst (λ g. Linked N (slot g 0) (slot f 0)) z
                  (linked_sym N (slot f 0) (slot g 0) la)) lb,
              z,
            )
        go (inr e) (inr e') = let z : g ≡ g' = cc in
            inl (
              right g' f f' (subst (λ g. Linked N (slot g 0) (slot f 0)) z
                  (linked_sym N (slot f 0) (slot g 0) la)) (linked_sym N (slot f' 0) (slot g' 0) lb),
              z,
            )

    unfree : (u : NamedPort A) (q : ℕ) (x : A) (s : ℕ) → Linked N u (free q) → Linked N u (slot x s) → ⊥
    unfree u q x s l k = let e = is_net.one_link u (free q) (slot x s) l k in absurd (cc)

    same_stand : (n : ℕ) (u : NamedPort A) (d : Context) {a b : End A} → Stands N n u d a → Stands N n u d b → Agree a b
    same_stand n u d (at_pair {f = f} {g = g} {r = r} y)
        (at_pair {f = f'} {g = g'} {r = r'} z) = one_pair u f g f' g' r r' y z
    same_stand n u d (at_pair {f = f} {g = g} {r = r} y) (at_port {q = q} z) = absurd (no_free N is_net u q z f g r y)
    same_stand n u d (at_pair {f = f} {g = g} {r = r} y) (barred z l x) = absurd (z f g r y)
    same_stand n u d (at_pair {f = f} {g = g} {r = r} y) (at_last z l x m) = absurd (z f g r y)
    same_stand n u d (at_port {q = q} y) (at_pair {f = f} {g = g} {r = r} z) = absurd (no_free N is_net u q y f g r z)
    same_stand n u d (at_port {q = q} y) (at_port {q = q'} z) = let e = is_net.one_link u (free q)
        (free q') y z in let e' : q ≡ q' = cc in (e', refl)
    same_stand n u d (at_port {q = q} y) (barred {x = x} {s = s} z l b) = absurd (unfree u q x s y l)
    same_stand n u d (at_port {q = q} y) (at_last {x = x} {s = s} z l b m) = absurd (unfree u q x s y l)
    same_stand n u d (barred z l x) (at_pair {f = f} {g = g} {r = r} y) = absurd (z f g r y)
    same_stand n u d (barred {x = x} {s = s} z l b) (at_port {q = q} y) = absurd (unfree u q x s y l)
    same_stand n u d (barred z l x) (barred z' l' x') = tt
    same_stand n u d (barred {x = x} {s = s} z l b) (at_last {x = x'} {s = s'} {v = v} {e = e} z' l' t m) =
        let w = is_net.one_link u (slot x' s') (slot x s) l' l in absurd (b v e (subst (λ p. Through N p d v e) w t))
    same_stand n u d (at_last z l x m) (at_pair {f = f} {g = g} {r = r} y) = absurd (z f g r y)
    same_stand n u d (at_last {x = x} {s = s} z l b m) (at_port {q = q} y) = absurd (unfree u q x s y l)
    same_stand n u d (at_last {x = x'} {s = s'} {v = v} {e = e} z' l' t m) (barred {x = x} {s = s} z l b) =
        let w = is_net.one_link u (slot x' s') (slot x s) l' l in absurd (b v e (subst (λ p. Through N p d v e) w t))
    same_stand n u d (at_last z l x m) (at_last z' l' x' m') = tt

    pub ends_one : (p : ℕ) (c : Context) (a b : End A) → Ends N p c a → Ends N p c b → Agree a b
    ends_one p c a b x y = go (three x.made y.made)
      where
        go : Three x.made y.made → Agree a b
        go (inl (inl z)) = absurd (not_passed x.made x.chain x.stands (passes x.made y.chain z))
        go (inl (inr z)) =
            let h : Chain N p c x.made y.port y.context = subst (λ n. Chain N p c n y.port y.context) (sym z) y.chain in
            let s : Stands N x.made y.port y.context b = subst (λ n. Stands N n y.port y.context b) (sym z) y.stands in
            let e = way_one N is_net (chain_way h) (chain_way x.chain) in
            same_stand x.made x.port x.context x.stands
            (subst (λ d. Stands N x.made x.port d b) e.1 (subst (λ u. Stands N x.made u y.context b) e.0 s))
        go (inr z) = absurd (not_passed y.made y.chain y.stands (passes y.made x.chain z))

    -- where a crossing isn't defined there is no path, and where it leaves there is one
    pub no_path_at : (p : ℕ) (c : Context) → Ends N p c undefined → (q : ℕ) (X : Context) → Path N (free p) c q X → ⊥
    no_path_at p c x q X r = go x.stands refl
      where
        go : {end : End A} → Stands N x.made x.port x.context end → end ≡ undefined → ⊥
        go (at_pair y) e = absurd (cc)
        go (at_port y) e = absurd (cc)
        go (barred {x = z} {s = s} a l b) e =
            no_stop N is_net (free p) c q X r (suc x.made) (suc x.made) (record {
              made = x.made;
              tried = refl;
              within = omega arith;
              stands = record {
                port = x.port;
                context = x.context;
                way = chain_way x.chain;
                node = z;
                at = s;
                linked = l;
              };
              barred = b;
            })
        go (at_last y l t m) e = absurd (cc)

    pub path_at : (p : ℕ) (c : Context) (q : ℕ) (X : Context) → Ends N p c (left q X) → Path N (free p) c q X
    path_at p c q X x = go x.stands refl
      where
        go : {end : End A} → Stands N x.made x.port x.context end → end ≡ left q X → Path N (free p) c q X
        go (at_pair y) e = absurd (cc)
        go (at_port {q = q'} y) e =
            let a : q' ≡ q = cc in
            let b : x.context ≡ X = cc in
            subst (λ q. Path N (free p) c q X) a
            (subst (λ X. Path N (free p) c q' X) b
            (way_exits N x.made x.made q' (chain_way x.chain) y (omega arith)).path)
        go (barred a l b) e = absurd (cc)
        go (at_last y l t m) e = absurd (cc)
