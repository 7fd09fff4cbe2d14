-- A chain up to the pair that it meets is still there after each step of another pair.
use Rattle.std.proofs.Common.{◌≡◌, ℕ, ◌<◌, ◌⊎◌, inl, inr, refl, sym, ap, ◌∙◌, subst, arith}
use Rattle.ol_net.specs.declared.parts.Kind.{Kind}
use Rattle.ol_net.specs.declared.parts.Rule.{Rule}
use Rattle.ol_net.specs.Nets.{NamedNet, NamedPort, free, slot, HasNode, Linked, IsNet, IsPort}
use Rattle.ol_net.specs.Nets.{SameNet, IsPrincipalOf, IsSlotOf, port_under}
use Rattle.ol_context.specs.Contexts.{Context}
use Rattle.ol_context.specs.Ways.{Way}
use Rattle.ol_context.specs.Ways as ways
use Rattle.ol_context.proofs.Ways.{way_one}
use Rattle.ol_rules.proofs.FreshPairs.{linked_sym}
use Rattle.ol_rules.proofs.Same.{active_same}
use Rattle.ol_rules.proofs.Relation.{same_sym}
use Rattle.ol_rules.specs.Rewriting.{IsStep, left}
use Rattle.ol_diamond.proofs.Renaming.{IsRenamed}
use Rattle.ol_demand.specs.Chains.{IsAtPair, IsAtNoPair, Chain, End, met, at_pair, at_port, barred}
use Rattle.ol_demand.specs.Chains.{at_last, Stands, Ends}
use Rattle.ol_demand.specs.Chains as chains
use Rattle.ol_demand.proofs.Staying.{at_f, at_g, not_slot, link_stays, other, alone_stays}
use Rattle.ol_law_completeness.specs.Least.{Clean, starts, crosses, Meets, MeetsNone}

pub clean_of : {A : Type 0} {N : NamedNet A} {p : ℕ} {c : Context} {n : ℕ} {u : NamedPort A}
    {d : Context} → Chain N p c n u d → Clean N p c n u d
clean_of chains.starts = starts
clean_of (chains.crosses h a b l y z) = crosses (clean_of h) a l y z

pub clean_way : {A : Type 0} {N : NamedNet A} {p : ℕ} {c : Context} {n : ℕ} {u : NamedPort A}
    {d : Context} → Clean N p c n u d → Way N (free p) c n u d
clean_way starts = ways.start
clean_way (crosses h a l y z) = ways.on (clean_way h) l y z

-- a chain of any length that comes to a free port
pub record Leaves {A : Type 0} (N : NamedNet A) (p : ℕ) (c : Context) : Type 0 where
  pub made : ℕ
  pub port : NamedPort A
  pub context : Context
  pub clean : Clean N p c made port context
  pub to : ℕ
  pub linked : Linked N port (free to)

pub meets_of : {A : Type 0} {N : NamedNet A} {p : ℕ} {c : Context} {f g : A} {r : Rule} →
    Ends N p c (met f g r) → Meets N p c f g r
meets_of {N = N} {p = p} {c = c} {f = f} {g = g} {r = r} e = go e.stands refl
  where
    go : {end : End _} → Stands N e.made e.port e.context end → end ≡ met f g r → Meets N p c f g r
    go (at_pair {f = f'} {g = g'} {r = r'} y) z =
        let a : f' ≡ f = cc in
        let b : g' ≡ g = cc in
        let d : r' ≡ r = cc in
        record {
          made = e.made;
          port = e.port;
          context = e.context;
          clean = clean_of e.chain;
          at =
              subst (λ f. IsAtPair N e.port f g r) a (subst (λ g. IsAtPair N e.port f' g r) b
              (subst (λ r. IsAtPair N e.port f' g' r) d y));
        }
    go (at_port l) z = absurd (cc)
    go (barred a l b) z = absurd (cc)
    go (at_last a l t b) z = absurd (cc)

pub leaves_of : {A : Type 0} {N : NamedNet A} {p q : ℕ} {c X : Context} →
    Ends N p c (chains.left q X) → Leaves N p c
leaves_of {N = N} {p = p} {q = q} {c = c} {X = X} e = go e.stands refl
  where
    go : {end : End _} → Stands N e.made e.port e.context end → end ≡ chains.left q X → Leaves N p c
    go (at_pair y) z = absurd (cc)
    go (at_port {q = q'} l) z = record {
      made = e.made;
      port = e.port;
      context = e.context;
      clean = clean_of e.chain;
      to = q';
      linked = l;
    }
    go (barred a l b) z = absurd (cc)
    go (at_last a l t b) z = absurd (cc)

module _ {A : Type 0} (N : NamedNet A) (is_net : IsNet N) where
  -- ---- not both

  -- an earlier port of a chain, and where it leads
  record Passed (p : ℕ) (c : Context) (n : ℕ) : Type 0 where
    port : NamedPort A
    context : Context
    clean : Clean N p c n port context
    alone : IsAtNoPair N port
    node : A
    at : ℕ
    linked : Linked N port (slot node at)

  passed : {p : ℕ} {c : Context} {m : ℕ} {u : NamedPort A} {d : Context} (n : ℕ) →
      Clean N p c m u d → n < m → Passed p c n
  passed n starts b = absurd (omega arith)
  passed {p = p} {c = c} n (crosses {n = m} {u = u} {d = d} {x = x} {s = s} h a l y z) b =
      go (λ b'. passed n h b') (three n m)
    where
      three : (n m : ℕ) → ((n < m) ⊎ (m ≡ n)) ⊎ (m < n)
      three n m = grind arith

      go : (n < m → Passed p c n) → ((n < m) ⊎ (m ≡ n)) ⊎ (m < n) → Passed p c n
      go before (inl (inl b')) = before b'
      go before (inl (inr e)) =
          subst (λ n. Passed p c n) e (record {
            port = u;
            context = d;
            clean = h;
            alone = a;
            node = x;
            at = s;
            linked = l;
          })
      go before (inr b') = absurd (omega arith)

  pub pair_link : (u : NamedPort A) (f g : A) (r : Rule) → IsAtPair N u f g r →
      (y : A) × Linked N u (slot y 0)
  pair_link u f g r a = go a.principal
    where
      go : IsPrincipalOf f g u → (y : A) × Linked N u (slot y 0)
      go (inl e) = (g, subst (λ u. Linked N u (slot g 0)) (sym e) a.active.faces.linked)
      go (inr e) = (
        f,
        subst (λ u. Linked N u (slot f 0)) (sym e)
            (linked_sym N (slot f 0) (slot g 0) a.active.faces.linked),
      )

  pub not_both : (p : ℕ) (c : Context) (f g : A) (r : Rule) → Meets N p c f g r → Leaves N p c → ⊥
  not_both p c f g r m l = go (three m.made l.made)
    where
      three : (n m : ℕ) → ((n < m) ⊎ (n ≡ m)) ⊎ (m < n)
      three n m = grind arith

      go : ((m.made < l.made) ⊎ (m.made ≡ l.made)) ⊎ (l.made < m.made) → ⊥
      go (inl (inl b)) =
          let y = passed m.made l.clean b in
          let e = way_one N is_net (clean_way m.clean) (clean_way y.clean) in
          y.alone f g r (subst (λ u. IsAtPair N u f g r) e.0 m.at)
      go (inl (inr b)) =
          let e = way_one N is_net (clean_way m.clean) (subst (λ n.
          Way N (free p) c n l.port l.context) (sym b) (clean_way l.clean)) in
          let t = pair_link l.port f g r (subst (λ u. IsAtPair N u f g r) e.0 m.at) in
          let z = is_net.one_link l.port (free l.to) (slot t.0 0) l.linked t.1 in
          absurd (cc)
      go (inr b) =
          let y = passed l.made m.clean b in
          let e = way_one N is_net (clean_way l.clean) (clean_way y.clean) in
          let z = is_net.one_link y.port (free l.to) (slot y.node y.at)
          (subst (λ u. Linked N u (free l.to)) e.0 l.linked) y.linked in
          absurd (cc)

-- ---- one net however its lists are ordered, and under other names

module _ {A : Type 0} (M N : NamedNet A) (s : SameNet M N) where
  at_same : (u : NamedPort A) (f g : A) (r : Rule) → IsAtPair M u f g r → IsAtPair N u f g r
  at_same u f g r a = record { active = active_same M N s f g r a.active; principal = a.principal }

  alone_same : (u : NamedPort A) → IsAtNoPair M u → IsAtNoPair N u
  alone_same u h f g r a =
      h f g r (record {
        active = active_same N M (same_sym M N s) f g r a.active;
        principal = a.principal;
      })

  clean_same : {p : ℕ} {c : Context} {n : ℕ} {u : NamedPort A} {d : Context} → Clean M p c n u d →
      Clean N p c n u d
  clean_same starts = starts
  clean_same (crosses {u = u} {x = x} {k = k} {i = i} {s = t} h a y z w) =
      crosses (clean_same h) (alone_same u a) ((s.links u (slot x t)).0 y) ((s.nodes x k i).0 z) w

  pub meets_same : (p : ℕ) (c : Context) (f g : A) (r : Rule) → Meets M p c f g r →
      Meets N p c f g r
  meets_same p c f g r m = record {
    made = m.made;
    port = m.port;
    context = m.context;
    clean = clean_same m.clean;
    at = at_same m.port f g r m.at;
  }

module _ {A : Type 0} (M N : NamedNet A) (s : SameNet M N) where
  pub none_same : (p : ℕ) (c : Context) → MeetsNone M p c → MeetsNone N p c
  none_same p c h f g r m = h f g r (meets_same N M (same_sym M N s) p c f g r m)

module _ {A B : Type 0} (m : A → B) (N : NamedNet A) (M : NamedNet B) (is_net : IsNet N)
    (r : IsRenamed m N M) where
  pub at_renamed : (u : NamedPort A) (f g : A) (rule : Rule) → IsAtPair N u f g rule →
      IsAtPair M (port_under m u) (m f) (m g) rule
  at_renamed u f g rule a = record {
    active = record {
      k = a.active.k;
      i = a.active.i;
      l = a.active.l;
      j = a.active.j;
      faces = record {
        first = r.nodes_to f a.active.k a.active.i a.active.faces.first;
        second = r.nodes_to g a.active.l a.active.j a.active.faces.second;
        linked = r.links_to (slot f 0) (slot g 0) a.active.faces.linked;
      };
      fits = a.active.fits;
    };
    principal = go a.principal;
  }
    where
      go : IsPrincipalOf f g u → IsPrincipalOf (m f) (m g) (port_under m u)
      go (inl e) = inl (ap (port_under m) e)
      go (inr e) = inr (ap (port_under m) e)

  -- a node's slot under the name of another node is that node's
  slot_is : (u : NamedPort A) → IsPort N u → (x : A) (k : Kind) (i s : ℕ) → HasNode N x k i →
      port_under m u ≡ slot (m x) s → u ≡ slot x s
  slot_is (free q) h x k i s hx e = absurd (cc)
  slot_is (slot y t) h x k i s hx e =
      let a : m y ≡ m x = cc in
      let b : t ≡ s = cc in
      ap (λ y. slot y t) (r.apart y x h.0 k h.1 i h.2 hx a) ∙ ap (slot x) b

  alone_renamed : (u v : NamedPort A) → Linked N u v → IsAtNoPair N u →
      IsAtNoPair M (port_under m u)
  alone_renamed u v l h F G rule a =
      go (r.nodes_from F a.active.k a.active.i a.active.faces.first)
      (r.nodes_from G a.active.l a.active.j a.active.faces.second)
    where
      port : IsPort N u
      port = (is_net.of_ports u v l).0

      go : (x : A) × HasNode N x a.active.k a.active.i × (F ≡ m x) →
          (x : A) × HasNode N x a.active.l a.active.j × (G ≡ m x) → ⊥
      go (x, hx, ex) (y, hy, ey) =
          h x y rule (record {
            active = record {
              k = a.active.k;
              i = a.active.i;
              l = a.active.l;
              j = a.active.j;
              faces = record { first = hx; second = hy; linked = link };
              fits = a.active.fits;
            };
            principal = principal a.principal;
          })
        where
          link : Linked N (slot x 0) (slot y 0)
          link =
              let t = r.links_from (slot F 0) (slot G 0) a.active.faces.linked in
              let o = is_net.of_ports t.0 t.1 t.2 in
              let e = slot_is t.0 o.0 x a.active.k a.active.i 0 hx (sym t.3
              ∙ ap (λ F. slot F 0) ex) in
              let e' = slot_is t.1 o.1 y a.active.l a.active.j 0 hy (sym t.4
              ∙ ap (λ F. slot F 0) ey) in
              subst (λ p. Linked N p (slot y 0)) e (subst (λ q. Linked N t.0 q) e' t.2)

          principal : IsPrincipalOf F G (port_under m u) → IsPrincipalOf x y u
          principal (inl z) =
              inl (slot_is u port x a.active.k a.active.i 0 hx (z ∙ ap (λ F. slot F 0) ex))
          principal (inr z) =
              inr (slot_is u port y a.active.l a.active.j 0 hy (z ∙ ap (λ F. slot F 0) ey))

  clean_renamed : {p : ℕ} {c : Context} {n : ℕ} {u : NamedPort A} {d : Context} →
      Clean N p c n u d → Clean M p c n (port_under m u) d
  clean_renamed starts = starts
  clean_renamed (crosses {u = u} {x = x} {k = k} {i = i} {s = s} h a l y z) =
      crosses (clean_renamed h) (alone_renamed u (slot x s) l a) (r.links_to u (slot x s) l)
      (r.nodes_to x k i y) z

  pub meets_renamed : (p : ℕ) (c : Context) (f g : A) (rule : Rule) → Meets N p c f g rule →
      Meets M p c (m f) (m g) rule
  meets_renamed p c f g rule t = record {
    made = t.made;
    port = port_under m t.port;
    context = t.context;
    clean = clean_renamed t.clean;
    at = at_renamed t.port f g rule t.at;
  }

  -- ---- and back

  -- the start, or a slot of a node
  abbrev Known : ℕ → NamedPort A → Type 0
  Known p u =
      (u ≡ free p) ⊎ ((x : A) × (k : Kind) × (i : ℕ) × (s : ℕ) × HasNode N x k i × (u ≡ slot x s))

  same_free : (p : ℕ) (v : NamedPort A) → port_under m v ≡ free p → v ≡ free p
  same_free p (free q) e = let z : q ≡ p = cc in ap (λ q. free q) z
  same_free p (slot x s) e = absurd (cc)

  same_port : (p : ℕ) (u v : NamedPort A) → Known p u → IsPort N v →
      port_under m v ≡ port_under m u → v ≡ u
  same_port p u v (inl e) h z = same_free p v (z ∙ ap (port_under m) e) ∙ sym e
  same_port p u v (inr (x, k, i, s, hx, e)) h z = slot_is v h x k i s hx (z ∙ ap (port_under m) e)
      ∙ sym e

  known_is : (p : ℕ) (u : NamedPort A) → Known p u → (x : A) (k : Kind) (i s : ℕ) →
      HasNode N x k i → port_under m u ≡ slot (m x) s → u ≡ slot x s
  known_is p u (inl e) x k i s hx z = let w : free p ≡ slot (m x) s = sym (ap (port_under m) e)
      ∙ z in absurd (cc)
  known_is p u (inr (y, l, j, t, hy, e)) x k i s hx z =
      let w : slot (m y) t ≡ slot (m x) s = sym (ap (port_under m) e) ∙ z in
      let a : m y ≡ m x = cc in
      let b : t ≡ s = cc in
      e ∙ ap (λ y. slot y t) (r.apart y x l k j i hy hx a) ∙ ap (slot x) b

  link_back : (F G : B) (x y : A) (k l : Kind) (i j s t : ℕ) → Linked M (slot F s) (slot G t) →
      HasNode N x k i → HasNode N y l j → F ≡ m x → G ≡ m y → Linked N (slot x s) (slot y t)
  link_back F G x y k l i j s t h hx hy ex ey =
      let z = r.links_from (slot F s) (slot G t) h in
      let o = is_net.of_ports z.0 z.1 z.2 in
      let e = slot_is z.0 o.0 x k i s hx (sym z.3 ∙ ap (λ F. slot F s) ex) in
      let e' = slot_is z.1 o.1 y l j t hy (sym z.4 ∙ ap (λ F. slot F t) ey) in
      subst (λ p. Linked N p (slot y t)) e (subst (λ q. Linked N z.0 q) e' z.2)

  at_back : (p : ℕ) (u : NamedPort A) → Known p u → (F G : B) (rule : Rule) →
      IsAtPair M (port_under m u) F G rule → (f : A) × (g : A) × IsAtPair N u f g rule
  at_back p u h F G rule a =
      let x = r.nodes_from F a.active.k a.active.i a.active.faces.first in
      let y = r.nodes_from G a.active.l a.active.j a.active.faces.second in
      let link =
      link_back F G x.0 y.0 a.active.k a.active.l a.active.i a.active.j 0 0
      a.active.faces.linked x.1 y.1 x.2 y.2 in (
        x.0,
        y.0,
        record {
          active = record {
            k = a.active.k;
            i = a.active.i;
            l = a.active.l;
            j = a.active.j;
            faces = record { first = x.1; second = y.1; linked = link };
            fits = a.active.fits;
          };
          principal = principal x.0 y.0 x.1 y.1 x.2 y.2 a.principal;
        },
      )
    where
      principal : (f g : A) → HasNode N f a.active.k a.active.i →
          HasNode N g a.active.l a.active.j → F ≡ m f → G ≡ m g →
          IsPrincipalOf F G (port_under m u) → IsPrincipalOf f g u
      principal f g hf hg ef eg (inl z) =
          inl (known_is p u h f a.active.k a.active.i 0 hf (z ∙ ap (λ F. slot F 0) ef))
      principal f g hf hg ef eg (inr z) =
          inr (known_is p u h g a.active.l a.active.j 0 hg (z ∙ ap (λ F. slot F 0) eg))

  record Back (p : ℕ) (c : Context) (n : ℕ) (U : NamedPort B) (d : Context) : Type 0 where
    port : NamedPort A
    is : U ≡ port_under m port
    clean : Clean N p c n port d
    known : Known p port

  clean_back : {p : ℕ} {c : Context} {n : ℕ} {U : NamedPort B} {d : Context} → Clean M p c n U d →
      Back p c n U d
  clean_back {p} starts = record { port = free p; is = refl; clean = starts; known = inl refl }
  clean_back {p} (crosses {u = U} {x = x} {k = k} {i = i} {s = s} {t = t} h a l hx y) =
      let b = clean_back h in
      let z = r.nodes_from x k i hx in
      let k1 = r.links_from U (slot x s) l in
      let o = is_net.of_ports k1.0 k1.1 k1.2 in
      let ep = same_port p b.port k1.0 b.known o.0 (sym k1.3 ∙ b.is) in
      let eq = slot_is k1.1 o.1 z.0 k i s z.1 (sym k1.4 ∙ ap (λ x. slot x s) z.2) in
      let link : Linked N b.port (slot z.0 s) =
      subst (λ u. Linked N u (slot z.0 s)) ep (subst (λ v. Linked N k1.0 v) eq k1.2) in
      let alone : IsAtNoPair N b.port =
      λ f g rule w.
      a (m f) (m g) rule (subst (λ U. IsAtPair M U (m f) (m g) rule) (sym b.is)
      (at_renamed b.port f g rule w)) in
      record {
        port = slot z.0 t;
        is = ap (λ x. slot x t) z.2;
        clean = crosses b.clean alone link z.1 y;
        known = inr (z.0, k, i, t, z.1, refl);
      }

  pub none_renamed : (p : ℕ) (c : Context) → MeetsNone N p c → MeetsNone M p c
  none_renamed p c h F G rule t =
      let b = clean_back t.clean in
      let z = at_back p b.port b.known F G rule (subst (λ U. IsAtPair M U F G rule) b.is t.at) in
      h z.0 z.1 rule (record {
        made = t.made;
        port = b.port;
        context = t.context;
        clean = b.clean;
        at = z.2;
      })

-- ---- after a step of another pair

module _ {A : Type 0} (N M : NamedNet A) (born : ℕ → A) (f' g' : A) (r' : Rule) (is_net : IsNet N)
    (is_net' : IsNet M) (step : IsStep born N f' g' r' M) where
  pub clean_stays : {p : ℕ} {c : Context} {n : ℕ} {u : NamedPort A} {d : Context} →
      Clean N p c n u d → (u ≡ slot f' 0 → ⊥) → (u ≡ slot g' 0 → ⊥) →
      Clean M p c n u d × (IsSlotOf f' g' u → ⊥)
  clean_stays {p = p} starts nf ng = (starts, free_out)
    where
      free_out : IsSlotOf f' g' (free p) → ⊥
      free_out (t, inl e) = absurd (cc)
      free_out (t, inr e) = absurd (cc)
  clean_stays (crosses {u = u} {x = x} {k = k} {i = i} {s = s} {t = t} h a l hx y) nf ng =
      let r = clean_stays h (λ e. a f' g' r' (at_f N M born f' g' r' is_net is_net' step u e))
      (λ e. a f' g' r' (at_g N M born f' g' r' is_net is_net' step u e)) in
      let o = other N M born f' g' r' is_net is_net' step u x a l y nf ng in
      let out : (s : ℕ) → IsSlotOf f' g' (slot x s) → ⊥ =
      λ s. not_slot N M born f' g' r' is_net is_net' step x s o.0 o.1 in
      let l' = link_stays N M born f' g' r' is_net is_net' step u (slot x s) l r.1 (out s) in (
        crosses r.0 (alone_stays N M born f' g' r' is_net is_net' step u x k i s a l hx o.0 o.1 l')
            l' ((step.rewrites.nodes x k i).1 (left hx o.0 o.1)) y,
        out t,
      )
