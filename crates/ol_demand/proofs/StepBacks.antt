-- The last crossing of a chain that stands at a principal port, and the walker before it.
use Rattle.std.proofs.Common.{◌≡◌, ℕ, suc, ◌-◌, ◌≤◌, List, refl, sym, subst, arith}
use Rattle.ol_net.specs.declared.parts.Port.{Port}
use Rattle.ol_net.specs.declared.parts.Port.TheVariants.{Free, Of}
use Rattle.ol_net.specs.Graph.{Graph}
use Rattle.ol_net.specs.Nets.{NamedNet, NamedPort, slot, Linked, IsNet, IsPort}
use Rattle.ol_net.specs.Numbered.{numbered_port, net_of}
use Rattle.ol_context.specs.Contexts.{Level, Context}
use Rattle.ol_context.specs.Crossed.{IsNodePort}
use Rattle.ol_context.specs.Paths.{inward, outward, Through, through, IsBarred}
use Rattle.ol_context.specs.Shapes.{AreHeld, context_of}
use Rattle.ol_context.proofs.Ways.{through_one, through_back}
use Rattle.ol_rules.proofs.FreshPairs.{linked_sym}
use Rattle.ol_demand.specs.Chains.{Chain, starts, crosses}
use Rattle.ol_demand.specs.Chaining.{IsAtPrincipal, StepsBack}
use Rattle.ol_demand.specs.declared.answers.Walker.{Walker}

-- the last crossing entered node x by an auxiliary slot
pub record Last {A : Type 0} (N : NamedNet A) (p : ℕ) (c : Context) (n : ℕ) (x : A) (d : Context) : Type 0 where
  pub before : ℕ
  pub made : n ≡ suc before
  pub port : NamedPort A
  pub context : Context
  pub chain : Chain N p c before port context
  pub at : ℕ
  pub linked : Linked N port (slot x (suc at))
  pub goes : Through N (slot x (suc at)) context (slot x 0) d

pub last_of : {A : Type 0} {N : NamedNet A} {p : ℕ} {c : Context} {n : ℕ} {u : NamedPort A}
    {d : Context} (x : A) → Chain N p c n u d → u ≡ slot x 0 → Last N p c n x d
last_of x starts e = absurd (cc)
last_of {N = N} {p = p} {c = c} x
    (crosses {n = n} {u = u} {d = d} {e = e'} {x = y} {k = k} {i = i} h a b l hx (inward {s = s} z w)) e =
    let q : y ≡ x = cc in
    subst (λ x. Last N p c (suc n) x e') q (record {
      before = n;
      made = refl;
      port = u;
      context = d;
      chain = h;
      at = s;
      linked = l;
      goes = through hx (inward z w);
    })
last_of x (crosses {x = y} h a b l hx (outward {s = s} z w)) e =
    absurd (let q : suc s ≡ 0 = cc in omega arith)

pub node_at : (p : Port) (x s : ℕ) (N : NamedNet ℕ) → numbered_port p ≡ slot x s → IsPort N (slot x s) →
    (g : Graph) → N ≡ net_of g → IsNodePort g p
node_at (Free k) x s N e h g z = absurd (cc)
node_at (Of y t) x s N e h g z = subst (λ N. IsPort N (slot y.0 t)) z (subst (λ q. IsPort N q) (sym e) h)

module _ (g : Graph) (is_net : IsNet (net_of g)) (old : List Level) (w : Walker) where
  abbrev N : NamedNet ℕ
  N = net_of g

  module _ (h : IsAtPrincipal g old w) where
    pub last : Last N h.from h.question w.made h.node (context_of old w.context)
    last = last_of h.node h.chain h.at

    pub is_node : IsNodePort g w.at
    is_node = node_at w.at h.node 0 N h.at (port last.goes) g refl
      where
        port : {q : NamedPort ℕ} {d e : Context} → Through N q d (slot h.node 0) e → IsPort N (slot h.node 0)
        port (through {k = k} {i = i} hx y) = (k, i, hx, omega arith)

    pub some_made : 1 ≤ w.made
    some_made = let e = last.made in omega arith

    pub not_barred : IsBarred N (numbered_port w.at) (context_of old w.context) → ⊥
    not_barred b = b (slot h.node (suc last.at)) last.context
        (subst (λ q. Through N q (context_of old w.context) (slot h.node (suc last.at)) last.context) (sym h.at)
        (through_back N (slot h.node (suc last.at)) (slot h.node 0) last.context (context_of old w.context) last.goes))

  -- the crossing back, and the other end of the link there
  module _ (new : List Level) (ns : List ℕ) (r q : Port)
      (y : Through N (numbered_port w.at) (context_of old w.context) (numbered_port r) (context_of new ns))
      (l : Linked N (numbered_port r) (numbered_port q)) where
    back_at : (x : ℕ) → numbered_port w.at ≡ slot x 0 → (p : ℕ) (c : Context) →
        Last N p c w.made x (context_of old w.context) →
        Chain N p c (w.made - 1) (numbered_port q) (context_of new ns)
    back_at x e p c t =
        let back = through_back N (slot x (suc t.at)) (slot x 0) t.context (context_of old w.context) t.goes in
        let here = subst (λ v. Through N v (context_of old w.context) (numbered_port r) (context_of new ns)) e y in
        let z = through_one N is_net back here in
        let m = t.made in
        let n : t.before ≡ w.made - 1 = omega arith in
        let k = subst (λ v. Linked N v (numbered_port q)) (sym z.0) l in
        let u : t.port ≡ numbered_port q = is_net.one_link (slot x (suc t.at)) t.port (numbered_port q)
        (linked_sym N t.port (slot x (suc t.at)) t.linked) k in
        subst (λ n. Chain N p c n (numbered_port q) (context_of new ns)) n
        (subst (λ d. Chain N p c t.before (numbered_port q) d) z.1
        (subst (λ u. Chain N p c t.before u t.context) u t.chain))

    pub steps_back : AreHeld new ns → IsAtPrincipal g old w →
        StepsBack g old w new (record { at = q; context = ns; made = w.made - 1 })
    steps_back b h =
        let t = last h in
        let back = through_back N (slot h.node (suc t.at)) (slot h.node 0) t.context (context_of old w.context) t.goes in
        let here = subst (λ v. Through N v (context_of old w.context) (numbered_port r) (context_of new ns)) h.at y in
        let z = through_one N is_net back here in
        record {
          held = b;
          node = h.node;
          at = t.at;
          linked = linked_sym N (slot h.node (suc t.at)) (numbered_port q)
              (subst (λ v. Linked N v (numbered_port q)) (sym z.0) l);
          chain = λ p c k. back_at h.node h.at p c (last_of h.node k h.at);
        }
