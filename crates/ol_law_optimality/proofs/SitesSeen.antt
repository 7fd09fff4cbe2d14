-- The virtual redexes on the walks of a term's net are met, each at its own site.
use Rattle.std.proofs.Common.{◌≡◌, ℕ, suc, ◌+◌, ◌⊎◌, inl, inr, List, ◌∷◌, length, Some, Option}
use Rattle.std.proofs.Common.{refl, sym, ap, ◌∙◌, arith, subst}
use Rattle.ol_context.proofs.Contexts.{eta, head_eq, tail_eq}
use Rattle.ol_context.proofs.Ways.{through_back, through_one}
use Rattle.ol_context.specs.Contexts.{Level, empty, Context, cons, tail}
use Rattle.ol_context.specs.Paths.{inward, outward, Through, through}
use Rattle.ol_context.specs.Ways.{Way, start, on}
use Rattle.ol_law_edges.specs.Edges.{Joined}
use Rattle.ol_law_edges.specs.Edges as edges
use Rattle.ol_net.specs.Nets.{NamedPort, free, slot, NamedNet, HasNode, Linked, IsNet, port_under}
use Rattle.ol_net.specs.declared.parts.Kind.{Kind}
use Rattle.ol_net.specs.declared.parts.Kind.TheVariants as kind
use Rattle.ol_rules.proofs.FreshPairs.{linked_sym}
use Rattle.ol_rules.proofs.Renaming.{one_port}
use Rattle.ol_law_meaning.proofs.Followed.{St, net}
use Rattle.ol_law_meaning.specs.Sites.{depth, context_at, function_at, abstraction_at}
use Rattle.ol_law_meaning.specs.Spots.{at, place, Edge, Trail}
use Rattle.ol_term.specs.Trees.{Tree}
use Rattle.ol_term.specs.declared.translations.Translation.{Translation}
use Rattle.ol_translate.specs.Names.{HasNames}
use Rattle.ol_translate.specs.Translation.{translation_of}
use Rattle.ol_law_optimality.specs.Redexes.{Carries, put, IsVirtualRedex}
use Rattle.ol_law_optimality.specs.Routes.{Crossing, rise, fall, Row, along, rises, falls, Route}
use Rattle.ol_law_optimality.specs.Seen.{Move, link, node, IsSeen}
use Rattle.ol_law_optimality.proofs.Carrying.{rise_at, fall_at}
use Rattle.ol_law_optimality.specs.Met.{blank}
use Rattle.ol_law_optimality.proofs.Arrived.{Application, from_port, from_function}
use Rattle.ol_law_optimality.proofs.Meeting.{Comes}
use Rattle.ol_law_optimality.proofs.Keys.{one_redex, put_one, levels_of, as_put, as_long}

-- ---- what moves from a free port lead to is on one way

module _ {A : Type 0} (N : NamedNet A) (n : IsNet N) (p : ℕ) (c : Context) where
  pub record IsAlong (u : NamedPort A) (d : Context) : Type 0 where
    pub made : ℕ
    pub port : NamedPort A
    pub way : Way N (free p) c made port d
    pub there : Linked N port u ⊎ (port ≡ u)

  link_along : (u q : NamedPort A) (d : Context) → Linked N u q → IsAlong u d → IsAlong q d
  link_along u q d l a = record { made = a.made; port = a.port; way = a.way; there = by a.there }
    where
      by : Linked N a.port u ⊎ (a.port ≡ u) → Linked N a.port q ⊎ (a.port ≡ q)
      by (inl h) = inr (n.one_link u a.port q (linked_sym N a.port u h) l)
      by (inr e) = inl (subst (λ v. Linked N v q) (sym e) l)

  not_free : {q r : NamedPort A} {d e : Context} (m : ℕ) → Through N q d r e → free m ≡ q → ⊥
  not_free m (through {x = x} {s = s} h y) e = let z : free m ≡ slot x s = e in absurd (cc)

  back_along : {k : ℕ} {v : NamedPort A} {u q : NamedPort A} {d e : Context} →
      Way N (free p) c k v d → v ≡ u → Through N u d q e → IsAlong q e
  back_along start e t = absurd (not_free p t e)
  back_along {q = q} {e = b} (on {n = k} {u = w} {d = a} {e = d} {x = x} {k = K} {i = i} {s = s} {t = r} y l h z) e t =
      let o = through_one N n (through_back N (slot x s) (slot x r) a d (through h z))
      (subst (λ u. Through N u d q b) (sym e) t) in
      record {
        made = k;
        port = w;
        way = subst (λ a. Way N (free p) c k w a) o.1 y;
        there = inl (subst (λ q. Linked N w q) o.0 l);
      }

  on_along : {k : ℕ} {v : NamedPort A} {u q : NamedPort A} {d e : Context} →
      Way N (free p) c k v d → Linked N v u → Through N u d q e → IsAlong q e
  on_along w l (through {x = x} {t = t} h y) = record { made = _; port = slot x t; way = on w l h y; there = inr refl }

  node_along : (u q : NamedPort A) (d e : Context) → Through N u d q e → IsAlong u d → IsAlong q e
  node_along u q d e t a = by a.there
    where
      by : Linked N a.port u ⊎ (a.port ≡ u) → IsAlong q e
      by (inl h) = on_along a.way h t
      by (inr z) = back_along a.way z t

  pub is_along : {v : NamedPort A × Context} → Joined (Move N) (free p, c) v → IsAlong v.0 v.1
  is_along edges.here = record { made = 0; port = free p; way = start; there = inr refl }
  is_along (edges.on j (link {p = q} {q = r} {c = d} l)) = link_along q r d l (is_along j)
  is_along (edges.on j (node {x = x} {s = s} {c = d} {d = e} k i h b z)) = node_along (slot x 0)
      (slot x (suc s)) e d (through h (outward b z)) (is_along j)
  is_along (edges.back j (link {p = q} {q = r} {c = d} l)) = link_along r q d (linked_sym N q r l) (is_along j)
  is_along (edges.back j (node {x = x} {s = s} {c = d} {d = e} k i h b z)) = node_along
      (slot x (suc s)) (slot x 0) d e (through h (inward b z)) (is_along j)

-- ---- a row on which contexts lead on is a way

module _ {A : Type 0} (N : NamedNet A) (n : IsNet N) where
  row_way : {p q r : NamedPort A} {w : List (Crossing A)} {b c d : Context} {k : ℕ} →
      Way N r b k p c → Row N p w q → Carries N c w d →
      (m : ℕ) × (u : NamedPort A) × Way N r b m u d × Linked N u q
  row_way {p = p} {r = r} {b = b} {k = k} y (along l) e = (k, p, subst (λ c. Way N r b k p c) e y, l)
  row_way {w = rise x s ∷ w} {c = c} {d = d} y (rises k i l h low row) t =
      let a = rise_at N n x k i h s w c d t in
      row_way (on y l h (inward low refl)) row a.1
  row_way {w = fall x s ∷ w} {c = c} {d = d} y (falls k i l h low row) t =
      let a = fall_at N n x k i h s w c d t in
      row_way (on y l h (outward low a.2)) row a.3

-- ---- a net under other names

pub record IsNamed {B : Type 0} (m : ℕ → B) (N : NamedNet ℕ) (M : NamedNet B) : Type 0 where
  pub one : (x y : ℕ) → m x ≡ m y → x ≡ y
  pub nodes : (y : B) (k : Kind) (i : ℕ) → HasNode M y k i → (x : ℕ) × HasNode N x k i × (y ≡ m x)
  pub links : (P Q : NamedPort B) → Linked M P Q →
      (p q : NamedPort ℕ) × (P ≡ port_under m p) × (Q ≡ port_under m q) × Linked N p q

module _ {B : Type 0} (m : ℕ → B) (N : NamedNet ℕ) (M : NamedNet B) (I : IsNamed m N M) where
  link_named : (P : NamedPort B) (p q : NamedPort ℕ) (Q : NamedPort B) → P ≡ port_under m p →
      Q ≡ port_under m q → Linked M P Q → Linked N p q
  link_named P p q Q e f l =
      let t = I.links P Q l in
      subst (λ q. Linked N p q) (one_port m I.one t.1 q (sym t.3 ∙ f))
      (subst (λ p. Linked N p t.1) (one_port m I.one t.0 p (sym t.2 ∙ e)) t.4)

  way_named : {P : NamedPort B} {c : Context} {k : ℕ} {U : NamedPort B} {d : Context} →
      Way M P c k U d → (p : NamedPort ℕ) → P ≡ port_under m p →
      (u : NamedPort ℕ) × (U ≡ port_under m u) × Way N p c k u d
  way_named start p e = (p, e, start)
  way_named (on {u = U} {x = X} {k = K} {i = i} {s = s} {t = t} w l h y) p e =
      let r = way_named w p e in
      let x = I.nodes X K i h in (
        slot x.0 t,
        ap (λ x. slot x t) x.2,
        on r.2 (link_named U r.0 (slot x.0 s) (slot X s) r.1 (ap (λ x. slot x s) x.2) l) x.1 y,
      )

-- ---- what is seen is met

module _ {B : Type 0} (m : ℕ → B) (M : NamedNet B) (n : IsNet M) (τ : Translation) (t : Tree)
    (names : ℕ) (h : HasNames t names) (I : IsNamed m (translation_of τ t names) M) where
  abbrev N : NamedNet ℕ
  N = translation_of τ t names

  -- the site at which a walk comes to a virtual redex
  pub record MetAt (s : Route B) (V : IsVirtualRedex M s) (p : ℕ) (c : Context) : Type 0 where
    pub node : ℕ
    pub from_is : s.from ≡ m node
    pub context : Context
    pub at_site : Application τ t names node context
    pub begin_is : V.begin ≡ levels_of at_site.site
    pub comes : Comes τ t (at (place p) (c 0) (tail c)) at_site.site
    pub stands : (w : Level) (e : Context) →
        St τ t names h (function_at at_site.site w e) (at_site.port, context_at at_site.site (cons w e))

  one_index : (x i j : ℕ) (K : Kind) → HasNode N x K i → HasNode N x K j → i ≡ j
  one_index x i j K a b = ((net τ t names h).one_node x K K i j a b).1

  module _ (s : Route B) (p : ℕ) (c : Context) (S : IsSeen M p c s) where
    pub met_at : MetAt s S.redex p c
    met_at = go (I.nodes s.from kind.App S.redex.route.i S.redex.route.application)
        (I.nodes s.to kind.Lam S.redex.route.j S.redex.route.abstraction) (is_along M n p c S.on_walk)
      where
        ahead : (x : ℕ) (u : NamedPort ℕ) (U : NamedPort B) → U ≡ port_under m u → s.from ≡ m x →
            Linked M U (slot s.from 0) ⊎ (U ≡ slot s.from 0) → Linked N u (slot x 0) ⊎ (u ≡ slot x 0)
        ahead x u U e f (inl l) = inl (link_named m N M I U u (slot x 0) (slot s.from 0) e (ap (λ x. slot x 0) f) l)
        ahead x u U e f (inr q) = inr (one_port m I.one u (slot x 0) (sym e ∙ q ∙ ap (λ x. slot x 0) f))

        go : (x : ℕ) × HasNode N x kind.App S.redex.route.i × (s.from ≡ m x) →
            (y : ℕ) × HasNode N y kind.Lam S.redex.route.j × (s.to ≡ m y) →
            IsAlong M n p c (slot s.from 0) (put S.redex.begin S.rest) → MetAt s S.redex p c
        go (x, a, f) (y, b, g) w =
            let W = way_named m N M I w.way (free p) refl in
            let k = from_port τ t names h x S.redex.route.i W.2 a (ahead x W.0 w.port W.1 f w.there) in
            let site = k.at_site.site in
            let long : length S.redex.begin ≡ length (levels_of site) = S.redex.begin_is
            ∙ one_index x S.redex.route.i (depth site) kind.App a k.at_site.index ∙ sym (as_long site) in
            let same : put S.redex.begin S.rest ≡ put (levels_of site)
            (cons k.at_site.level k.at_site.later) = k.at_site.same
            ∙ as_put site (cons k.at_site.level k.at_site.later) in
            let begin = (put_one S.redex.begin (levels_of site) S.rest
            (cons k.at_site.level k.at_site.later) long same).0 in
            let first : put S.redex.begin blank ≡ context_at site (cons empty blank) = ap
            (λ vs. put vs blank) begin ∙ sym (as_put site blank) ∙ ap (context_at site) (sym (eta blank)) in
            let r = row_way M n {r = slot s.from 0} {b = put S.redex.begin blank} start
            S.redex.route.row (S.redex.carries blank) in
            let R = way_named m N M I r.2 (slot x 0) (ap (λ x. slot x 0) f) in
            let R' = subst (λ c. Way N (slot x 0) c r.0 R.0 (put S.redex.last blank)) first R.2 in
            let l : Linked N R.0 (slot y 0) = link_named m N M I r.1 R.0 (slot y 0)
            (slot s.to 0) R.1 (ap (λ y. slot y 0) g) r.3 in
            let z = from_function τ t names h x y S.redex.route.j k empty blank R' b l in
            let q = z.3.site in
            let long' : length S.redex.last ≡ length (levels_of q) = S.redex.last_is
            ∙ one_index y S.redex.route.j (0 + depth q) kind.Lam b z.3.there
            ∙ (let e : 0 + depth q ≡ depth q = omega arith in e) ∙ sym (as_long q) in
            let same' : put S.redex.last blank ≡ put (levels_of q)
            (cons z.3.level z.3.later) = z.3.same ∙ as_put q (cons z.3.level z.3.later) in
            let ends : blank ≡ cons z.3.level z.3.later = (put_one S.redex.last (levels_of q) blank
            (cons z.3.level z.3.later) long' same').1 in
            let ends' : cons empty blank ≡ cons z.3.level z.3.later = eta blank ∙ ends in
            let at_end = z.3.is_spot ∙ ap (λ v. abstraction_at q v z.3.later)
            (sym (head_eq empty z.3.level blank z.3.later ends'))
            ∙ ap (abstraction_at q empty) (sym (tail_eq empty z.3.level blank z.3.later ends')) in
            record {
              node = x;
              from_is = f;
              context = put S.redex.begin S.rest;
              at_site = k.at_site;
              begin_is = begin;
              stands = k.stands;
              comes = record {
                matched = record {
                  function = k.at_site.function;
                  argument = k.at_site.argument;
                  is = k.at_site.is;
                  other = q;
                  inner = z.3.inner;
                  is_other = z.3.is;
                  weight = z.1;
                  trail = subst (λ s. Trail (Edge τ t) (function_at site empty blank) s z.1) at_end z.2;
                };
                level = k.at_site.level;
                later = k.at_site.later;
                steps = k.weight;
                way = k.trail;
              };
            }

  -- no two of them at one site
  pub one_route : (s s' : Route B) (V : IsVirtualRedex M s) (V' : IsVirtualRedex M s') (p p' : ℕ)
      (c c' : Context) (a : MetAt s V p c) (b : MetAt s' V' p' c') → a.at_site.site ≡ b.at_site.site → s ≡ s'
  one_route s s' V V' p p' c c' a b e =
      let site = a.at_site.site in
      let x = a.stands empty blank in
      let y : St τ t names h (function_at site empty blank)
      (b.at_site.port, context_at site (cons empty blank)) = subst
      (λ q. St τ t names h (function_at q empty blank)
      (b.at_site.port, context_at q (cons empty blank))) (sym e) (b.stands empty blank) in
      let one : ◌≡◌ {A = Option (NamedPort ℕ × Context)}
      (Some (a.at_site.port, context_at site (cons empty blank)))
      (Some (b.at_site.port, context_at site (cons empty blank))) = sym x.is ∙ y.is in
      let pair : ◌≡◌ {A = NamedPort ℕ × Context}
      (a.at_site.port, context_at site (cons empty blank))
      (b.at_site.port, context_at site (cons empty blank)) = cc in
      let port = ap (λ (u : NamedPort ℕ × Context). u.0) pair in
      let l = linked_sym N (slot a.node 0) a.at_site.port a.at_site.linked in
      let l' : Linked N a.at_site.port (slot b.node 0) = subst (λ q. Linked N q (slot b.node 0))
      (sym port) (linked_sym N (slot b.node 0) b.at_site.port b.at_site.linked) in
      let z : slot a.node 0 ≡ slot b.node 0 = (net τ t names h).one_link a.at_site.port
      (slot a.node 0) (slot b.node 0) l l' in
      let node : a.node ≡ b.node = cc in
      one_redex M n s s' V V' (a.from_is ∙ ap m node ∙ sym b.from_is) (a.begin_is ∙ ap levels_of e ∙ sym b.begin_is)
