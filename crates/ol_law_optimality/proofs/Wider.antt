-- What a walk that asks the root of a levelled net sees is seen by the walk that asks for more abstractions; and no
-- more is seen so, where the first one leaves.
use Rattle.std.proofs.Common.{◌≡◌, ℕ, zero, suc, ◌+◌, ◌-◌, ◌<◌, ◌≤◌, ◌⊎◌, inl, inr, [], length, refl, sym, ap, ◌∙◌}
use Rattle.std.proofs.Common.{arith, subst}
use Rattle.ol_context.proofs.Contexts.{eta, injective}
use Rattle.ol_context.proofs.Ways.{path_way, way_one, way_passes, ended}
use Rattle.ol_context.specs.Asked.{os, asked}
use Rattle.ol_context.specs.Contexts.{Level, empty, o, Context, cons, tail, up}
use Rattle.ol_context.specs.Paths.{Path, crossings, inward, outward}
use Rattle.ol_context.specs.Ways.{Way, start, on}
use Rattle.ol_law_edges.specs.Edges.{Joined}
use Rattle.ol_law_edges.specs.Edges as edges
use Rattle.ol_law_optimality.proofs.SitesSeen.{IsAlong, is_along}
use Rattle.ol_law_levels.specs.Levels.{IsLevelled}
use Rattle.ol_law_meaning.proofs.Walking.{least_or, os_sum}
use Rattle.ol_net.specs.Nets.{NamedPort, free, slot, NamedNet, HasNode, Linked, IsNet}
use Rattle.ol_net.specs.Parts.{arity}
use Rattle.ol_net.specs.declared.parts.Kind.{Kind}
use Rattle.ol_net.specs.declared.parts.Kind.TheVariants as kind
use Rattle.ol_law_optimality.specs.Redexes.{put}
use Rattle.ol_law_optimality.specs.Routes.{Route}
use Rattle.ol_law_optimality.specs.Seen.{Move, link, node, IsOnWalk, IsSeen}
use Rattle.ol_law_optimality.proofs.Untouched.{Held, step_up, step_down, same_low}

-- ---- a way, for all contexts with which it could begin

module _ {A : Type 0} (N : NamedNet A) (L : IsLevelled N) where
  pub linked_held : (p q : NamedPort A) (F : Context → Context) → Linked N p q → Held (L.depth p) F →
      Held (L.depth q) F
  linked_held p q F l H = subst (λ n. Held n F) (L.links p q l).0 H

  pub risen_held : (x : A) (k : Kind) (i s : ℕ) → HasNode N x k i → s < arity k → (F : Context → Context) →
      Held (L.depth (slot x (suc s))) F → Held (L.depth (slot x 0)) (λ c. up k i s (F c))
  risen_held x k i s h low F H = step_up k i s (L.depth (slot x 0)) (L.is_out (slot x 0)) (L.stands x k i h) low F
      (subst (λ n. Held n F) (L.beside x k i s h low).0 H)

  -- back through a node, and what one comes to with the context that was given
  pub record Fallen (x : A) (k : Kind) (i s : ℕ) (F : Context → Context) (c0 b : Context) : Type 0 where
    pub family : Context → Context
    pub held : Held (L.depth (slot x (suc s))) family
    pub there : family c0 ≡ b
    pub all : (c : Context) → up k i s (family c) ≡ F c

  pub fallen_held : (x : A) (k : Kind) (i s : ℕ) → HasNode N x k i → s < arity k → (F : Context → Context) →
      Held (L.depth (slot x 0)) F → (c0 b : Context) → c0 0 ≡ empty → up k i s b ≡ F c0 → Fallen x k i s F c0 b
  fallen_held x k i s h low F H c0 b z q =
      let d = step_down k i s (L.depth (slot x 0)) (L.is_out (slot x 0)) (L.stands x k i h) low F H c0 b z q in
      record {
        family = d.family;
        held = subst (λ n. Held n d.family) (sym (L.beside x k i s h low).0) d.held;
        there = (injective k i s s (d.family c0) b low low (d.all c0 ∙ sym q)).1;
        all = d.all;
      }

  pub record Passed (p : NamedPort A) (F : Context → Context) (c0 : Context) (m : ℕ) (u : NamedPort A) (d : Context) :
      Type 0 where
    pub family : Context → Context
    pub held : Held (L.depth u) family
    pub there : family c0 ≡ d
    pub way : (c : Context) → Way N p (F c) m u (family c)

  pub passed : (c0 : Context) → c0 0 ≡ empty → (p : NamedPort A) (F : Context → Context) → Held (L.depth p) F →
      {m : ℕ} {u : NamedPort A} {d : Context} → Way N p (F c0) m u d → Passed p F c0 m u d
  passed c0 z p F H start = record { family = F; held = H; there = refl; way = λ c. start }
  passed c0 z p F H (on {u = u} {x = x} {k = k} {i = i} w l h (inward {s = s} low e)) =
      let r = passed c0 z p F H w in
      record {
        family = λ c. up k i s (r.family c);
        held = risen_held x k i s h low r.family (linked_held u (slot x (suc s)) r.family l r.held);
        there = ap (up k i s) r.there ∙ e;
        way = λ c. on (r.way c) l h (inward low refl);
      }
  passed c0 z p F H (on {u = u} {x = x} {k = k} {i = i} w l h (outward {s = s} {c = b} low e)) =
      let r = passed c0 z p F H w in
      let f = fallen_held x k i s h low r.family (linked_held u (slot x 0) r.family l r.held) c0 b z (e ∙ sym r.there) in
      record {
        family = f.family;
        held = f.held;
        there = f.there;
        way = λ c. on (r.way c) l h (outward low (f.all c));
      }

  -- from the root, with some marks o
  abbrev pub asking : ℕ → Context → Context
  asking m c = cons (os m (c 0)) (tail c)

  pub asking_held : (m : ℕ) → Held (L.depth (free 0)) (asking m)
  asking_held m = record {
    low = [];
    long = sym L.root.0;
    mid = [];
    starred = tt;
    marks = m;
    is = λ c. refl;
  }

-- ---- what is on a walk

module _ {A : Type 0} (N : NamedNet A) where
  moves_of : {p : ℕ} {c : Context} {m : ℕ} {u : NamedPort A} {d : Context} → Way N (free p) c m u d →
      Joined (Move N) (free p, c) (u, d)
  moves_of start = edges.here
  moves_of (on {k = k} {i = i} w l h (inward low e)) =
      edges.back (edges.on (moves_of w) (link l)) (node k i h low e)
  moves_of (on {k = k} {i = i} w l h (outward low e)) =
      edges.on (edges.on (moves_of w) (link l)) (node k i h low e)

  pub on_walk : (n : IsNet N) (p : ℕ) (c : Context) (u : NamedPort A) (d : Context) → IsAlong N n p c u d →
      IsOnWalk N p c u d
  on_walk n p c u d a = by a.there
    where
      by : Linked N a.port u ⊎ (a.port ≡ u) → Joined (Move N) (free p, c) (u, d)
      by (inl l) = edges.on (moves_of a.way) (link l)
      by (inr e) = subst (λ u. Joined (Move N) (free p, c) (u, d)) e (moves_of a.way)

-- the levels of a question after the first
abbrev pub rest : Context
rest = tail (asked [] 0)

pub asked_is : (m k : ℕ) → cons (os m (os k empty)) rest ≡ asked [] (m + k)
asked_is m k = ap (λ v. cons v rest) (os_sum m k empty) ∙ eta (asked [] (m + k))

pub asked_first : (m : ℕ) → cons (os m empty) rest ≡ asked [] m
asked_first m = eta (asked [] m)

module _ {A : Type 0} (N : NamedNet A) (n : IsNet N) (L : IsLevelled N) where
  same_depth : (p q : NamedPort A) → Linked N p q ⊎ (p ≡ q) → L.depth p ≡ L.depth q
  same_depth p q (inl l) = (L.links p q l).0
  same_depth p q (inr e) = ap L.depth e

  begin_depth : (p : ℕ) (c : Context) (s : Route A) (S : IsSeen N p c s) →
      length S.redex.begin ≡ L.depth (slot s.from 0)
  begin_depth p c s S = S.redex.begin_is ∙ (L.stands s.from kind.App S.redex.route.i S.redex.route.application).0

  -- What a walk sees that begins with some levels over an empty one, it sees whatever stands there.
  pub asked_otherwise : (p : ℕ) (F : Context → Context) → Held (L.depth (free p)) F → (c0 c : Context) → c0 0 ≡ empty →
      (s : Route A) → IsSeen N p (F c0) s → IsSeen N p (F c) s
  asked_otherwise p F H c0 c z s S =
      let a = is_along N n p (F c0) S.on_walk in
      let w = passed N L c0 z (free p) F H a.way in
      let x = same_low w.family S.redex.begin (subst (λ n. Held n w.family) (same_depth a.port (slot s.from 0) a.there
      ∙ sym (begin_depth p (F c0) s S)) w.held) c0 S.rest c w.there in
      record {
        redex = S.redex;
        rest = x.0;
        on_walk = on_walk N n p (F c) (slot s.from 0) (put S.redex.begin x.0) (record {
          made = a.made;
          port = a.port;
          way = subst (λ d. Way N (free p) (F c) a.made a.port d) x.1 (w.way c);
          there = a.there;
        });
      }

  -- from the root
  pub root_otherwise : (m : ℕ) (c0 c : Context) → c0 0 ≡ empty → (s : Route A) → IsSeen N 0 (asking N L m c0) s →
      IsSeen N 0 (asking N L m c) s
  root_otherwise m c0 c z s S = asked_otherwise 0 (asking N L m) (asking_held N L m) c0 c z s S

  -- asked for more
  pub wider : (m k : ℕ) (s : Route A) → m ≤ k → IsSeen N 0 (asked [] m) s → IsSeen N 0 (asked [] k) s
  wider m k s low S =
      let c1 = cons (os (k - m) empty) rest in
      let same : m + (k - m) ≡ k = omega (arith, low) in
      subst (λ c. IsSeen N 0 c s) (asked_is m (k - m) ∙ ap (asked []) same)
      (root_otherwise m (cons empty rest) c1 refl s (subst (λ c. IsSeen N 0 c s) (sym (asked_first m)) S))

  -- ---- the front of a walk

  front : {p : NamedPort A} {c : Context} {t : ℕ} {u : NamedPort A} {d : Context} (m : ℕ) → Way N p c t u d →
      (m < t) ⊎ (m ≡ t) → (v : NamedPort A) × (e : Context) × Way N p c m v e
  front m w (inl low) = let x = (way_passes N m w low).stands in (x.port, x.context, x.way)
  front {p} {c} {t} {u} {d} m w (inr e) = (u, d, subst (λ m. Way N p c m u d) (sym e) w)

  or_longer : (m t : ℕ) → (t < m → ⊥) → (m < t) ⊎ (m ≡ t)
  or_longer m t f = elim (least_or t m) [
    | inl low ↦ inl low
    | inr e ↦ elim (least_or m t) [
      | inl low ↦ absurd (f low)
      | inr e' ↦ inr (omega (arith, e, e'))
    ]
  ]

  -- where a walk leaves, the one that asks for more is no longer
  pub narrower : (m k : ℕ) (s : Route A) → m ≤ k → (q : ℕ) (X : Context) → Path N (free 0) (asked [] m) q X →
      IsSeen N 0 (asked [] k) s → IsSeen N 0 (asked [] m) s
  narrower m k s low q X r S =
      let c0 = cons empty rest in
      let c1 = cons (os (k - m) empty) rest in
      let same : m + (k - m) ≡ k = omega (arith, low) in
      let last = asked_is m (k - m) ∙ ap (asked []) same in
      let y = path_way N r in
      let w0 = subst (λ c. Way N (free 0) c (crossings r) y.0 X) (sym (asked_first m)) y.1 in
      let w = passed N L c0 refl (free 0) (asking N L m) (asking_held N L m) w0 in
      let w1 = subst (λ c. Way N (free 0) c (crossings r) y.0 (w.family c1)) last (w.way c1) in
      let a = is_along N n 0 (asked [] k) S.on_walk in
      let short : crossings r < a.made → ⊥ = λ e. ended N n q w1 y.2 (way_passes N (crossings r) a.way e).stands in
      let f = front a.made w0 (or_longer a.made (crossings r) short) in
      let g = passed N L c0 refl (free 0) (asking N L m) (asking_held N L m) f.2 in
      let one = way_one N n (subst (λ c. Way N (free 0) c a.made f.0 (g.family c1)) last (g.way c1)) a.way in
      let there = subst (λ u. Linked N u (slot s.from 0) ⊎ (u ≡ slot s.from 0)) (sym one.0) a.there in
      let x = same_low g.family S.redex.begin (subst (λ n. Held n g.family) (same_depth f.0 (slot s.from 0) there
      ∙ sym (begin_depth 0 (asked [] k) s S)) g.held) c1 S.rest c0 one.1 in
      record {
        redex = S.redex;
        rest = x.0;
        on_walk = subst (λ c. IsOnWalk N 0 c (slot s.from 0) (put S.redex.begin x.0)) (asked_first m)
            (on_walk N n 0 (asking N L m c0) (slot s.from 0) (put S.redex.begin x.0) (record {
              made = a.made;
              port = f.0;
              way = subst (λ d. Way N (free 0) (asking N L m c0) a.made f.0 d) x.1 (g.way c0);
              there = there;
            }));
      }
