-- Ways and paths, and that a walk has one way to go.
use Rattle.std.proofs.Common.{◌≡◌, ℕ, suc, ◌+◌, ◌<◌, ◌≤◌, ◌⊎◌, inl, inr, refl, sym, ap, ◌∙◌, subst, arith}
use Rattle.ol_net.specs.declared.parts.Kind.{Kind}
use Rattle.ol_net.specs.Nets.{NamedNet, NamedPort, free, slot, HasNode, Linked, IsNet}
use Rattle.ol_context.specs.Contexts.{Context}
use Rattle.ol_context.specs.Paths.{Crosses, inward, outward, Through, through, Path, ends, goes, crossings}
use Rattle.ol_context.specs.Ways.{Way, start, on, Exits, WalkStands, Stops}
use Rattle.ol_context.specs.Laws.{CrossingBack, ThroughBack, CrossingIsOne, WalkBack}
use Rattle.ol_context.proofs.Contexts.{injective}

-- one crossing
pub crosses_back : CrossingBack
crosses_back k i s t c d (inward b e) = outward b e
crosses_back k i s t c d (outward b e) = inward b e

pub crosses_one : CrossingIsOne
crosses_one k i s t t' c d d' (inward b e) (inward b' e') = (refl, sym e ∙ e')
crosses_one k i s t t' c d d' (outward {s = u} {c = a} b e) (outward {s = v} {c = a'} b' e') =
    let z = injective k i u v a a' b b' (e ∙ sym e') in (ap suc z.0, z.1)

module _ {A : Type 0} where
  pub through_back : ThroughBack A
  through_back N p q c d (through {k = k} {i = i} {s = s} {t = t} h y) = through h (crosses_back k i s t c d y)

module _ {A : Type 0} (N : NamedNet A) where
  -- a way goes on as a path
  record Longer (p : NamedPort A) (c : Context) (q : ℕ) (e : Context) (n : ℕ) : Type 0 where
    path : Path N p c q e
    long : crossings path ≡ n

  before : {p : NamedPort A} {c : Context} {n : ℕ} {u : NamedPort A} {d e : Context} {q : ℕ} →
      Way N p c n u d → (r : Path N u d q e) → Longer p c q e (n + crossings r)
  before start r = record { path = r; long = omega arith }
  before (on w l h x) r = let t = before w (goes l h x r) in let e = t.long in
      record { path = t.path; long = omega arith }

  pub way_exits : {p : NamedPort A} {c : Context} (edges n : ℕ) {u : NamedPort A} {d : Context}
      (q : ℕ) → Way N p c n u d → Linked N u (free q) → n ≤ edges → Exits N p c edges q d n
  way_exits edges n q w l b = let t = before w (ends l) in let e = t.long in
      record { path = t.path; long = omega arith; within = b }

  pub path_way : {p : NamedPort A} {c : Context} {q : ℕ} {d : Context} (r : Path N p c q d) →
      (u : NamedPort A) × Way N p c (crossings r) u d × Linked N u (free q)
  path_way {p} (ends l) = (p, start, l)
  path_way (goes l h x r) = let t = path_way r in (t.0, first l h x t.1, t.2)
    where
      first : {p : NamedPort A} {c d : Context} {x : A} {k : Kind} {i s t n : ℕ} {u : NamedPort A} {e : Context} →
          Linked N p (slot x s) → HasNode N x k i → Crosses k i s c t d → Way N (slot x t) d n u e →
          Way N p c (suc n) u e
      first l h x start = on start l h x
      first l h x (on w l' h' x') = on (first l h x w) l' h' x'

  -- one crossing more
  pub way_on : {p : NamedPort A} {c : Context} {n : ℕ} {u v w : NamedPort A} {d e : Context} →
      Way N p c n u d → Linked N u v → Through N v d w e → Way N p c (suc n) w e
  way_on y l (through h x) = on y l h x

  -- a path leads back
  flip : (p q : NamedPort A) → Linked N p q → Linked N q p
  flip p q (inl h) = inr h
  flip p q (inr h) = inl h

  turned : (p : ℕ) (c : Context) {n : ℕ} {u : NamedPort A} {d : Context} → Way N (free p) c n u d →
      (v : NamedPort A) → Linked N v u → Longer v d p c n
  turned p c start v l = record { path = ends l; long = refl }
  turned p c (on {u = u} {d = d} {e = e} {x = x} {k = k} {i = i} {s = s} {t = t} w l' h y) v l =
      let r = turned p c w (slot x s) (flip u (slot x s) l') in
      record { path = goes l h (crosses_back k i s t d e y) r.path; long = ap suc r.long }

  pub path_back : (p : ℕ) (c : Context) (q : ℕ) (d : Context) (r : Path N (free p) c q d) →
      (s : Path N (free q) d p c) × (crossings s ≡ crossings r)
  path_back p c q d r = let w = path_way r in
      let t = turned p c w.1 (free q) (flip w.0 (free q) w.2) in (t.path, t.long)

  -- the walk stands at a node and goes through it
  pub record Passes (p : NamedPort A) (c : Context) (n : ℕ) : Type 0 where
    pub stands : WalkStands N p c n
    pub out : NamedPort A
    pub after : Context
    pub goes_through : Through N (slot stands.node stands.at) stands.context out after

  -- from a longer walk, where it stood earlier
  pub way_passes : {p : NamedPort A} {c : Context} {m : ℕ} {u : NamedPort A} {d : Context} (n : ℕ) →
      Way N p c m u d → n < m → Passes p c n
  way_passes n start b = absurd (omega arith)
  way_passes {p} {c} n (on {n = m} {u = u} {d = d} {e = e} {x = x} {k = k} {i = i} {s = s} {t = t} w
      l h y) b = go (last m n b) (way_passes n w)
    where
      last : (m n : ℕ) → n < suc m → (n < m) ⊎ (m ≡ n)
      last m n b = grind arith

      go : (n < m) ⊎ (m ≡ n) → (n < m → Passes p c n) → Passes p c n
      go (inl e) ih = ih e
      go (inr q) ih = subst (Passes p c) q
          (record {
            stands = record {
              port = u;
              context = d;
              way = w;
              node = x;
              at = s;
              linked = l;
            };
            out = slot x t;
            after = e;
            goes_through = through h y;
          })

  module _ (is_net : IsNet N) where
    pub through_one : {p q q' : NamedPort A} {c d d' : Context} → Through N p c q d →
        Through N p c q' d' → (q ≡ q') × (d ≡ d')
    through_one (through {x = x} {k = k} {i = i} {s = s} {t = t} {c = c} {d = d} h y)
        (through {k = k'} {i = i'} {t = t'} {d = d'} h' y') =
        let o = is_net.one_node x k' k i' i h' h in
        let z = crosses_one k i s t t' c d d' y
        (subst (λ i. Crosses k i s c t' d') o.1 (subst (λ k. Crosses k i' s c t' d') o.0 y')) in
        (ap (slot x) z.0, z.1)

    -- one node stands there
    through_same : {p p' q : NamedPort A} {c c' d : Context} → p' ≡ p → c' ≡ c → Through N p' c' q d → Through N p c q d
    through_same {p} {p'} {q} {c} {c'} {d} e f y = subst (λ p. Through N p c q d) e
        (subst (λ c. Through N p' c q d) f y)

    link_one : {u u' v v' : NamedPort A} → u ≡ u' → Linked N u v → Linked N u' v' → v' ≡ v
    link_one {u} {u'} {v} {v'} e l l' = is_net.one_link u' v' v l' (subst (λ u. Linked N u v) e l)

    pub way_one : {p : NamedPort A} {c : Context} {n : ℕ} {u : NamedPort A} {d : Context}
        {u' : NamedPort A} {d' : Context} → Way N p c n u d → Way N p c n u' d' → (u ≡ u') × (d ≡ d')
    way_one start start = (refl, refl)
    way_one (on {x = x} {s = s} w l h y) (on {x = x'} {s = s'} w' l' h' y') =
        let z = way_one w w' in
        let e : slot x' s' ≡ slot x s = link_one z.0 l l' in
        through_one (through h y) (through_same e (sym z.1) (through h' y'))

    -- where a walk leaves it doesn't stand
    pub ended : {p : NamedPort A} {c : Context} {n : ℕ} {u : NamedPort A} {d : Context} (q : ℕ) →
        Way N p c n u d → Linked N u (free q) → WalkStands N p c n → ⊥
    ended {u = u} q w l s =
        let z = way_one w s.way in
        let e : slot s.node s.at ≡ free q = link_one z.0 l s.linked in
        cc

    -- where no crossing is defined the walk doesn't go on
    pub stopped : {p : NamedPort A} {c : Context} {edges n : ℕ} → (s : Stops N p c edges n) → Passes p c s.made → ⊥
    stopped s y =
        let z = way_one s.stands.way y.stands.way in
        let e : slot y.stands.node y.stands.at ≡ slot s.stands.node s.stands.at = link_one z.0
        s.stands.linked y.stands.linked in
        s.barred y.out y.after (through_same e (sym z.1) y.goes_through)

module _ {A : Type 0} where
  pub walks_back : WalkBack A
  walks_back N p c q d r = path_back N p c q d r
