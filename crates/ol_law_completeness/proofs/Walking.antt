-- Walks with all contexts at once: those after changes out of which the same contexts come, and
-- bounded ones.
-- Used in Following and Running.
use Rattle.std.proofs.Common.{ℕ, zero, suc, ◌<◌, ◌≤◌, List, ◌∷◌, ◌↔◌, refl, sym, ap, ◌∙◌, subst, arith}
use Rattle.ol_context.proofs.Contexts.{injective}
use Rattle.ol_context.specs.Contexts.{Context, up}
use Rattle.ol_context.specs.Paths.{Crosses, inward, outward}
use Rattle.ol_context.specs.Ways.{Way, start, on}
use Rattle.ol_invariance.proofs.Moves.{Meets, Commutes}
use Rattle.ol_net.specs.Nets.{NamedPort, free, slot, NamedNet, HasNode, Linked, IsPort, IsNet}
use Rattle.ol_net.specs.Parts.{arity}
use Rattle.ol_net.specs.declared.parts.Kind.{Kind}
use Rattle.ol_law_levels.specs.Unblocked.{Change, rise, fall, ComesOut}
use Rattle.ol_law_completeness.specs.Walks.{ComesDown, leaves, rises, comes}
use Rattle.ol_law_levels.proofs.Before.{alike_rise}

-- the same contexts come out
abbrev pub Alike : List Change → List Change → Type 0
Alike v w = (d : Context) → ComesOut v d ↔ ComesOut w d

-- some context comes out
abbrev pub Passes : List Change → Type 0
Passes w = (d : Context) × ComesOut w d

pub passes_rise : (k : Kind) (i s : ℕ) (w : List Change) → Passes w → Passes (rise k i s ∷ w)
passes_rise k i s w t = (up k i s t.0, (t.0, t.1, refl))

-- A walk that has left a node by port p, after these changes, makes m crossings more. It enters a
-- node by slot 0 only where some context goes on by the slot by which it leaves.
pub data Goes {A : Type 0} (N : NamedNet A) : NamedPort A → List Change → ℕ → Type 0 where
  stands : {p : NamedPort A} {w : List Change} → Goes N p w 0
  up_by : {p : NamedPort A} {w : List Change} {m : ℕ} {x : A} {s : ℕ} (k : Kind) (i : ℕ) →
      Linked N p (slot x (suc s)) → HasNode N x k i → s < arity k →
      Goes N (slot x 0) (rise k i s ∷ w) m → Goes N p w (suc m)
  down_by : {p : NamedPort A} {w : List Change} {m : ℕ} {x : A} {s : ℕ} (k : Kind) (i : ℕ)
      (d : Context) → Linked N p (slot x 0) → HasNode N x k i → s < arity k →
      ComesOut w (up k i s d) → Goes N (slot x (suc s)) (fall k i s ∷ w) m → Goes N p w (suc m)

module _ {A : Type 0} (N : NamedNet A) where
  first : {p : NamedPort A} {c d : Context} {x : A} {k : Kind} {i s t : ℕ} {n : ℕ}
      {q : NamedPort A} {e : Context} → Linked N p (slot x s) → HasNode N x k i →
      Crosses k i s c t d → Way N (slot x t) d n q e → Way N p c (suc n) q e
  first l h r start = on start l h r
  first l h r (on w l' h' r') = on (first l h r w) l' h' r'

  -- one of the contexts makes all of the crossings
  abbrev pub One : NamedPort A → List Change → ℕ → Type 0
  One p w m = (c : Context) × ComesOut w c × (q : NamedPort A) × (d : Context) × Way N p c m q d

  pub one_of : {p : NamedPort A} {w : List Change} {m : ℕ} → Goes N p w m → Passes w → One p w m
  one_of {p = p} stands t = (t.0, t.1, p, t.0, start)
  one_of {w = w} (up_by {s = s} k i l h b g) t =
      let r = one_of g (passes_rise k i s w t) in
      (r.1.0, r.1.1, r.2, r.3, first l h (inward b r.1.2) r.4)
  one_of {w = w} (down_by {s = s} k i d l h b t' g) t =
      let r = one_of g (d, t') in
      (up k i s r.0, r.1, r.2, r.3, first l h (outward b refl) r.4)

module _ {A : Type 0} (N : NamedNet A) where
  pub alike : {p : NamedPort A} {v w : List Change} {n : ℕ} → ComesDown N p v n → Alike v w →
      ComesDown N p w n
  alike (leaves q h) a = leaves q h
  alike {v = v} {w = w} (rises {s = s} k i h x b r) a =
      rises k i h x b (alike r (alike_rise k i s v w a))
  alike (comes k i h x r) a =
      comes k i h x (λ s d b t. alike (r s d b ((a (up k i s d)).1 t)) (λ e. a (up k i s e)))

  pub more : {p : NamedPort A} {w : List Change} {n : ℕ} → ComesDown N p w n →
      ComesDown N p w (suc n)
  more (leaves q h) = leaves q h
  more (rises k i h x b r) = rises k i h x b (more r)
  more (comes k i h x r) = comes k i h x (λ s d b t. more (r s d b t))

  -- a walk that makes no more crossings than b comes to slots 0 no more than b + 1 times
  abbrev Holds : ℕ → Type 0
  Holds b = (p : NamedPort A) (w : List Change) → IsPort N p →
      ((m : ℕ) → Goes N p w m → m ≤ b) → ComesDown N p w (suc b)

  none : 1 ≤ 0 → ⊥
  none h = omega (arith, h)

  less : {m b : ℕ} → suc m ≤ suc b → m ≤ b
  less h = omega (arith, h)

  aux : {s n : ℕ} → suc s ≤ n → s < n
  aux h = omega (arith, h)

  module _ (is_net : IsNet N) where
    at_zero : Holds 0
    at_zero p w h few = by (is_net.some_link p h).0 (is_net.some_link p h).1
      where
        at : (x : A) (s : ℕ) → Linked N p (slot x s) → IsPort N (slot x s) → ComesDown N p w 1
        at x zero l (k, i, hx, c) =
            comes k i l hx (λ s d b t. absurd (none (few 1 (down_by k i d l hx b t stands))))
        at x (suc s) l (k, i, hx, c) = absurd (none (few 1 (up_by k i l hx (aux c) stands)))

        by : (q : NamedPort A) → Linked N p q → ComesDown N p w 1
        by (free q) l = leaves q l
        by (slot x s) l = at x s l (is_net.of_ports p (slot x s) l).1

    at_suc : (b : ℕ) → Holds b → Holds (suc b)
    at_suc b ih p w h few = by (is_net.some_link p h).0 (is_net.some_link p h).1
      where
        at : (x : A) (s : ℕ) → Linked N p (slot x s) → IsPort N (slot x s) →
            ComesDown N p w (suc (suc b))
        at x zero l (k, i, hx, c) =
            comes k i l hx (λ s d c t. ih (slot x (suc s)) (fall k i s ∷ w)
            (k, i, hx, c) (λ m g. less (few (suc m) (down_by k i d l hx c t g))))
        at x (suc s) l (k, i, hx, c) =
            rises k i l hx (aux c) (more (ih (slot x 0) (rise k i s ∷ w)
            (k, i, hx, omega arith) (λ m g. less (few (suc m) (up_by k i l hx (aux c) g)))))

        by : (q : NamedPort A) → Linked N p q → ComesDown N p w (suc (suc b))
        by (free q) l = leaves q l
        by (slot x s) l = at x s l (is_net.of_ports p (slot x s) l).1

    pub bounded : (b : ℕ) (p : NamedPort A) (w : List Change) → IsPort N p →
        ((m : ℕ) → Goes N p w m → m ≤ b) → ComesDown N p w (suc b)
    bounded zero = at_zero
    bounded (suc b) = at_suc b (bounded b)

-- ---- where two nodes meet, and where they cross

module _ (k : Kind) (i : ℕ) (l : Kind) (j : ℕ) where
  pub alike_meet : Meets k i l j → (s : ℕ) (w : List Change) → s < arity k →
      Alike (fall l j s ∷ rise k i s ∷ w) w
  alike_meet m s w b d = (
    λ t. subst (λ c. ComesOut w c)
        (injective k i s s t.0 d b b (t.2 ∙ sym (m.alike s d b))).1 t.1,
    λ h. (d, h, m.alike s d b),
  )

  pub alike_meet_back : Meets k i l j → (s : ℕ) (w : List Change) → s < arity k → s < arity l →
      Alike (fall k i s ∷ rise l j s ∷ w) w
  alike_meet_back m s w b b' d = (
    λ t. subst (λ c. ComesOut w c)
        (injective l j s s t.0 d b' b' (t.2 ∙ m.alike s d b)).1 t.1,
    λ h. (d, h, sym (m.alike s d b)),
  )

  module _ (n : ℕ) (m : Commutes k i l j n) (s t : ℕ) (w : List Change) (b : s < arity k)
      (b' : t < arity l) where
    pub alike_on : Alike (fall l j t ∷ rise k i s ∷ w) (rise k i s ∷ fall l n t ∷ w)
    alike_on d = (
      λ x. (let y = m.pull s t x.0 d b b' x.2 in
          (y.0, subst (λ c. ComesOut w c) (sym y.1) x.1, y.2)),
      λ x. (up l n t x.0, x.1, m.commute s t x.0 b b' ∙ ap (up l j t) x.2),
    )

    pub alike_back : Alike (fall k i s ∷ rise l j t ∷ w) (rise l n t ∷ fall k i s ∷ w)
    alike_back d = (
      λ x. (let y = m.pull s t d x.0 b b' (sym x.2) in
          (y.0, subst (λ c. ComesOut w c) (sym y.2) x.1, y.1)),
      λ x. (up k i s x.0, x.1, sym (m.commute s t x.0 b b') ∙ ap (up k i s) x.2),
    )
