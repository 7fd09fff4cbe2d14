-- Active pairs that wait: each has a step, and is active still after the step of another.
use Rattle.std.proofs.Common.{◌≡◌, ℕ, suc, List, [], ◌∷◌, ◌⊎◌, inl, inr, refl, sym, ◌∙◌, subst, true}
use Rattle.ol_law_edges.specs.Edges.{IsIn}
use Rattle.ol_net.specs.declared.parts.Kind.{Kind}
use Rattle.ol_net.specs.Nets.{NamedNet, slot, Linked, IsNet, SameNet, Faces}
use Rattle.ol_net.specs.Pairs.{IsActive}
use Rattle.ol_rules.specs.declared.journal.NodeName.{NodeName}
use Rattle.ol_rules.specs.declared.journal.NodeName.TheVariants.{Born}
use Rattle.ol_rules.specs.declared.journal.Entry.{Entry}
use Rattle.ol_rules.specs.Laws.{AreNamedBefore}
use Rattle.ol_rules.specs.Names.{comes_before}
use Rattle.ol_rules.specs.Rewriting.{action_of}
use Rattle.ol_rules.specs.Runs.{IsEntryStep, IsRun}
use Rattle.ol_rules.proofs.FreshPairs.{linked_sym}
use Rattle.ol_rules.proofs.NameOrder.{not_before, not_before_itself}
use Rattle.ol_rules.proofs.OneEnd.{step_net, step_before}
use Rattle.ol_rules.proofs.OneRun.{name_same, name_test, fresh_names}
use Rattle.ol_rules.proofs.Relation.{same_refl, next}
use Rattle.ol_rules.proofs.Same.{active_same}
use Rattle.ol_diamond.proofs.Commute.{Disjoint, faces_still}
use Rattle.ol_explain.specs.Found.{IsOfPair}
use Rattle.ol_orders.specs.Replays.{AreRising}

-- the entry names these two nodes
abbrev pub AreNamed : Entry → NodeName → NodeName → Type 0
AreNamed e f g = ((e.first ≡ f) × (e.second ≡ g)) ⊎ ((e.first ≡ g) × (e.second ≡ f))

-- each of them tells an active pair
abbrev pub AllWait : NamedNet NodeName → List Entry → Type 0
AllWait N es = (e : Entry) → IsIn e es → IsOfPair N e

turn : (N : NamedNet NodeName) (f g : NodeName) (k l : Kind) (i j : ℕ) → Faces N f g k i l j → Faces N g f l j k i
turn N f g k l i j h = record {
  first = h.second;
  second = h.first;
  linked = linked_sym N (slot f 0) (slot g 0) h.linked;
}

-- an active pair has a step
pub steps : (N : NamedNet NodeName) (t : ℕ) → IsNet N → AreNamedBefore N t → (e : Entry) → IsOfPair N e →
    (M : NamedNet NodeName) × IsEntryStep N t e M
steps N t n b e (o, inl a) =
    let x = next name_same name_test (λ place. Born t place) N e.first e.second a.k a.i a.l a.j e.rule n
    a.faces (fresh_names N t b) a.fits in (
      x.0,
      record {
        f = e.first;
        g = e.second;
        named = record { ordered = o; pair = inl (refl, refl) };
        step = record { active = a; rewrites = x.1.rewrites };
      },
    )
steps N t n b e (o, inr a) =
    let x = next name_same name_test (λ place. Born t place) N e.second e.first a.k a.i a.l a.j e.rule n
    a.faces (fresh_names N t b) a.fits in (
      x.0,
      record {
        f = e.second;
        g = e.first;
        named = record { ordered = o; pair = inr (refl, refl) };
        step = record { active = a; rewrites = x.1.rewrites };
      },
    )

-- what has a step is an active pair
pub of_step : (N M : NamedNet NodeName) (t : ℕ) (e : Entry) → IsEntryStep N t e M → IsOfPair N e
of_step N M t e s = (s.named.ordered, go s.named.pair)
  where
    go : AreNamed e s.f s.g → IsActive N e.first e.second e.rule ⊎ IsActive N e.second e.first e.rule
    go (inl h) = inl (subst (λ x. IsActive N x e.second e.rule) (sym h.0)
        (subst (λ y. IsActive N s.f y e.rule) (sym h.1) s.step.active))
    go (inr h) = inr (subst (λ y. IsActive N y e.first e.rule) (sym h.1)
        (subst (λ x. IsActive N s.f x e.rule) (sym h.0) s.step.active))

pub pair_same : (M N : NamedNet NodeName) (e : Entry) → SameNet M N → IsOfPair M e → IsOfPair N e
pair_same M N e m (o, inl a) = (o, inl (active_same M N m e.first e.second e.rule a))
pair_same M N e m (o, inr a) = (o, inr (active_same M N m e.second e.first e.rule a))

-- the two nodes of a pair face each other, whichever is written first
faces_told : (N : NamedNet NodeName) (e : Entry) → IsOfPair N e →
    (k : Kind) × (i : ℕ) × (l : Kind) × (j : ℕ) × Faces N e.first e.second k i l j
faces_told N e (o, inl a) = (a.k, a.i, a.l, a.j, a.faces)
faces_told N e (o, inr a) = (a.l, a.j, a.k, a.i, turn N e.second e.first a.k a.l a.i a.j a.faces)

pub faces_of : (N : NamedNet NodeName) (e : Entry) → IsOfPair N e → (f g : NodeName) → AreNamed e f g →
    (k : Kind) × (i : ℕ) × (l : Kind) × (j : ℕ) × Faces N f g k i l j
faces_of N e h f g (inl q) =
    let x = faces_told N e h in (
      x.0,
      x.1,
      x.2,
      x.3,
      subst (λ f. Faces N f g x.0 x.1 x.2 x.3) q.0
          (subst (λ g. Faces N e.first g x.0 x.1 x.2 x.3) q.1 x.4),
    )
faces_of N e h f g (inr q) =
    let x = faces_told N e h in (
      x.2,
      x.3,
      x.0,
      x.1,
      turn N g f x.0 x.2 x.1 x.3
          (subst (λ g. Faces N g f x.0 x.1 x.2 x.3) q.0
          (subst (λ f. Faces N e.first f x.0 x.1 x.2 x.3) q.1 x.4)),
    )

-- two pairs, the first names of which differ, share no node
pub apart : (N : NamedNet NodeName) → IsNet N → (e d : Entry) → IsOfPair N e → IsOfPair N d →
    comes_before e.first d.first ≡ true → Disjoint e.first e.second d.first d.second
apart N n e d h h' rising = record {
  ff = λ q. itself q;
  fg = λ q. across q;
  gf = λ q. across (partner d.first e.first d.second
      (subst (λ x. Linked N (slot x 0) (slot e.first 0)) q back) there);
  gg = λ q. itself (partner d.second e.first d.first
      (subst (λ x. Linked N (slot x 0) (slot e.first 0)) q back)
      (linked_sym N (slot d.first 0) (slot d.second 0) there));
}
  where
    back : Linked N (slot e.second 0) (slot e.first 0)
    back = let x = faces_told N e h in linked_sym N (slot e.first 0) (slot e.second 0) x.4.linked

    there : Linked N (slot d.first 0) (slot d.second 0)
    there = let x = faces_told N d h' in x.4.linked

    partner : (x y z : NodeName) → Linked N (slot x 0) (slot y 0) → Linked N (slot x 0) (slot z 0) → y ≡ z
    partner x y z p q = let e : slot y 0 ≡ slot z 0 = n.one_link (slot x 0) (slot y 0) (slot z 0) p q in cc

    itself : e.first ≡ d.first → ⊥
    itself q =
        let x = not_before_itself e.first in
        let y : comes_before e.first e.first ≡ true = subst (λ z. comes_before e.first z ≡ true) (sym q) rising in
        absurd (cc)

    across : e.first ≡ d.second → ⊥
    across q =
        let x = not_before e.first d.first rising in
        let y : comes_before d.first e.first ≡ true = subst (λ z. comes_before d.first z ≡ true) (sym q) h'.0 in
        absurd (cc)

-- so do the nodes in either order
pub apart_named : (e : Entry) (f g x y : NodeName) → AreNamed e f g → Disjoint e.first e.second x y → Disjoint f g x y
apart_named e f g x y (inl h) d = record {
  ff = λ q. d.ff (h.0 ∙ q);
  fg = λ q. d.fg (h.0 ∙ q);
  gf = λ q. d.gf (h.1 ∙ q);
  gg = λ q. d.gg (h.1 ∙ q);
}
apart_named e f g x y (inr h) d = record {
  ff = λ q. d.gf (h.1 ∙ q);
  fg = λ q. d.gg (h.1 ∙ q);
  gf = λ q. d.ff (h.0 ∙ q);
  gg = λ q. d.fg (h.0 ∙ q);
}

-- after the step of another it is active still
pub stays : (N M : NamedNet NodeName) (t : ℕ) → IsNet N → AreNamedBefore N t → (e d : Entry) →
    IsEntryStep N t e M → IsOfPair N d → Disjoint e.first e.second d.first d.second → IsOfPair M d
stays N M t n b e d s (o, either) away = (o, go either)
  where
    still : (x y : NodeName) (k l : Kind) (i j : ℕ) → Faces N x y k i l j → Disjoint s.f s.g x y → Faces M x y k i l j
    still x y k l i j h d = faces_still name_same name_test N n s.f s.g s.step.active.k s.step.active.i
        s.step.active.l s.step.active.j (action_of e.rule s.step.active.j) (λ place. Born t place)
        s.step.active.faces (fresh_names N t b) x y k i l j h d M s.step.rewrites

    far : Disjoint s.f s.g d.first d.second
    far = apart_named e s.f s.g d.first d.second s.named.pair away

    go : IsActive N d.first d.second d.rule ⊎ IsActive N d.second d.first d.rule →
        IsActive M d.first d.second d.rule ⊎ IsActive M d.second d.first d.rule
    go (inl x) = inl (record {
      k = x.k;
      i = x.i;
      l = x.l;
      j = x.j;
      faces = still d.first d.second x.k x.l x.i x.j x.faces far;
      fits = x.fits;
    })
    go (inr x) = inr (record {
      k = x.k;
      i = x.i;
      l = x.l;
      j = x.j;
      faces = still d.second d.first x.k x.l x.i x.j x.faces
          (record { ff = far.fg; fg = far.ff; gf = far.gg; gg = far.gf });
      fits = x.fits;
    })

-- and so are all of them
pub all_stay : (N M : NamedNet NodeName) (t : ℕ) → IsNet N → AreNamedBefore N t → (e : Entry) (es : List Entry) →
    IsEntryStep N t e M → AllWait N (e ∷ es) → AreRising (e ∷ es) → AllWait M es
all_stay N M t n b e es s wait rising d h = stays N M t n b e d s (wait d (inr h))
    (apart N n e d (wait e (inl refl)) (wait d (inr h)) (rising.0 d h))

-- they can be rewritten one after another
pub run_all : (N : NamedNet NodeName) (t : ℕ) (es : List Entry) → IsNet N → AreNamedBefore N t →
    AllWait N es → AreRising es → (M : NamedNet NodeName) × IsRun N t es M
run_all N t [] n b wait rising = (N, IsRun.end)
run_all N t (e ∷ es) n b wait rising =
    let x = steps N t n b e (wait e (inl refl)) in
    let y = run_all x.0 (suc t) es (step_net N N x.0 x.0 t e e n b (same_refl N) x.1)
    (step_before N N x.0 x.0 t e e n b (same_refl N) x.1)
    (all_stay N x.0 t n b e es x.1 wait rising) rising.1 in
    (y.0, IsRun.then x.1 y.1)
