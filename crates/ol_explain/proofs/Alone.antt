-- A pair that waits has one wave, whether others that wait are rewritten before it or not.
use Rattle.std.proofs.Common.{◌≡◌, ℕ, suc, ◌+◌, List, [], ◌∷◌, ◌++◌, length, inl, inr, Some}
use Rattle.std.proofs.Common.{refl, sym, ap, ◌∙◌, subst, arith}
use Rattle.ol_law_edges.specs.Edges.{IsIn, Edge, on, here}
use Rattle.ol_law_edges.proofs.Composing.{HasEdge, edge_of_apart, contracted_swap}
use Rattle.ol_net.specs.declared.parts.Kind.{Kind}
use Rattle.ol_net.specs.Rules.{rule_of}
use Rattle.ol_net.specs.Nets.{NamedPort, slot, NamedNet, Linked, IsNet, Faces, IsPrincipalOf, IsSlotOf}
use Rattle.ol_net.specs.Pairs.{IsActive}
use Rattle.ol_rules.specs.declared.journal.NodeName.{NodeName}
use Rattle.ol_rules.specs.declared.journal.NodeName.TheVariants.{Born}
use Rattle.ol_rules.specs.declared.journal.Entry.{Entry}
use Rattle.ol_rules.specs.Laws.{AreNamedBefore}
use Rattle.ol_rules.specs.Rewriting.{action_of, JoinOf}
use Rattle.ol_rules.proofs.OneEnd.{step_net, step_before}
use Rattle.ol_rules.proofs.OneRun.{name_same, name_test, fresh_names}
use Rattle.ol_rules.proofs.Relation.{same_refl, next}
use Rattle.ol_rules.proofs.FreshPairs.{linked_sym}
use Rattle.ol_diamond.specs.Waves.{WeightedNet, weightless, LinkedWithin, JoinWithin, IsWaveStep}
use Rattle.ol_diamond.proofs.Commute.{Disjoint, disjoint_sym, principal_slot, far_slots, own_slot_f, own_slot_g}
use Rattle.ol_diamond.proofs.Commute.{clear_joins, faces_still}
use Rattle.ol_diamond.proofs.Rewirings.{Clear}
use Rattle.ol_diamond.proofs.WaveEntries.{IsWaveEntry, WavedRun, ends, goes, entry_of}
use Rattle.ol_diamond.proofs.WaveSteps.{step_has_wave}
use Rattle.ol_explain.specs.Found.{IsOfPair}
use Rattle.ol_orders.specs.Replays.{AreRising}
use Rattle.ol_explain.proofs.Waits.{AllWait, steps, faces_of, apart, apart_named, all_stay}

-- a link weighs as much from either end
abbrev pub Balanced : WeightedNet NodeName → Type 0
Balanced N = (n : ℕ) (u v : NamedPort NodeName) → LinkedWithin N n u v → LinkedWithin N n v u

pub balanced_first : (N : NamedNet NodeName) → Balanced (weightless N)
balanced_first N n u v h = (linked_sym N u v h.0, h.1)

pub balanced_on : (N M : WeightedNet NodeName) (t : ℕ) (e : Entry) (wave : ℕ) → IsWaveEntry N t e wave M → Balanced M
balanced_on N M t e wave s n u v h = (s.step.weights n v u).1 (contracted_swap ((s.step.weights n u v).0 h))

pub balanced : (N P : WeightedNet NodeName) (t : ℕ) (es : List Entry) (ws : List ℕ) → Balanced N →
    WavedRun N t es ws P → Balanced P
balanced N P t [] [] b ends = b
balanced N P t [] (w ∷ ws) b r = elim r [ ]
balanced N P t (e ∷ es) [] b r = elim r [ ]
balanced N P t (e ∷ es) (w ∷ ws) b (goes {M = K} s r) = balanced K P (suc t) es ws (balanced_on N K t e w s) r

-- the link of another pair keeps its weight
module _ (N M : WeightedNet NodeName) (t : ℕ) (e : Entry) (w : ℕ) (n : IsNet N.net) (b : AreNamedBefore N.net t)
    (even : Balanced N) (s : IsWaveEntry N t e w M) (f g : NodeName) (k l : Kind) (i j : ℕ)
    (faces : Faces N.net f g k i l j) (d : Disjoint s.f s.g f g) where
  abbrev a : IsActive N.net s.f s.g e.rule
  a = s.step.step.active

  clear : Clear (JoinOf (λ place. Born t place) s.f s.g a.k a.l (action_of e.rule a.j))
      (IsPrincipalOf s.f s.g) (IsSlotOf f g)
  clear = clear_joins name_same name_test N.net n s.f s.g a.k a.i a.l a.j (action_of e.rule a.j)
      (λ place. Born t place) a.faces (fresh_names N.net t b) f g k i l j faces d

  pub still : Faces M.net f g k i l j
  still = faces_still name_same name_test N.net n s.f s.g a.k a.i a.l a.j (action_of e.rule a.j)
      (λ place. Born t place) a.faces (fresh_names N.net t b) f g k i l j faces d M.net s.step.step.rewrites

  f_slot : IsSlotOf s.f s.g (slot f 0) → ⊥
  f_slot h = far_slots name_same name_test N.net n s.f s.g f g d (slot f 0) h
      (own_slot_f name_same name_test N.net n f g 0)

  g_slot : IsSlotOf s.f s.g (slot g 0) → ⊥
  g_slot h = far_slots name_same name_test N.net n s.f s.g f g d (slot g 0) h
      (own_slot_g name_same name_test N.net n f g 0)

  principal : (x : NamedPort NodeName) → IsPrincipalOf s.f s.g x → IsSlotOf s.f s.g x
  principal x h = principal_slot name_same name_test N.net n s.f s.g x h

  weight_stays : (m : ℕ) → LinkedWithin N m (slot f 0) (slot g 0) → LinkedWithin M m (slot f 0) (slot g 0)
  weight_stays m h = (s.step.weights m (slot f 0) (slot g 0)).1 (record {
    first = f_slot;
    second = g_slot;
    apart = λ q. n.apart (slot f 0) (subst (λ x. Linked N.net (slot f 0) x) (sym q) faces.linked);
    joined = on here (inl (h, (λ q. f_slot (principal (slot f 0) q)), (λ q. g_slot (principal (slot g 0) q))));
  })

  weight_was : (m : ℕ) → LinkedWithin M m (slot f 0) (slot g 0) → LinkedWithin N m (slot f 0) (slot g 0)
  weight_was m h = let c = (s.step.weights m (slot f 0) (slot g 0)).0 h in go (edge_of_apart c.joined c.apart)
    where
      at_link : (x : NamedPort NodeName) → LinkedWithin N m (slot f 0) x → LinkedWithin N m (slot f 0) (slot g 0)
      at_link x h = subst (λ y. LinkedWithin N m (slot f 0) y)
          (n.one_link (slot f 0) x (slot g 0) h.0 faces.linked) h

      own : IsSlotOf f g (slot f 0)
      own = own_slot_f name_same name_test N.net n f g 0

      go : HasEdge (Edge (LinkedWithin N m) (IsPrincipalOf s.f s.g)
          (JoinWithin (λ place. Born t place) s.f s.g a.k a.l (action_of e.rule a.j) w m))
          (slot f 0) → LinkedWithin N m (slot f 0) (slot g 0)
      go (x, inl (inl h)) = at_link x h.0
      go (x, inl (inr h)) = absurd ((clear.first (slot f 0) x h.0).1 own)
      go (x, inr (inl h)) = at_link x (even m x (slot f 0) h.0)
      go (x, inr (inr h)) = absurd ((clear.second x (slot f 0) h.0).1 own)

  pub same_weight : N.weight (slot f 0) (slot g 0) ≡ M.weight (slot f 0) (slot g 0)
  same_weight =
      let x = weight_stays (N.weight (slot f 0) (slot g 0)) (faces.linked, omega arith) in
      let y = weight_was (M.weight (slot f 0) (slot g 0)) (x.0, omega arith) in
      let p = x.1 in
      let q = y.1 in
      omega arith

-- its step comes next, in this wave
abbrev pub IsNext : WeightedNet NodeName → ℕ → Entry → ℕ → Type 0
IsNext N t e w = (M : WeightedNet NodeName) × IsWaveEntry N t e w M

-- a pair that waits has a wave
pub has_wave : (N : WeightedNet NodeName) (t : ℕ) → IsNet N.net → AreNamedBefore N.net t → (e : Entry) →
    IsOfPair N.net e → (w : ℕ) × IsNext N t e w
has_wave N t n b e h =
    let x = steps N.net t n b e h in
    let y = step_has_wave name_same name_test (λ place. Born t place) N x.1.f x.1.g e.rule x.0 x.1.step in (
      suc (N.weight (slot x.1.f 0) (slot x.1.g 0)),
      (
        record { net = x.0; weight = y.0 },
        record { f = x.1.f; g = x.1.g; named = x.1.named; step = y.1 },
      ),
    )

-- what comes next after another pair came next before it, in the same wave
pub before_it : (N K : WeightedNet NodeName) (t : ℕ) (e : Entry) (w : ℕ) → IsNet N.net → AreNamedBefore N.net t →
    Balanced N → IsWaveEntry N t e w K → (d : Entry) (v : ℕ) → IsOfPair N.net d →
    Disjoint e.first e.second d.first d.second → IsNext K (suc t) d v → IsNext N t d v
before_it N K t e w n b even s d v waits far (M, x) =
    let p = faces_of N.net d waits x.f x.g x.named.pair in
    let r = comes p.0 p.1 p.2 p.3 p.4 in (
      record { net = r.0; weight = r.1 },
      record { f = x.f; g = x.g; named = x.named; step = r.2 },
    )
  where
    apart_here : Disjoint s.f s.g x.f x.g
    apart_here =
        let y = apart_named e s.f s.g d.first d.second s.named.pair far in
        disjoint_sym (apart_named d x.f x.g s.f s.g x.named.pair (disjoint_sym y))

    k_net : IsNet K.net
    k_net = step_net N.net N.net K.net K.net t e e n b (same_refl N.net) (entry_of N t e w K s)

    comes : (k : Kind) (i : ℕ) (l : Kind) (j : ℕ) → Faces N.net x.f x.g k i l j →
        (P : NamedNet NodeName) × (weight : NamedPort NodeName → NamedPort NodeName → ℕ)
        × IsWaveStep (λ place. Born t place) N x.f x.g d.rule v (record { net = P; weight = weight })
    comes k i l j faces =
        let c = x.step.step.active in
        let q = still N K t e w n b even s x.f x.g k l i j faces apart_here in
        let y = k_net.one_node x.f c.k k c.i i c.faces.first q.first in
        let z = k_net.one_node x.g c.l l c.j j c.faces.second q.second in
        let fits : rule_of k i l j ≡ Some d.rule =
        sym (ap (λ k. rule_of k c.i c.l c.j) y.0 ∙ ap (λ i. rule_of k i c.l c.j) y.1
        ∙ ap (λ l. rule_of k i l c.j) z.0 ∙ ap (λ j. rule_of k i l j) z.1) ∙ c.fits in
        let o = next name_same name_test (λ place. Born t place) N.net x.f x.g k i l j d.rule n faces
        (fresh_names N.net t b) fits in
        let h = step_has_wave name_same name_test (λ place. Born t place) N x.f x.g d.rule o.0
        (record {
          active = record { k = k; i = i; l = l; j = j; faces = faces; fits = fits };
          rewrites = o.1.rewrites;
        }) in
        let wave : suc (N.weight (slot x.f 0) (slot x.g 0)) ≡ v =
        ap suc (same_weight N K t e w n b even s x.f x.g k l i j faces apart_here) ∙ sym x.step.wave_is in (
          o.0,
          h.0,
          subst (λ v. IsWaveStep (λ place. Born t place) N x.f x.g d.rule v
              (record { net = o.0; weight = h.0 })) wave h.1,
        )

-- each of them could come next, in its wave
abbrev pub AllNext : WeightedNet NodeName → ℕ → List Entry → List ℕ → Type 0
AllNext N t [] [] = Unit {0}
AllNext N t (e ∷ es) (w ∷ ws) = IsNext N t e w × AllNext N t es ws
AllNext N t [] (w ∷ ws) = ⊥
AllNext N t (e ∷ es) [] = ⊥

all_before : (N K : WeightedNet NodeName) (t : ℕ) (e : Entry) (w : ℕ) → IsNet N.net → AreNamedBefore N.net t →
    Balanced N → IsWaveEntry N t e w K → (es : List Entry) (ws : List ℕ) → AllWait N.net es →
    ((d : Entry) → IsIn d es → Disjoint e.first e.second d.first d.second) →
    AllNext K (suc t) es ws → AllNext N t es ws
all_before N K t e w n b even s [] [] wait far h = tt
all_before N K t e w n b even s [] (v ∷ ws) wait far h = absurd h
all_before N K t e w n b even s (d ∷ es) [] wait far h = absurd h
all_before N K t e w n b even s (d ∷ es) (v ∷ ws) wait far h = (
  before_it N K t e w n b even s d v (wait d (inl refl)) (far d (inl refl)) h.0,
  all_before N K t e w n b even s es ws (λ x i. wait x (inr i)) (λ x i. far x (inr i)) h.1,
)

-- those that are rewritten one after another
pub all_next : (N P : WeightedNet NodeName) (t : ℕ) (es : List Entry) (ws : List ℕ) → IsNet N.net →
    AreNamedBefore N.net t → Balanced N → AllWait N.net es → AreRising es → WavedRun N t es ws P → AllNext N t es ws
all_next N P t [] [] n b even wait rising ends = tt
all_next N P t [] (w ∷ ws) n b even wait rising r = elim r [ ]
all_next N P t (e ∷ es) [] n b even wait rising r = elim r [ ]
all_next N P t (e ∷ es) (w ∷ ws) n b even wait rising (goes {M = K} s r) =
    let x = entry_of N t e w K s in (
      (K, s),
      all_before N K t e w n b even s es ws (λ d h. wait d (inr h))
          (λ d h. apart N.net n e d (wait e (inl refl)) (wait d (inr h)) (rising.0 d h))
          (all_next K P (suc t) es ws (step_net N.net N.net K.net K.net t e e n b (same_refl N.net) x)
          (step_before N.net N.net K.net K.net t e e n b (same_refl N.net) x) (balanced_on N K t e w s)
          (all_stay N.net K.net t n b e es x wait rising) rising.1 r),
    )

-- and others
pub others_next : (N : WeightedNet NodeName) (t : ℕ) (es : List Entry) → IsNet N.net → AreNamedBefore N.net t →
    AllWait N.net es → (ws : List ℕ) × AllNext N t es ws
others_next N t [] n b wait = ([], tt)
others_next N t (e ∷ es) n b wait =
    let x = has_wave N t n b e (wait e (inl refl)) in
    let y = others_next N t es n b (λ d h. wait d (inr h)) in
    (x.0 ∷ y.0, (x.1, y.1))

-- a run with waves along two journals is one along the first, and then one along the second
pub record Parted (N : WeightedNet NodeName) (t : ℕ) (js es : List Entry) (ws : List ℕ) (P : WeightedNet NodeName)
    : Type 0 where
  pub middle : WeightedNet NodeName
  pub first : List ℕ
  pub second : List ℕ
  pub waves_are : ws ≡ first ++ second
  pub count : length first ≡ length js
  pub before : WavedRun N t js first middle
  pub after : WavedRun middle (t + length js) es second P

pub parted : (N P : WeightedNet NodeName) (t : ℕ) (js es : List Entry) (ws : List ℕ) →
    WavedRun N t (js ++ es) ws P → Parted N t js es ws P
parted N P t [] es ws r = record {
  middle = N;
  first = [];
  second = ws;
  waves_are = refl;
  count = refl;
  before = ends;
  after = let q : t ≡ t + 0 = omega arith in subst (λ t. WavedRun N t es ws P) q r;
}
parted N P t (j ∷ js) es [] r = elim r [ ]
parted N P t (j ∷ js) es (w ∷ ws) (goes {M = K} s r) =
    let x = parted K P (suc t) js es ws r in
    let q : suc t + length js ≡ t + suc (length js) = omega arith in
    record {
      middle = x.middle;
      first = w ∷ x.first;
      second = x.second;
      waves_are = ap (λ ws. w ∷ ws) x.waves_are;
      count = ap suc x.count;
      before = goes s x.before;
      after = subst (λ t. WavedRun x.middle t es x.second P) q x.after;
    }
