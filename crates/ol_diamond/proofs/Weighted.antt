-- Steps of nets with weights commute, and so complete runs have the same waves.
use Rattle.std.proofs.Common.{◌≡◌, ◌≢◌, ℕ, suc, ◌+◌, ◌≤◌, List, [], ◌∷◌, count_by, Bool, true, false, cond, Some, ◌⊎◌}
use Rattle.std.proofs.Common.{◌↔◌, inl, inr, refl, sym, ap, ◌∙◌, subst, arith, map}
use Rattle.std.proofs.lemmas.List.Sums.{sum_by-cons}
use Rattle.std.proofs.lemmas.Bool.{cases_eq}
use Rattle.ol_law_edges.specs.Edges.{Joined, here, on, back, Edge, Contracted, bit}
use Rattle.ol_law_edges.proofs.Joining.{joined_map}
use Rattle.ol_law_edges.proofs.Composing.{HasEdge, edge_of_apart, contracted_map, contracted_swap}
use Rattle.ol_net.specs.declared.parts.Kind.{Kind}
use Rattle.ol_net.specs.Rules.{rule_of}
use Rattle.ol_net.specs.Nets.{NamedPort, slot, NamedNet, HasNode, Linked, SameNet, Faces, IsPrincipalOf, IsSlotOf}
use Rattle.ol_net.specs.Pairs.{IsActive, IsComplete}
use Rattle.ol_rules.specs.Rewriting.{action_of, JoinOf, Rewrites}
use Rattle.ol_rules.specs.Laws.{IsFresh}
use Rattle.ol_rules.proofs.Relation.{same_refl, same_sym, same_trans, rewrites_same}
use Rattle.ol_diamond.specs.Births.{BirthName, born, IsBirthNet}
use Rattle.ol_diamond.specs.Runs.{BirthPair, IsSamePair, IsPairStep}
use Rattle.ol_diamond.specs.Waves.{WeightedNet, weightless, LinkedWithin, JoinWithin, LeftWithin}
use Rattle.ol_diamond.specs.Waves.{IsPairWave, IsWaveRun, IsSameWave}
use Rattle.ol_diamond.specs.Waves as waves
use Rattle.ol_diamond.specs.WaveLaws.{WavesAgree, EachPairHasItsWave, RunHasOneWaves}
use Rattle.ol_diamond.proofs.Births.{same_name, name_test}
use Rattle.ol_diamond.proofs.TurnedJoins.{plain_of, turn_join}
use Rattle.ol_diamond.proofs.Rewirings.{Edge2, Clear, left_after}
use Rattle.ol_diamond.proofs.Commute.{Disjoint, disjoint_sym, decide, principal_slot, faced, far_slots, own_slot_f}
use Rattle.ol_diamond.proofs.Commute.{own_slot_g, clear_joins, faces_still, square}
use Rattle.ol_diamond.proofs.Confluence.{fresh_in, step_keeps, take, pair_is, pair_sym, pair_refl, rename, one_pair}
use Rattle.ol_diamond.proofs.Confluence.{disjoint, pair_trans, tell, tell_holds, told, tell_same, counted, found}
use Rattle.ol_diamond.proofs.Journals.{AreSamePairs}
use Rattle.ol_diamond.proofs.Orders as orders
use Rattle.ol_diamond.proofs.Orders.{Commuting}

abbrev pub Port : Type 0
Port = NamedPort BirthName

-- what the pair's step joins and leaves within n
abbrev pub JoinBy : BirthPair → Kind → Kind → ℕ → ℕ → ℕ → Port → Port → Type 0
JoinBy p k l j wave = JoinWithin (born p.f p.g) p.f p.g k l (action_of p.rule j) wave

abbrev pub LeftBy : (ℕ → Port → Port → Type 0) → BirthPair → Kind → Kind → ℕ → ℕ → ℕ → Port → Port → Type 0
LeftBy within p k l j wave = LeftWithin (born p.f p.g) p.f p.g k l (action_of p.rule j) wave within

-- a net and what its links of weight n at most join
pub record State : Type 1 where
  pub net : NamedNet BirthName
  pub within : ℕ → Port → Port → Type 0

pub record IsGood (s : State) : Type 0 where
  pub birth : IsBirthNet s.net
  pub linked : (n : ℕ) (u v : Port) → s.within n u v → Linked s.net u v
  pub swap : (n : ℕ) (u v : Port) → s.within n u v → s.within n v u

pub record AreSame (s t : State) : Type 0 where
  pub nets : SameNet s.net t.net
  pub within : (n : ℕ) (u v : Port) → s.within n u v ↔ t.within n u v

-- a pair and its wave
abbrev pub Label : Type 0
Label = BirthPair × ℕ

pub record StepsBy (s : State) (p : Label) (t : State) : Type 0 where
  pub k : Kind
  pub i : ℕ
  pub l : Kind
  pub j : ℕ
  pub faces : Faces s.net p.0.f p.0.g k i l j
  pub fits : rule_of k i l j ≡ Some p.0.rule
  pub rewrites : Rewrites (born p.0.f p.0.g) s.net p.0.f p.0.g k i l (action_of p.0.rule j) t.net
  pub weight : ℕ
  pub wave : p.1 ≡ suc weight
  pub weighs : (n : ℕ) → s.within n (slot p.0.f 0) (slot p.0.g 0) ↔ (weight ≤ n)
  pub weights : (n : ℕ) (u v : Port) → t.within n u v ↔ LeftBy s.within p.0 k l j p.1 n u v

module _ {s t : State} {p : Label} (h : StepsBy s p t) where
  active_of : IsActive s.net p.0.f p.0.g p.0.rule
  active_of = record { k = h.k; i = h.i; l = h.l; j = h.j; faces = h.faces; fits = h.fits }

  step_of : IsPairStep s.net p.0 t.net
  unfolding active_of
  step_of = record { active = active_of; rewrites = h.rewrites }

pub iff_trans : {X Y Z : Type 0} → X ↔ Y → Y ↔ Z → X ↔ Z
iff_trans a b = ((λ x. b.0 (a.0 x)), (λ z. a.1 (b.1 z)))

iff_sym : {X Y : Type 0} → X ↔ Y → Y ↔ X
iff_sym a = (a.1, a.0)

state_refl : (s : State) → AreSame s s
state_refl s = record { nets = same_refl s.net; within = λ n u v. ((λ h. h), (λ h. h)) }

state_sym : (s t : State) → AreSame s t → AreSame t s
state_sym s t h = record { nets = same_sym s.net t.net h.nets; within = λ n u v. iff_sym (h.within n u v) }

state_trans : (s t u : State) → AreSame s t → AreSame t u → AreSame s u
state_trans s t u h h' = record {
  nets = same_trans s.net t.net u.net h.nets h'.nets;
  within = λ n u v. iff_trans (h.within n u v) (h'.within n u v);
}

pub good_kept : (s t : State) (p : Label) → IsGood s → StepsBy s p t → IsGood t
good_kept s t p g h = record {
  birth = step_keeps s.net t.net p.0 g.birth (step_of h);
  linked = λ n u v w. (h.rewrites.links u v).1 (contracted_map (edge n) (λ u e x. x) u v ((h.weights n u v).0 w));
  swap = λ n u v w. (h.weights n v u).1 (contracted_swap ((h.weights n u v).0 w));
}
  where
    edge : (n : ℕ) (u v : Port) → Edge (s.within n) (IsPrincipalOf p.0.f p.0.g) (JoinBy p.0 h.k h.l h.j p.1 n) u v →
        Edge (Linked s.net) (IsPrincipalOf p.0.f p.0.g)
        (JoinOf (born p.0.f p.0.g) p.0.f p.0.g h.k h.l (action_of p.0.rule h.j)) u v
    edge n u v (inl e) = inl (g.linked n u v e.0, e.1, e.2)
    edge n u v (inr e) = inr e.0

-- the same step from the same net with the same weights
also : (s s' t : State) (p : Label) → AreSame s s' → StepsBy s p t → StepsBy s' p t
also s s' t p q h = record {
  k = h.k;
  i = h.i;
  l = h.l;
  j = h.j;
  faces = record {
    first = (q.nets.nodes p.0.f h.k h.i).0 h.faces.first;
    second = (q.nets.nodes p.0.g h.l h.j).0 h.faces.second;
    linked = (q.nets.links (slot p.0.f 0) (slot p.0.g 0)).0 h.faces.linked;
  };
  fits = h.fits;
  rewrites = rewrites_same (born p.0.f p.0.g) p.0.f p.0.g h.k h.i h.l
      (action_of p.0.rule h.j) s.net s'.net t.net q.nets h.rewrites;
  weight = h.weight;
  wave = h.wave;
  weighs = λ n. iff_trans (iff_sym (q.within n (slot p.0.f 0) (slot p.0.g 0))) (h.weighs n);
  weights = λ n u v. iff_trans (h.weights n u v)
      ((λ c. contracted_map (forth n) (λ u e x. x) u v c), (λ c. contracted_map (back' n) (λ u e x. x) u v c));
}
  where
    forth : (n : ℕ) (u v : Port) → Edge (s.within n) (IsPrincipalOf p.0.f p.0.g)
        (JoinBy p.0 h.k h.l h.j p.1 n) u v →
        Edge (s'.within n) (IsPrincipalOf p.0.f p.0.g) (JoinBy p.0 h.k h.l h.j p.1 n) u v
    forth n u v (inl e) = inl ((q.within n u v).0 e.0, e.1, e.2)
    forth n u v (inr e) = inr e

    back' : (n : ℕ) (u v : Port) → Edge (s'.within n) (IsPrincipalOf p.0.f p.0.g)
        (JoinBy p.0 h.k h.l h.j p.1 n) u v →
        Edge (s.within n) (IsPrincipalOf p.0.f p.0.g) (JoinBy p.0 h.k h.l h.j p.1 n) u v
    back' n u v (inl e) = inl ((q.within n u v).1 e.0, e.1, e.2)
    back' n u v (inr e) = inr e

-- one pair of a net has one weight
one_bound : (a b : ℕ) → ((n : ℕ) → (a ≤ n) ↔ (b ≤ n)) → a ≡ b
one_bound a b h = let x = (h b).1 (omega arith) in let y = (h a).0 (omega arith) in omega arith

one_wave : (s t u : State) (p q : Label) → IsGood s → IsSamePair p.0 q.0 → StepsBy s p t → StepsBy s q u → p.1 ≡ q.1
one_wave s t u p q g same h h' = h.wave
    ∙ ap suc (one_bound h.weight h'.weight
    (λ n. iff_trans (iff_sym (h.weighs n)) (iff_trans (turn n same) (h'.weighs n)))) ∙ sym h'.wave
  where
    turn : (n : ℕ) → IsSamePair p.0 q.0 →
        s.within n (slot p.0.f 0) (slot p.0.g 0) ↔ s.within n (slot q.0.f 0) (slot q.0.g 0)
    turn n (r, inl e) = (
      (λ x. subst (λ f. s.within n (slot f 0) (slot q.0.g 0)) e.0
          (subst (λ g. s.within n (slot p.0.f 0) (slot g 0)) e.1 x)),
      (λ x. subst (λ f. s.within n (slot f 0) (slot p.0.g 0)) (sym e.0)
          (subst (λ g. s.within n (slot q.0.f 0) (slot g 0)) (sym e.1) x)),
    )
    turn n (r, inr e) = (
      (λ x. g.swap n (slot q.0.g 0) (slot q.0.f 0)
          (subst (λ f. s.within n (slot f 0) (slot q.0.f 0)) e.0
          (subst (λ g. s.within n (slot p.0.f 0) (slot g 0)) e.1 x))),
      (λ x. subst (λ f. s.within n (slot f 0) (slot p.0.g 0)) (sym e.0)
          (subst (λ g. s.within n (slot q.0.g 0) (slot g 0)) (sym e.1) (g.swap n (slot q.0.f 0) (slot q.0.g 0) x))),
    )

-- ---- steps of one pair

same_left : (W : ℕ → Port → Port → Type 0) (p : BirthPair) (k k' l l' : Kind) (j j' w w' n : ℕ)
    (u v : Port) → k ≡ k' → l ≡ l' → j ≡ j' → w ≡ w' → LeftBy W p k l j w n u v → LeftBy W p k' l' j' w' n u v
same_left W p k k' l l' j j' w w' n u v ek el ej ew c =
    subst (λ w. LeftBy W p k' l' j' w n u v) ew
    (subst (λ j. LeftBy W p k' l' j w n u v) ej
    (subst (λ l. LeftBy W p k' l j w n u v) el
    (subst (λ k. LeftBy W p k l j w n u v) ek c)))

turned_left : (W : ℕ → Port → Port → Type 0) (p q : BirthPair) → p.f ≡ q.g → p.g ≡ q.f →
    (k l : Kind) (i j : ℕ) → rule_of k i l j ≡ Some p.rule → rule_of l j k i ≡ Some q.rule → (w n : ℕ) (u v : Port) →
    LeftBy W p k l j w n u v → LeftBy W q l k i w n u v
turned_left W p q ef eg k l i j e e' w n u v c = record {
  first = λ s. c.first (turn_slot u s);
  second = λ s. c.second (turn_slot v s);
  apart = c.apart;
  joined = joined_map edge c.joined;
}
  where
    turn_slot : (u : Port) → IsSlotOf q.f q.g u → IsSlotOf p.f p.g u
    turn_slot u (s, inl h) = (s, inr (h ∙ ap (λ x. slot x s) (sym eg)))
    turn_slot u (s, inr h) = (s, inl (h ∙ ap (λ x. slot x s) (sym ef)))

    turn_principal : (u : Port) → IsPrincipalOf q.f q.g u → IsPrincipalOf p.f p.g u
    turn_principal u (inl h) = inr (h ∙ ap (λ x. slot x 0) (sym eg))
    turn_principal u (inr h) = inl (h ∙ ap (λ x. slot x 0) (sym ef))

    turn : (u v : Port) → JoinOf (born p.f p.g) p.f p.g k l (action_of p.rule j) u v →
        JoinOf (born q.f q.g) q.f q.g l k (action_of q.rule i) v u
    turn u v h =
        let m : JoinOf (born q.f q.g) p.g p.f l k (action_of q.rule i) v u =
        turn_join p.f p.g k l (action_of p.rule j) (action_of q.rule i) (born p.f p.g)
        (born q.f q.g) (plain_of k l i j p.rule q.rule e e') u v h in
        subst (λ f. JoinOf (born q.f q.g) f q.g l k (action_of q.rule i) v u) eg
        (subst (λ g. JoinOf (born q.f q.g) p.g g l k (action_of q.rule i) v u) ef m)

    edge : (u v : Port) → Edge (W n) (IsPrincipalOf p.f p.g) (JoinBy p k l j w n) u v →
        Joined (Edge (W n) (IsPrincipalOf q.f q.g) (JoinBy q l k i w n)) u v
    edge u v (inl h) = on here (inl (h.0, (λ z. h.1 (turn_principal u z)), (λ z. h.2 (turn_principal v z))))
    edge u v (inr h) = back here (inr (turn u v h.0, h.1))

left_over : (s t t' : State) (p q : Label) → IsGood s → (h : StepsBy s p t) (h' : StepsBy s q t') →
    IsSamePair p.0 q.0 → p.1 ≡ q.1 → (n : ℕ) (u v : Port) →
    LeftBy s.within p.0 h.k h.l h.j p.1 n u v → LeftBy s.within q.0 h'.k h'.l h'.j q.1 n u v
left_over s t t' p q g h h' (r, inl e) ew n u v c =
    let x = g.birth.net.one_node q.0.f h.k h'.k h.i h'.i
    (subst (λ f. HasNode s.net f h.k h.i) e.0 h.faces.first) h'.faces.first in
    let y = g.birth.net.one_node q.0.g h.l h'.l h.j h'.j
    (subst (λ g. HasNode s.net g h.l h.j) e.1 h.faces.second) h'.faces.second in
    same_left s.within q.0 h.k h'.k h.l h'.l h.j h'.j p.1 q.1 n u v x.0 y.0 y.1 ew
    (subst (λ z. LeftBy s.within z h.k h.l h.j p.1 n u v) (rename p.0 q.0 e.0 e.1 r) c)
left_over s t t' p q g h h' (r, inr e) ew n u v c =
    let x = g.birth.net.one_node q.0.g h.k h'.l h.i h'.j
    (subst (λ f. HasNode s.net f h.k h.i) e.0 h.faces.first) h'.faces.second in
    let y = g.birth.net.one_node q.0.f h.l h'.k h.j h'.i
    (subst (λ g. HasNode s.net g h.l h.j) e.1 h.faces.second) h'.faces.first in
    let fits = sym (ap (λ k. rule_of k h.i h.l h.j) x.0 ∙ ap (λ i. rule_of h'.l i h.l h.j) x.1
    ∙ ap (λ l. rule_of h'.l h'.j l h.j) y.0 ∙ ap (λ j. rule_of h'.l h'.j h'.k j) y.1) ∙ h.fits in
    turned_left s.within p.0 q.0 e.0 e.1 h'.l h'.k h'.j h'.i fits h'.fits q.1 n u v
    (same_left s.within p.0 h.k h'.l h.l h'.k h.j h'.i p.1 q.1 n u v x.0 y.0 y.1 ew c)

one : (s s' t t' : State) (p q : Label) → IsSameWave p q → IsGood s → AreSame s s' → StepsBy s p t →
    StepsBy s' q t' → AreSame t t'
one s s' t t' p q (same, ew) g m h h0 =
    let h' = also s' s t' q (state_sym s s' m) h0 in
    record {
      nets = one_pair s.net s.net t.net t'.net p.0 q.0 same g.birth (same_refl s.net) (step_of h) (step_of h');
      within = λ n u v. iff_trans (h.weights n u v) (iff_trans (
        left_over s t t' p q g h h' same ew n u v,
        left_over s t' t q p g h' h (pair_sym p.0 q.0 same) (sym ew) n u v,
      )
          (iff_sym (h'.weights n u v)));
    }

-- ---- two pairs apart

module _ (s t u : State) (p q : Label) (g : IsGood s) (h : StepsBy s p t) (h' : StepsBy s q u)
    (d : Disjoint p.0.f p.0.g q.0.f q.0.g) where
  fresh_p : IsFresh s.net (born p.0.f p.0.g)
  fresh_p = fresh_in s.net g.birth p.0.f p.0.g p.0.rule (active_of h)

  fresh_q : IsFresh s.net (born q.0.f q.0.g)
  fresh_q = fresh_in s.net g.birth q.0.f q.0.g q.0.rule (active_of h')

  all_clear : Clear (JoinOf (born p.0.f p.0.g) p.0.f p.0.g h.k h.l (action_of p.0.rule h.j))
      (IsPrincipalOf p.0.f p.0.g) (IsSlotOf q.0.f q.0.g)
  unfolding fresh_p
  all_clear = clear_joins same_name name_test s.net g.birth.net p.0.f p.0.g h.k h.i h.l h.j
      (action_of p.0.rule h.j) (born p.0.f p.0.g) h.faces fresh_p q.0.f q.0.g h'.k h'.i h'.l h'.j h'.faces d

  clear_within : (n : ℕ) → Clear (JoinBy p.0 h.k h.l h.j p.1 n) (IsPrincipalOf p.0.f p.0.g) (IsSlotOf q.0.f q.0.g)
  clear_within n = record { first = λ u v e. all_clear.first u v e.0; second = λ u v e. all_clear.second u v e.0 }

  -- the other pair's nodes and link are there after the step
  still : Faces t.net q.0.f q.0.g h'.k h'.i h'.l h'.j
  unfolding fresh_p
  still = faces_still same_name name_test s.net g.birth.net p.0.f p.0.g h.k h.i h.l h.j
      (action_of p.0.rule h.j) (born p.0.f p.0.g) h.faces fresh_p
      q.0.f q.0.g h'.k h'.i h'.l h'.j h'.faces d t.net h.rewrites

  f_slot : IsSlotOf p.0.f p.0.g (slot q.0.f 0) → ⊥
  f_slot e = far_slots same_name name_test s.net g.birth.net p.0.f p.0.g q.0.f q.0.g d
      (slot q.0.f 0) e (own_slot_f same_name name_test s.net g.birth.net q.0.f q.0.g 0)

  g_slot : IsSlotOf p.0.f p.0.g (slot q.0.g 0) → ⊥
  g_slot e = far_slots same_name name_test s.net g.birth.net p.0.f p.0.g q.0.f q.0.g d
      (slot q.0.g 0) e (own_slot_g same_name name_test s.net g.birth.net q.0.f q.0.g 0)

  principal : (x : Port) → IsPrincipalOf p.0.f p.0.g x → IsSlotOf p.0.f p.0.g x
  principal x e = principal_slot same_name name_test s.net g.birth.net p.0.f p.0.g x e

  -- and its link weighs what it did
  weight_stays : (n : ℕ) → s.within n (slot q.0.f 0) (slot q.0.g 0) → t.within n (slot q.0.f 0) (slot q.0.g 0)
  weight_stays n w = (h.weights n (slot q.0.f 0) (slot q.0.g 0)).1 (record {
    first = f_slot;
    second = g_slot;
    apart = λ e. g.birth.net.apart (slot q.0.f 0) (subst (λ x. Linked s.net (slot q.0.f 0) x) (sym e) h'.faces.linked);
    joined = on here (inl (w, (λ e. f_slot (principal (slot q.0.f 0) e)), (λ e. g_slot (principal (slot q.0.g 0) e))));
  })

  weight_was : (n : ℕ) → t.within n (slot q.0.f 0) (slot q.0.g 0) → s.within n (slot q.0.f 0) (slot q.0.g 0)
  weight_was n w = let c = (h.weights n (slot q.0.f 0) (slot q.0.g 0)).0 w in go (edge_of_apart c.joined c.apart)
    where
      at_link : (x : Port) → s.within n (slot q.0.f 0) x → s.within n (slot q.0.f 0) (slot q.0.g 0)
      at_link x e = subst (λ y. s.within n (slot q.0.f 0) y)
          (g.birth.net.one_link (slot q.0.f 0) x (slot q.0.g 0) (g.linked n (slot q.0.f 0) x e) h'.faces.linked) e

      own : IsSlotOf q.0.f q.0.g (slot q.0.f 0)
      own = own_slot_f same_name name_test s.net g.birth.net q.0.f q.0.g 0

      go : HasEdge (Edge (s.within n) (IsPrincipalOf p.0.f p.0.g) (JoinBy p.0 h.k h.l h.j p.1 n))
          (slot q.0.f 0) → s.within n (slot q.0.f 0) (slot q.0.g 0)
      go (x, inl (inl e)) = at_link x e.0
      go (x, inl (inr e)) = absurd (((clear_within n).first (slot q.0.f 0) x e).1 own)
      go (x, inr (inl e)) = at_link x (g.swap n x (slot q.0.f 0) e.0)
      go (x, inr (inr e)) = absurd (((clear_within n).second x (slot q.0.f 0) e).1 own)

  closed_p : (n : ℕ) (x y : Port) → s.within n x y →
      (IsPrincipalOf p.0.f p.0.g x → IsPrincipalOf p.0.f p.0.g y)
      × (IsPrincipalOf p.0.f p.0.g y → IsPrincipalOf p.0.f p.0.g x)
  closed_p n x y e = (
    faced same_name name_test s.net g.birth.net p.0.f p.0.g h.k h.i h.l h.j h.faces x y (g.linked n x y e),
    faced same_name name_test s.net g.birth.net p.0.f p.0.g h.k h.i h.l h.j h.faces y x
        (g.linked n y x (g.swap n x y e)),
  )

-- what is left within n after both, in no order
abbrev BothWithin : (s : State) (p q : Label) (k l : Kind) (j : ℕ) (k' l' : Kind) (j' : ℕ) → ℕ → Port → Port → Type 0
BothWithin s p q k l j k' l' j' n = Contracted
    (Edge2 (s.within n) (IsPrincipalOf p.0.f p.0.g) (IsPrincipalOf q.0.f q.0.g)
    (JoinBy p.0 k l j p.1 n) (JoinBy q.0 k' l' j' q.1 n))
    (λ u. IsSlotOf p.0.f p.0.g u ⊎ IsSlotOf q.0.f q.0.g u)

both_swap : (s : State) (p q : Label) (k l : Kind) (j : ℕ) (k' l' : Kind) (j' : ℕ) (n : ℕ)
    (x y : Port) → BothWithin s p q k l j k' l' j' n x y → BothWithin s q p k' l' j' k l j n x y
both_swap s p q k l j k' l' j' n x y c = contracted_map edge (λ u h g. other g) x y c
  where
    other : {X Y : Type 0} → X ⊎ Y → Y ⊎ X
    other (inl h) = inr h
    other (inr h) = inl h

    edge : (u v : Port) → Edge2 (s.within n) (IsPrincipalOf p.0.f p.0.g) (IsPrincipalOf q.0.f q.0.g)
        (JoinBy p.0 k l j p.1 n) (JoinBy q.0 k' l' j' q.1 n) u v →
        Edge2 (s.within n) (IsPrincipalOf q.0.f q.0.g) (IsPrincipalOf p.0.f p.0.g)
        (JoinBy q.0 k' l' j' q.1 n) (JoinBy p.0 k l j p.1 n) u v
    edge u v (inl (inl t)) = inl (inl (t.0, t.2, t.1))
    edge u v (inl (inr h)) = inr h
    edge u v (inr h) = inl (inr h)

left_both : (s t u : State) (p q : Label) → IsGood s → (h : StepsBy s p t) (h' : StepsBy s q u) →
    Disjoint p.0.f p.0.g q.0.f q.0.g → (n : ℕ) (x y : Port) →
    LeftBy t.within q.0 h'.k h'.l h'.j q.1 n x y ↔ BothWithin s p q h.k h.l h.j h'.k h'.l h'.j n x y
left_both s t u p q g h h' d n x y =
    left_after (decide same_name name_test s.net g.birth.net) (s.within n) (t.within n)
    (IsPrincipalOf p.0.f p.0.g) (IsPrincipalOf q.0.f q.0.g) (IsSlotOf p.0.f p.0.g) (IsSlotOf q.0.f q.0.g)
    (JoinBy p.0 h.k h.l h.j p.1 n) (JoinBy q.0 h'.k h'.l h'.j q.1 n)
    (h.weights n)
    (principal s u t q p g h' h (disjoint_sym d))
    (clear_within s t u p q g h h' d n)
    (clear_within s u t q p g h' h (disjoint_sym d) n)
    (closed_p s u t q p g h' h (disjoint_sym d) n)
    x y

-- the other pair's step after the first, with the wave that it had
pub record Later (s t u : State) (p q : Label) (k l : Kind) (i j : ℕ) : Type 1 where
  pub after : State
  pub step : StepsBy t q after
  pub rewrites : Rewrites (born q.0.f q.0.g) t.net q.0.f q.0.g k i l (action_of q.0.rule j) after.net
  pub within : (n : ℕ) (x y : Port) → after.within n x y ↔ LeftBy t.within q.0 k l j q.1 n x y

later : (s t u : State) (p q : Label) → IsGood s → (h : StepsBy s p t) (h' : StepsBy s q u) →
    Disjoint p.0.f p.0.g q.0.f q.0.g → Later s t u p q h'.k h'.l h'.i h'.j
later s t u p q g h h' d =
    let faces = still s t u p q g h h' d in
    let n = take t.net (good_kept s t p g h).birth q.0 h'.k h'.i h'.l h'.j faces h'.fits in
    let after : State = record { net = n.after; within = LeftBy t.within q.0 h'.k h'.l h'.j q.1 } in
    record {
      after = after;
      step = record {
        k = h'.k;
        i = h'.i;
        l = h'.l;
        j = h'.j;
        faces = faces;
        fits = h'.fits;
        rewrites = n.rewrites;
        weight = h'.weight;
        wave = h'.wave;
        weighs = λ n. iff_trans (weight_was s t u p q g h h' d n, weight_stays s t u p q g h h' d n) (h'.weighs n);
        weights = λ n x y. ((λ c. c), (λ c. c));
      };
      rewrites = n.rewrites;
      within = λ n x y. ((λ c. c), (λ c. c));
    }

-- both orders leave one net with one set of weights
weighted_square : (s t u : State) (p q : Label) → IsGood s → StepsBy s p t → StepsBy s q u →
    (IsSameWave p q → ⊥) → (v : State) × (w : State) × StepsBy t q v × StepsBy u p w × AreSame v w
weighted_square s t u p q g h h' other =
    let d = disjoint s.net t.net u.net p.0 q.0 g.birth (step_of h) (step_of h')
    (λ same. other (same, one_wave s t u p q g same h h')) in
    let a = later s t u p q g h h' d in
    let b = later s u t q p g h' h (disjoint_sym d) in (
      a.after,
      b.after,
      a.step,
      b.step,
      record {
        nets = square same_name name_test s.net g.birth.net p.0.f p.0.g h.k h.i h.l h.j
            (action_of p.0.rule h.j) (born p.0.f p.0.g) h.faces (fresh_p s t u p q g h h' d)
            q.0.f q.0.g h'.k h'.i h'.l h'.j (action_of q.0.rule h'.j) (born q.0.f q.0.g) h'.faces
            (fresh_q s t u p q g h h' d) d
            t.net a.after.net u.net b.after.net h.rewrites a.rewrites h'.rewrites b.rewrites;
        within = λ n x y. iff_trans (a.within n x y) (iff_trans (left_both s t u p q g h h' d n x y)
            (iff_trans (
              both_swap s p q h.k h.l h.j h'.k h'.l h'.j n x y,
              both_swap s q p h'.k h'.l h'.j h.k h.l h.j n x y,
            )
            (iff_trans (iff_sym (left_both s u t q p g h' h (disjoint_sym d) n x y)) (iff_sym (b.within n x y)))));
      },
    )

label_is : (p q : Label) → IsSameWave p q ⊎ (IsSameWave p q → ⊥)
label_is p q = go (pair_is p.0 q.0) (cases_eq p.1 q.1)
  where
    go : IsSamePair p.0 q.0 ⊎ (IsSamePair p.0 q.0 → ⊥) → (p.1 ≡ q.1) ⊎ (p.1 ≢ q.1) →
        IsSameWave p q ⊎ (IsSameWave p q → ⊥)
    go (inl h) (inl e) = inl (h, e)
    go (inr n) e = inr (λ h. n h.0)
    go (inl h) (inr n) = inr (λ h. n h.1)

commuting : Commuting IsGood AreSame IsSameWave StepsBy
commuting = record {
  same_refl = state_refl;
  same_sym = state_sym;
  same_trans = state_trans;
  good = good_kept;
  one = λ s s' t t' p q same g g' m h h'. one s s' t t' p q same g m h h';
  also = λ s s' t p g g' m h. (t, also s s' t p m h);
  square = weighted_square;
  is = label_is;
  alike_refl = λ p. (pair_refl p.0, refl);
  alike_sym = λ p q h. (pair_sym p.0 q.0 h.0, sym h.1);
}

-- ---- runs

unfoldable pub state_of : WeightedNet BirthName → State
state_of N = record { net = N.net; within = LinkedWithin N }

step_as : (N M : WeightedNet BirthName) (p : Label) → IsPairWave N p M → StepsBy (state_of N) p (state_of M)
unfolding state_of
step_as N M p s =
    let a = s.step.active in
    record {
      k = a.k;
      i = a.i;
      l = a.l;
      j = a.j;
      faces = a.faces;
      fits = a.fits;
      rewrites = s.step.rewrites;
      weight = N.weight (slot p.0.f 0) (slot p.0.g 0);
      wave = s.wave_is;
      weighs = λ n. ((λ h. h.1), (λ b. (a.faces.linked, b)));
      weights = s.weights;
    }

pub run_as : (N M : WeightedNet BirthName) (ps : List Label) → IsWaveRun N ps M →
    orders.Run StepsBy (state_of N) ps (state_of M)
run_as N M [] waves.IsWaveRun.end = orders.Run.end
run_as N M (p ∷ ps) (waves.IsWaveRun.then {M = K} s r) = orders.Run.then (step_as N K p s) (run_as K M ps r)

ended : (N : WeightedNet BirthName) → IsComplete N.net → orders.Ended StepsBy (state_of N)
unfolding state_of
ended N d p t h = d p.0.f p.0.g p.0.rule (active_of h)

pub start : (N : NamedNet BirthName) → IsBirthNet N → IsGood (state_of (weightless N))
unfolding state_of
start N b = record { birth = b; linked = λ n u v h. h.0; swap = λ n u v h. (turn u v h.0, h.1) }
  where
    turn : (u v : Port) → Linked N u v → Linked N v u
    turn u v (inl h) = inr h
    turn u v (inr h) = inl h

tally_is : (test : Label → Bool) (ps : List Label) → orders.tally test ps ≡ count_by test ps
tally_is test [] = refl
tally_is test (p ∷ ps) = ap (λ n. bit (test p) + n) (tally_is test ps)
    ∙ ap (λ n. n + count_by test ps) (as_number (test p)) ∙ sym (sum_by-cons (λ p. cond (test p) 1 0) p ps)
  where
    as_number : (b : Bool) → bit b ≡ cond b 1 0
    as_number true = refl
    as_number false = refl

pub waves_agree : WavesAgree
waves_agree N M P ps qs b r d r' d' test k =
    sym (tally_is test ps) ∙
    (orders.agree commuting (state_of (weightless N)) (state_of M) (state_of P) ps qs (start N b)
    (run_as (weightless N) M ps r) (ended M d) (run_as (weightless N) P qs r') (ended P d')).0 test k ∙
    tally_is test qs

-- the test that tells this pair with this wave
abbrev is_label : Label → Label → Bool
is_label p q = tell (label_is p q)

label_trans : (p q r : Label) → IsSameWave p q → IsSameWave q r → IsSameWave p r
label_trans p q r a b = (pair_trans p.0 q.0 r.0 a.0 b.0, a.1 ∙ b.1)

label_sym : (p q : Label) → IsSameWave p q → IsSameWave q p
label_sym p q a = (pair_sym p.0 q.0 a.0, sym a.1)

pub each_pair_has_its_wave : EachPairHasItsWave
each_pair_has_its_wave N M P ps qs b r d r' d' p h =
    let a = (orders.agree commuting (state_of (weightless N)) (state_of M) (state_of P) ps qs
    (start N b) (run_as (weightless N) M ps r) (ended M d) (run_as (weightless N) P qs r') (ended P d')).0
    (is_label p) (λ q q' same. tell_same (label_is p q) (label_is p q')
    (λ k. label_trans p q q' k same) (λ k. label_trans p q' q k (label_sym q q' same))) in
    let c = counted (is_label p) p ps h (tell_holds (label_is p p) (pair_refl p.0, refl)) in
    let t = found (is_label p) qs (omega arith) in
    (t.0, t.1, told (label_is p t.0) t.2)

abbrev pub pairs_of : List Label → List BirthPair
pairs_of ps = map (λ (p : Label). p.0) ps

one_list : (s s' t t' : State) (ps qs : List Label) → IsGood s → AreSame s s' →
    orders.Run StepsBy s ps t → orders.Run StepsBy s' qs t' → pairs_of ps ≡ pairs_of qs → ps ≡ qs
one_list s s' t t' [] [] g m orders.Run.end orders.Run.end e = refl
one_list s s' t t' [] (q ∷ qs) g m r r' e = absurd (cc)
one_list s s' t t' (p ∷ ps) [] g m r r' e = absurd (cc)
one_list s s' t t' (p ∷ ps) (q ∷ qs) g m (orders.Run.then {t = u} h r) (orders.Run.then {t = u'} h' r') e =
    let a : p.0 ≡ q.0 = cc in
    let b : pairs_of ps ≡ pairs_of qs = cc in
    let same : IsSamePair p.0 q.0 = (ap (λ p. p.rule) a, inl (ap (λ p. p.f) a, ap (λ p. p.g) a)) in
    let w = one_wave s u u' p q g same h (also s' s u' q (state_sym s s' m) h') in
    let ih = one_list u u' t t' ps qs (good_kept s u p g h) (one s s' u u' p q (same, w) g m h h') r r' b in
    λ i. (a i, w i) ∷ ih i

pub run_has_one_waves : RunHasOneWaves
run_has_one_waves N M P ps qs b r r' e =
    let s = state_of (weightless N) in
    one_list s s (state_of M) (state_of P) ps qs (start N b) (state_refl s)
    (run_as (weightless N) M ps r) (run_as (weightless N) P qs r') e

-- runs of the same pairs, whichever node of each is written first, have one list of waves
pub one_waves : (s s' t t' : State) (ps qs : List Label) → IsGood s → AreSame s s' →
    orders.Run StepsBy s ps t → orders.Run StepsBy s' qs t' →
    AreSamePairs (pairs_of ps) (pairs_of qs) → map (λ (p : Label). p.1) ps ≡ map (λ (q : Label). q.1) qs
one_waves s s' t t' [] [] g m orders.Run.end orders.Run.end e = refl
one_waves s s' t t' [] (q ∷ qs) g m r r' e = absurd e
one_waves s s' t t' (p ∷ ps) [] g m r r' e = absurd e
one_waves s s' t t' (p ∷ ps) (q ∷ qs) g m (orders.Run.then {t = u} h r) (orders.Run.then {t = u'} h' r') e =
    let w = one_wave s u u' p q g e.0 h (also s' s u' q (state_sym s s' m) h') in
    let ih = one_waves u u' t t' ps qs (good_kept s u p g h) (one s s' u u' p q (e.0, w) g m h h') r r' e.1 in
    λ i. w i ∷ ih i

pub same_pairs_have_one_waves : (N : NamedNet BirthName) (M P : WeightedNet BirthName)
    (ps qs : List Label) → IsBirthNet N → IsWaveRun (weightless N) ps M → IsWaveRun (weightless N) qs P →
    AreSamePairs (map (λ (p : Label). p.0) ps) (map (λ (q : Label). q.0) qs) →
    map (λ (p : Label). p.1) ps ≡ map (λ (q : Label). q.1) qs
same_pairs_have_one_waves N M P ps qs b r r' e =
    let s = state_of (weightless N) in
    one_waves s s (state_of M) (state_of P) ps qs (start N b) (state_refl s)
    (run_as (weightless N) M ps r) (run_as (weightless N) P qs r') e
