-- In a run in rounds the wave of each entry is the number of its round.
use Rattle.std.proofs.Common.{◌≡◌, ◌≢◌, ℕ, zero, suc, ◌+◌, ◌<◌, ◌≤◌, Bool, true, false, List, [], ◌∷◌, ◌++◌, length}
use Rattle.std.proofs.Common.{length-append, ◌⊎◌, inl, inr, refl, sym, ap, ◌∙◌, subst, arith}
use Rattle.std.specs.Prelude.{replicate}
use Rattle.std.proofs.lemmas.Bool.{cases_lt}
use Rattle.std.proofs.lemmas.Bool.Decides.{nat_tests}
use Rattle.ol_law_edges.specs.Edges.{IsIn, Edge, Contracted, on, here}
use Rattle.ol_law_edges.proofs.Composing.{joined_keeps, contracted_map, contracted_swap}
use Rattle.ol_net.specs.declared.parts.Kind.{Kind}
use Rattle.ol_net.specs.declared.parts.Rule.{Rule}
use Rattle.ol_net.specs.Nets.{NamedPort, slot, NamedNet, HasNode, Linked, IsNet, SameNet, IsPrincipalOf, IsSlotOf}
use Rattle.ol_net.specs.Pairs.{IsActive, IsInActive}
use Rattle.ol_rules.specs.declared.journal.NodeName.{NodeName}
use Rattle.ol_rules.specs.declared.journal.NodeName.TheVariants.{Init, Born}
use Rattle.ol_rules.specs.declared.journal.Entry.{Entry}
use Rattle.ol_rules.specs.Laws.{AreNamedBefore}
use Rattle.ol_rules.specs.Names.{comes_before, IsNamed}
use Rattle.ol_rules.specs.Rewriting.{action_of, JoinOf, NodeOf, left, of_f, of_g}
use Rattle.ol_rules.specs.Runs.{IsRun}
use Rattle.ol_rules.proofs.FreshPairs.{linked_sym}
use Rattle.ol_net.specs.Numbered.{net_of}
use Rattle.ol_rules.proofs.OneEnd.{step_net, step_before, one_end}
use Rattle.ol_rules.proofs.OneRun.{one_name, ArePaired, one_pair}
use Rattle.ol_rules.proofs.Relation.{same_refl}
use Rattle.ol_rules.proofs.StartNets.{start_net, start_named}
use Rattle.ol_diamond.specs.Waves.{WeightedNet, weightless, LinkedWithin, JoinWithin, LeftWithin, IsWaveStep}
use Rattle.ol_diamond.proofs.Journals.{IsBefore}
use Rattle.ol_diamond.proofs.WaveEntries.{IsWaveEntry, WavedRun, ends, goes, entry_of, run_of, waves_of_run}
use Rattle.ol_diamond.proofs.WaveRuns.{WeighAtMost, waved, waves_to}
use Rattle.ol_diamond.proofs.WeightedJournals.{journal_has_one_waves}
use Rattle.ol_view.specs.Checks.{start_net_of_graph}
use Rattle.ol_orders.specs.Laws.{WavesAreRounds}
use Rattle.ol_orders.specs.Rounds.{IsActiveEntry, AreActivePairs, IsInRounds, round_numbers}

-- a link weighs the same from both of its ends
abbrev pub IsEven : WeightedNet NodeName → Type 0
IsEven N = (n : ℕ) (u v : NamedPort NodeName) → LinkedWithin N n u v → LinkedWithin N n v u

-- So many rounds were before: no link weighs more, and that of an active pair weighs no less.
pub record IsAfterRounds (N : WeightedNet NodeName) (t b : ℕ) : Type 0 where
  pub net : IsNet N.net
  pub before : AreNamedBefore N.net t
  pub even : IsEven N
  pub most : WeighAtMost b N
  pub least : (f g : NodeName) (r : Rule) (n : ℕ) → IsActive N.net f g r →
      LinkedWithin N n (slot f 0) (slot g 0) → b ≤ n

pub at_first : (N : NamedNet NodeName) → IsNet N → AreNamedBefore N 0 → IsAfterRounds (weightless N) 0 0
at_first N net before = record {
  net = net;
  before = before;
  even = λ n u v h. (linked_sym N u v h.0, h.1);
  most = λ u v h. omega arith;
  least = λ f g r n a h. omega arith;
}

-- a name of a later ticket isn't one from before
too_late : (t u p : ℕ) → t ≤ u → IsBefore (Born u p) t → ⊥
too_late t u p h b = grind (arith, nat_tests)

-- Within a round that began with a net: what is left of that one.
module _ (N0 : WeightedNet NodeName) (t0 b : ℕ) (start : IsAfterRounds N0 t0 b) where
  pub record IsWithin (N : WeightedNet NodeName) (t : ℕ) (es : List Entry) : Type 0 where
    pub net : IsNet N.net
    pub before : AreNamedBefore N.net t
    pub even : IsEven N
    pub most : WeighAtMost (suc b) N
    pub later : t0 ≤ t
    -- nodes with an old name were there
    pub old : (x : NodeName) (k : Kind) (i : ℕ) → IsBefore x t0 → HasNode N.net x k i → HasNode N0.net x k i
    -- light links were there
    pub light : (n : ℕ) (u v : NamedPort NodeName) → n ≤ b → LinkedWithin N n u v → LinkedWithin N0 n u v
    -- nodes that faced each other and are there still do so
    pub faces : (f g : NodeName) (k l : Kind) (i j : ℕ) → Linked N0.net (slot f 0) (slot g 0) →
        HasNode N.net f k i → HasNode N.net g l j → LinkedWithin N b (slot f 0) (slot g 0)
    -- nodes of active pairs are there still only where an entry is left
    pub rest : (x : NodeName) (k : Kind) (i : ℕ) (r : Rule) → IsInActive N0.net x r → HasNode N.net x k i →
        (e : Entry) × IsIn e es × ((x ≡ e.first) ⊎ (x ≡ e.second))

  old_name : (f g : NodeName) → Linked N0.net (slot f 0) (slot g 0) → IsBefore f t0 × IsBefore g t0
  old_name f g h =
      let p = start.net.of_ports (slot f 0) (slot g 0) h in
      (start.before f p.0.0 p.0.1 p.0.2, start.before g p.1.0 p.1.1 p.1.2)

  -- one entry
  module _ (N M : WeightedNet NodeName) (t : ℕ) (e : Entry) (es : List Entry) (w : ℕ)
      (i : IsWithin N t (e ∷ es)) (a : IsActiveEntry N0.net e) (s : IsWaveEntry N t e w M) where
    abbrev act : IsActive N.net s.f s.g e.rule
    act = s.step.step.active

    paired : ArePaired s.f s.g a.f a.g
    paired = one_pair e e s.f s.g a.f a.g refl refl s.named a.named

    facing : ArePaired s.f s.g a.f a.g → Linked N0.net (slot s.f 0) (slot s.g 0)
    facing (inl (p, q)) = subst (λ f. Linked N0.net (slot f 0) (slot s.g 0)) (sym p)
        (subst (λ g. Linked N0.net (slot a.f 0) (slot g 0)) (sym q) a.active.faces.linked)
    facing (inr (p, q)) = subst (λ f. Linked N0.net (slot f 0) (slot s.g 0)) (sym p)
        (subst (λ g. Linked N0.net (slot a.g 0) (slot g 0)) (sym q)
        (linked_sym N0.net (slot a.f 0) (slot a.g 0) a.active.faces.linked))

    -- its link weighs as much as there were rounds
    small : N.weight (slot s.f 0) (slot s.g 0) ≤ b
    small = (i.faces s.f s.g act.k act.l act.i act.j (facing paired) act.faces.first act.faces.second).1

    great : b ≤ N.weight (slot s.f 0) (slot s.g 0)
    great = go (N.weight (slot s.f 0) (slot s.g 0)) (i.light (N.weight (slot s.f 0) (slot s.g 0))
        (slot s.f 0) (slot s.g 0) small (act.faces.linked, omega arith)) paired
      where
        go : (n : ℕ) → LinkedWithin N0 n (slot s.f 0) (slot s.g 0) → ArePaired s.f s.g a.f a.g → b ≤ n
        go n was (inl (p, q)) = start.least a.f a.g e.rule n a.active
            (subst (λ f. LinkedWithin N0 n (slot f 0) (slot a.g 0)) p
            (subst (λ g. LinkedWithin N0 n (slot s.f 0) (slot g 0)) q was))
        go n was (inr (p, q)) = start.least a.f a.g e.rule n a.active
            (start.even n (slot a.g 0) (slot a.f 0)
            (subst (λ f. LinkedWithin N0 n (slot f 0) (slot a.f 0)) p
            (subst (λ g. LinkedWithin N0 n (slot s.f 0) (slot g 0)) q was)))

    wave_is : w ≡ suc b
    wave_is = let x = small in let y = great in let z = s.step.wave_is in omega arith

    -- nodes with an old name were there, and aren't the two
    stayed : (x : NodeName) (k : Kind) (n : ℕ) → IsBefore x t0 → HasNode M.net x k n →
        HasNode N.net x k n × (x ≢ s.f) × (x ≢ s.g)
    stayed x k n p h = go x k n p ((s.step.step.rewrites.nodes x k n).0 h)
      where
        go : (x : NodeName) (k : Kind) (n : ℕ) → IsBefore x t0 →
            NodeOf N.net (λ place. Born t place) s.f s.g act.k act.i act.l (action_of e.rule act.j) x k n →
            HasNode N.net x k n × (x ≢ s.f) × (x ≢ s.g)
        go x k n p (left h y z) = (h, y, z)
        go x k n p (of_f {q = q} j e c) = absurd (too_late t0 t q i.later p)
        go x k n p (of_g j e c) = absurd (too_late t0 t _ i.later p)

    abbrev Links : ℕ → NamedPort NodeName → NamedPort NodeName → Type 0
    Links n = LeftWithin (λ place. Born t place) s.f s.g act.k act.l (action_of e.rule act.j) w (LinkedWithin N) n

    abbrev Edges : ℕ → NamedPort NodeName → NamedPort NodeName → Type 0
    Edges n = Edge (LinkedWithin N n) (IsPrincipalOf s.f s.g)
        (JoinWithin (λ place. Born t place) s.f s.g act.k act.l (action_of e.rule act.j) w n)

    -- z is u, or is linked with it by a light link
    abbrev IsAt : ℕ → NamedPort NodeName → NamedPort NodeName → Type 0
    IsAt n u z = (u ≡ z) ⊎ LinkedWithin N n u z

    -- a link that weighs less than the wave was there
    was_light : (n : ℕ) (u v : NamedPort NodeName) → n ≤ b → Links n u v → LinkedWithin N n u v
    was_light n u v l c = go (joined_keeps (λ z. IsAt n u z) forth back c.joined (inl refl))
      where
        next : (x z : NamedPort NodeName) → LinkedWithin N n x z → IsAt n u x → IsAt n u z
        next x z h (inl q) = inr (subst (λ u. LinkedWithin N n u z) (sym q) h)
        next x z h (inr h') = inl (i.net.one_link x u z (linked_sym N.net u x h'.0) h.0)

        forth : (x z : NamedPort NodeName) → Edges n x z → IsAt n u x → IsAt n u z
        forth x z (inl h) q = next x z h.0 q
        forth x z (inr h) q = absurd (let k = wave_is in let m = h.1 in omega arith)

        back : (x z : NamedPort NodeName) → Edges n x z → IsAt n u z → IsAt n u x
        back x z (inl h) q = next z x (i.even n x z h.0) q
        back x z (inr h) q = absurd (let k = wave_is in let m = h.1 in omega arith)

        go : IsAt n u v → LinkedWithin N n u v
        go (inl q) = absurd (c.apart q)
        go (inr h) = h

    -- a pair apart faces as before
    still_faces : (f g : NodeName) (k l : Kind) (m n : ℕ) → Linked N0.net (slot f 0) (slot g 0) →
        HasNode M.net f k m → HasNode M.net g l n → LinkedWithin M b (slot f 0) (slot g 0)
    still_faces f g k l m n h p q =
        let o = old_name f g h in
        let x = stayed f k m o.0 p in
        let y = stayed g l n o.1 q in
        let was = i.faces f g k l m n h x.0 y.0 in
        (s.step.weights b (slot f 0) (slot g 0)).1 (record {
          first = no_slot f x.1 x.2;
          second = no_slot g y.1 y.2;
          apart = λ z. i.net.apart (slot f 0) (subst (λ v. Linked N.net (slot f 0) v) (sym z) was.0);
          joined = on here (inl (was, no_principal f x.1 x.2, no_principal g y.1 y.2));
        })
      where
        no_slot : (x : NodeName) → x ≢ s.f → x ≢ s.g → IsSlotOf s.f s.g (slot x 0) → ⊥
        no_slot x d d' (n, inl z) = d (cc)
        no_slot x d d' (n, inr z) = d' (cc)

        no_principal : (x : NodeName) → x ≢ s.f → x ≢ s.g → IsPrincipalOf s.f s.g (slot x 0) → ⊥
        no_principal x d d' (inl z) = d (cc)
        no_principal x d d' (inr z) = d' (cc)

    rest_on : (x : NodeName) (k : Kind) (n : ℕ) (r : Rule) → IsInActive N0.net x r → HasNode M.net x k n →
        (d : Entry) × IsIn d es × ((x ≡ d.first) ⊎ (x ≡ d.second))
    rest_on x k n r c h = go (i.rest x k n r c y.0)
      where
        was : IsInActive N0.net x r → IsBefore x t0
        was (z, inl d) = start.before x d.k d.i d.faces.first
        was (z, inr d) = start.before x d.l d.j d.faces.second

        y : HasNode N.net x k n × (x ≢ s.f) × (x ≢ s.g)
        y = stayed x k n (was c) h

        first : ((e.first ≡ s.f) × (e.second ≡ s.g)) ⊎ ((e.first ≡ s.g) × (e.second ≡ s.f)) →
            (x ≡ e.first) ⊎ (x ≡ e.second) → ⊥
        first (inl (p, q)) (inl z) = y.1 (z ∙ p)
        first (inl (p, q)) (inr z) = y.2 (z ∙ q)
        first (inr (p, q)) (inl z) = y.2 (z ∙ p)
        first (inr (p, q)) (inr z) = y.1 (z ∙ q)

        go : (d : Entry) × IsIn d (e ∷ es) × ((x ≡ d.first) ⊎ (x ≡ d.second)) →
            (d : Entry) × IsIn d es × ((x ≡ d.first) ⊎ (x ≡ d.second))
        go (d, inr m, z) = (d, m, z)
        go (d, inl m, z) = absurd (first s.named.pair
            (subst (λ (d : Entry). (x ≡ d.first) ⊎ (x ≡ d.second)) m z))

    within_on : IsWithin M (suc t) es
    within_on = record {
      net = step_net N.net N.net M.net M.net t e e i.net i.before (same_refl N.net) (entry_of N t e w M s);
      before = step_before N.net N.net M.net M.net t e e i.net i.before (same_refl N.net) (entry_of N t e w M s);
      even = λ n u v h. (s.step.weights n v u).1 (contracted_swap ((s.step.weights n u v).0 h));
      most = λ u v h. ((s.step.weights (suc b) u v).1
          (contracted_map edge (λ u e s. s) u v ((s.step.step.rewrites.links u v).0 h))).1;
      later = let l = i.later in omega arith;
      old = λ x k n p h. i.old x k n p (stayed x k n p h).0;
      light = λ n u v l h. i.light n u v l (was_light n u v l ((s.step.weights n u v).0 h));
      faces = still_faces;
      rest = rest_on;
    }
      where
        edge : (u v : NamedPort NodeName) → Edge (Linked N.net) (IsPrincipalOf s.f s.g)
            (JoinOf (λ place. Born t place) s.f s.g act.k act.l (action_of e.rule act.j)) u v → Edges (suc b) u v
        edge u v (inl h) = inl ((h.0, i.most u v h.0), h.1, h.2)
        edge u v (inr h) = inr (h, (let q = wave_is in omega arith))

  -- a round up to the entries that are left
  pub along : (N P : WeightedNet NodeName) (t : ℕ) (es : List Entry) (ws : List ℕ) →
      ((e : Entry) → IsIn e es → IsActiveEntry N0.net e) → IsWithin N t es → WavedRun N t es ws P →
      (ws ≡ replicate (length es) (suc b)) × IsWithin P (t + length es) []
  along N P t [] [] h i ends = (refl, subst (λ t. IsWithin N t []) (let q : t ≡ t + 0 = omega arith in q) i)
  along N P t [] (v ∷ ws) h i r = elim r [ ]
  along N P t (e ∷ es) [] h i r = elim r [ ]
  along N P t (e ∷ es) (w ∷ ws) h i (goes {M = K} s r) =
      let a = h e (inl refl) in
      let q = wave_is N K t e es w i a s in
      let m = along K P (suc t) es ws (λ d j. h d (inr j)) (within_on N K t e es w i a s) r in (
        (λ k. q k ∷ m.0 k),
        subst (λ t. IsWithin P t []) (let z : suc t + length es ≡ t + suc (length es) = omega arith in z) m.1,
      )

  -- a round that is over is one more
  pub one_round_more : (N : WeightedNet NodeName) (t : ℕ) → IsWithin N t [] → IsAfterRounds N t (suc b)
  one_round_more N t i = record { net = i.net; before = i.before; even = i.even; most = i.most; least = least }
    where
      never : (f g : NodeName) (r : Rule) → (a : IsActive N.net f g r) → Linked N0.net (slot f 0) (slot g 0) → ⊥
      never f g r a h =
          let o = old_name f g h in
          let c : IsActive N0.net f g r = record {
            k = a.k;
            i = a.i;
            l = a.l;
            j = a.j;
            faces = record {
              first = i.old f a.k a.i o.0 a.faces.first;
              second = i.old g a.l a.j o.1 a.faces.second;
              linked = h;
            };
            fits = a.fits;
          } in
          (i.rest f a.k a.i r (g, inl c) a.faces.first).1

      go : (f g : NodeName) (r : Rule) (n : ℕ) → IsActive N.net f g r → LinkedWithin N n (slot f 0) (slot g 0) →
          (b < n) ⊎ (n ≤ b) → suc b ≤ n
      go f g r n a h (inl l) = l
      go f g r n a h (inr l) = absurd (never f g r a (i.light n (slot f 0) (slot g 0) l h).0)

      least : (f g : NodeName) (r : Rule) (n : ℕ) → IsActive N.net f g r →
          LinkedWithin N n (slot f 0) (slot g 0) → suc b ≤ n
      least f g r n a h = go f g r n a h (cases_lt b n)

  -- x is named by one of these entries
  abbrev IsTold : List Entry → NodeName → Type 0
  IsTold es x = (e : Entry) × IsIn e es × ((x ≡ e.first) ⊎ (x ≡ e.second))

  -- at its begin
  pub round_begins : (es : List Entry) → AreActivePairs N0.net es → IsWithin N0 t0 es
  round_begins es all = record {
    net = start.net;
    before = start.before;
    even = start.even;
    most = λ u v h. let m = start.most u v h in omega arith;
    later = omega arith;
    old = λ x k n p h. h;
    light = λ n u v l h. h;
    faces = λ f g k l m n h p q. (h, start.most (slot f 0) (slot g 0) h);
    rest = rest;
  }
    where
      rest : (x : NodeName) (k : Kind) (n : ℕ) (r : Rule) → IsInActive N0.net x r → HasNode N0.net x k n → IsTold es x
      rest x k n r (y, side) h = go (comes_before x y) refl (comes_before y x) refl side
        where
          one : comes_before x y ≡ true → IsActive N0.net x y r ⊎ IsActive N0.net y x r →
              IsActiveEntry N0.net (record { rule = r; first = x; second = y })
          one p (inl a) = record {
            f = x;
            g = y;
            named = record { ordered = p; pair = inl (refl, refl) };
            active = a;
          }
          one p (inr a) = record {
            f = y;
            g = x;
            named = record { ordered = p; pair = inr (refl, refl) };
            active = a;
          }

          other : comes_before y x ≡ true → IsActive N0.net x y r ⊎ IsActive N0.net y x r →
              IsActiveEntry N0.net (record { rule = r; first = y; second = x })
          other p (inl a) = record {
            f = x;
            g = y;
            named = record { ordered = p; pair = inr (refl, refl) };
            active = a;
          }
          other p (inr a) = record {
            f = y;
            g = x;
            named = record { ordered = p; pair = inl (refl, refl) };
            active = a;
          }

          joined : IsActive N0.net x y r ⊎ IsActive N0.net y x r → Linked N0.net (slot x 0) (slot y 0)
          joined (inl a) = a.faces.linked
          joined (inr a) = linked_sym N0.net (slot y 0) (slot x 0) a.faces.linked

          go : (c : Bool) → comes_before x y ≡ c → (d : Bool) → comes_before y x ≡ d →
              IsActive N0.net x y r ⊎ IsActive N0.net y x r → IsTold es x
          go true p d q a = (
            record { rule = r; first = x; second = y },
            (all.all (record { rule = r; first = x; second = y })).1 (one p a),
            inl refl,
          )
          go false p true q a = (
            record { rule = r; first = y; second = x },
            (all.all (record { rule = r; first = y; second = x })).1 (other q a),
            inr refl,
          )
          go false p false q a = absurd (start.net.apart (slot x 0)
              (subst (λ y. Linked N0.net (slot x 0) (slot y 0)) (sym (one_name x y p q)) (joined a)))

-- one run with waves behind another
waved_both : (N M P : WeightedNet NodeName) (t u : ℕ) (es fs : List Entry) (ws vs : List ℕ) →
    u ≡ t + length es → WavedRun N t es ws M → WavedRun M u fs vs P → WavedRun N t (es ++ fs) (ws ++ vs) P
waved_both N M P t u [] fs [] vs q ends r = let e : u ≡ t = omega arith in
    subst (λ u. WavedRun N u fs vs P) e r
waved_both N M P t u [] fs (w ∷ ws) vs q s r = elim s [ ]
waved_both N M P t u (e ∷ es) fs [] vs q s r = elim s [ ]
waved_both N M P t u (e ∷ es) fs (w ∷ ws) vs q (goes {M = K} x s) r =
    goes x (waved_both K M P (suc t) u es fs ws vs (omega arith) s r)

-- the whole run
pub record Numbered (N : WeightedNet NodeName) (t b : ℕ) (journal : List Entry) (M : NamedNet NodeName)
    (waves : List ℕ) : Type 0 where
  pub after : WeightedNet NodeName
  pub rounds : ℕ
  pub run : WavedRun N t journal waves after
  pub leads : after.net ≡ M
  pub state : IsAfterRounds after (t + length journal) rounds

pub numbered : (N : WeightedNet NodeName) (K M : NamedNet NodeName) (t b : ℕ) (journal : List Entry) → N.net ≡ K →
    IsAfterRounds N t b → (r : IsInRounds K t journal M) → Numbered N t b journal M (round_numbers r b)
numbered N K M t b journal e a IsInRounds.end = record {
  after = N;
  rounds = b;
  run = ends;
  leads = e;
  state = subst (λ t. IsAfterRounds N t b) (let q : t ≡ t + 0 = omega arith in q) a;
}
numbered N K M t b journal e a (IsInRounds.then {M = L} {es = es} {later = later} pairs run more) =
    let all = subst (λ K. AreActivePairs K es) (sym e) pairs in
    let w = waved N t es L (subst (λ K. IsRun K t es L) (sym e) run) in
    let m = along N t b a N w.after t es w.waves (λ e i. (all.all e).0 i) (round_begins N t b a es all) w.run in
    let i = one_round_more N t b a w.after (t + length es) m.1 in
    let n = numbered w.after L M (t + length es) (suc b) later w.leads i more in
    record {
      after = n.after;
      rounds = n.rounds;
      run = subst (λ ws. WavedRun N t (es ++ later) (ws ++ round_numbers more (suc b)) n.after) m.0
          (waved_both N w.after n.after t (t + length es) es later w.waves (round_numbers more (suc b)) refl
          w.run n.run);
      leads = n.leads;
      state = subst (λ t. IsAfterRounds n.after t n.rounds)
          (let q : t + length es + length later ≡ t + length (es ++ later) = omega (arith, length-append es later) in q)
          n.state;
    }

-- so these are the waves of its journal
pub waves_are_rounds : WavesAreRounds
waves_are_rounds g journal waves last net rounds w =
    let N = start_net_of_graph g in
    let n = start_net (net_of g) net in
    let b = start_named (net_of g) in
    let h = numbered (weightless N) N last 0 0 journal refl (at_first N n b) rounds in
    let a = waves_of_run N h.after journal (round_numbers rounds 0) n b h.run in
    let same = one_end N N h.after.net w.last 0 journal n b (same_refl N)
    (run_of (weightless N) h.after 0 journal (round_numbers rounds 0) h.run) w.run in
    journal_has_one_waves N w.last journal waves (round_numbers rounds 0) n b w.run w.waves_are
    (waves_to N h.after.net w.last journal (round_numbers rounds 0) same a)
