-- The waves of a journal, and runs along it whose nets have weights: each run has weights, and they tell its waves.
use Rattle.std.proofs.Common.{◌≡◌, ℕ, suc, ◌≤◌, List, [], ◌∷◌, inl, inr, refl, subst, arith}
use Rattle.ol_law_edges.specs.Edges.{Edge}
use Rattle.ol_law_edges.proofs.Composing.{contracted_map}
use Rattle.ol_net.specs.Nets.{NamedPort, slot, NamedNet, Linked, IsNet, SameNet, IsPrincipalOf, net_under}
use Rattle.ol_net.specs.Pairs.{IsActive}
use Rattle.ol_rules.specs.declared.journal.NodeName.{NodeName}
use Rattle.ol_rules.specs.declared.journal.NodeName.TheVariants.{Born}
use Rattle.ol_rules.specs.declared.journal.Entry.{Entry}
use Rattle.ol_rules.specs.Laws.{AreNamedBefore}
use Rattle.ol_rules.specs.Rewriting.{action_of, JoinOf}
use Rattle.ol_rules.specs.Runs.{IsRun}
use Rattle.ol_rules.proofs.OneRun.{name_same, name_test}
use Rattle.ol_rules.proofs.Relation.{same_refl, same_sym, same_trans, faces_same, rewrites_same}
use Rattle.ol_rules.proofs.UnderNames.{same_under}
use Rattle.ol_diamond.specs.Waves.{WeightedNet, weightless, LinkedWithin, JoinWithin, LeftWithin, IsWaveStep, AreWaves}
use Rattle.ol_diamond.proofs.WaveEntries.{IsWaveEntry, WavedRun, ends, goes, run_of, waves_of_run}
use Rattle.ol_diamond.proofs.WaveSteps.{step_has_wave}
use Rattle.ol_diamond.proofs.WeightedJournals.{journal_has_one_waves}

-- the waves of a run from a net with weights
pub record Waved (N : WeightedNet NodeName) (t : ℕ) (es : List Entry) (M : NamedNet NodeName) : Type 0 where
  pub waves : List ℕ
  pub after : WeightedNet NodeName
  pub run : WavedRun N t es waves after
  pub leads : after.net ≡ M

pub waved : (N : WeightedNet NodeName) (t : ℕ) (es : List Entry) (M : NamedNet NodeName) →
    IsRun N.net t es M → Waved N t es M
waved N t [] M IsRun.end = record { waves = []; after = N; run = ends; leads = refl }
waved N t (e ∷ es) M (IsRun.then {M = K} s r) =
    let x = step_has_wave name_same name_test (λ place. Born t place) N s.f s.g e.rule K s.step in
    let h = waved (record { net = K; weight = x.0 }) (suc t) es M r in
    record {
      waves = suc (N.weight (slot s.f 0) (slot s.g 0)) ∷ h.waves;
      after = h.after;
      run = goes (record { f = s.f; g = s.g; named = s.named; step = x.1 }) h.run;
      leads = h.leads;
    }

-- a run with these waves
pub record WavedTo (N : NamedNet NodeName) (journal : List Entry) (waves : List ℕ)
    (M : NamedNet NodeName) : Type 0 where
  pub after : WeightedNet NodeName
  pub run : WavedRun (weightless N) 0 journal waves after
  pub leads : after.net ≡ M

pub waved_of : (N M : NamedNet NodeName) (journal : List Entry) (waves : List ℕ) → IsNet N →
    AreNamedBefore N 0 → IsRun N 0 journal M → AreWaves N journal M waves → WavedTo N journal waves M
waved_of N M journal waves net before r w =
    let h = waved (weightless N) 0 journal M r in
    let v = subst (λ M. AreWaves N journal M h.waves) h.leads
    (waves_of_run N h.after journal h.waves net before h.run) in
    let e : h.waves ≡ waves = journal_has_one_waves N M journal h.waves waves net before r v w in
    record {
      after = h.after;
      run = subst
          (λ waves. WavedRun (weightless N) 0 journal waves h.after) e h.run;
      leads = h.leads;
    }

-- the net that a run leaves may be written otherwise
pub waves_to : (N M P : NamedNet NodeName) (journal : List Entry) (waves : List ℕ) → SameNet M P →
    AreWaves N journal M waves → AreWaves N journal P waves
waves_to N M P journal waves m w =
    let b = w.births in
    record {
      births = record {
        birth = b.birth;
        initial = b.initial;
        pairs = b.pairs;
        births = b.births;
        start = b.start;
        after = b.after;
        run = b.run;
        same = same_trans b.after (net_under b.birth M) (net_under b.birth P) b.same (same_under b.birth M P m);
        apart = λ x y k l i j h h'. b.apart x y k l i j ((m.nodes x k i).1 h) ((m.nodes y l j).1 h');
      };
      pairs = w.pairs;
      of_births = w.of_births;
      waves_are = w.waves_are;
      after = w.after;
      run = w.run;
      same = w.same;
    }

-- ---- no wave is above the number of entries

-- no link weighs more
abbrev pub WeighAtMost : ℕ → WeightedNet NodeName → Type 0
WeighAtMost n N = (u v : NamedPort NodeName) → Linked N.net u v → N.weight u v ≤ n

pub weightless_at_most : (N : NamedNet NodeName) → WeighAtMost 0 (weightless N)
weightless_at_most N u v h = omega arith

pub one_more_at_most : (N M : WeightedNet NodeName) (t : ℕ) (e : Entry) (wave : ℕ) →
    WeighAtMost t N → IsWaveEntry N t e wave M → (wave ≤ suc t) × WeighAtMost (suc t) M
one_more_at_most N M t e wave w s = (small, λ u v h. ((s.step.weights (suc t) u v).1 (left u v h)).1)
  where
    small : wave ≤ suc t
    small = let b = w (slot s.f 0) (slot s.g 0) s.step.step.active.faces.linked in let q = s.step.wave_is in omega arith

    edge : (u v : NamedPort NodeName) → Edge (Linked N.net) (IsPrincipalOf s.f s.g)
        (JoinOf (λ place. Born t place) s.f s.g s.step.step.active.k s.step.step.active.l
        (action_of e.rule s.step.step.active.j)) u v →
        Edge (LinkedWithin N (suc t)) (IsPrincipalOf s.f s.g)
        (JoinWithin (λ place. Born t place) s.f s.g s.step.step.active.k s.step.step.active.l
        (action_of e.rule s.step.step.active.j) wave (suc t)) u v
    edge u v (inl h) = inl ((h.0, (let b = w u v h.0 in omega arith)), h.1, h.2)
    edge u v (inr h) = inr (h, small)

    left : (u v : NamedPort NodeName) → Linked M.net u v →
        LeftWithin (λ place. Born t place) s.f s.g s.step.step.active.k s.step.step.active.l
        (action_of e.rule s.step.step.active.j) wave (LinkedWithin N) (suc t) u v
    left u v h = contracted_map edge (λ u e s. s) u v ((s.step.step.rewrites.links u v).0 h)

-- ---- waves from the same net

pub record WavesFrom (N : NamedNet NodeName) (journal : List Entry) (waves : List ℕ)
    (M : NamedNet NodeName) : Type 0 where
  pub last : NamedNet NodeName
  pub run : IsRun N 0 journal last
  pub waves_are : AreWaves N journal last waves
  pub same : SameNet M last

-- the same net, however its lists are ordered, has the same runs with the same waves
pub waves_from_same : (N N' M : NamedNet NodeName) (journal : List Entry) (waves : List ℕ) →
    IsNet N → AreNamedBefore N 0 → IsNet N' → AreNamedBefore N' 0 → SameNet N N' →
    IsRun N 0 journal M → AreWaves N journal M waves → WavesFrom N' journal waves M
waves_from_same N N' M journal waves net before net' before' same r w = go (waved_of N M journal waves net before r w)
  where
    first : (e : Entry) (wave : ℕ) (K : WeightedNet NodeName) →
        IsWaveEntry (weightless N) 0 e wave K → IsWaveEntry (weightless N') 0 e wave K
    first e wave K s = record {
      f = s.f;
      g = s.g;
      named = s.named;
      step = record {
        step = record {
          active = record {
            k = a.k;
            i = a.i;
            l = a.l;
            j = a.j;
            faces = faces_same N N' s.f s.g a.k a.l a.i a.j same a.faces;
            fits = a.fits;
          };
          rewrites = rewrites_same (λ place. Born 0 place) s.f s.g a.k a.i a.l
              (action_of e.rule a.j) N N' K.net same s.step.step.rewrites;
        };
        wave_is = s.step.wave_is;
        weights = λ n u v. (
          (λ h. contracted_map (edge N N' same n) (λ u e s. s) u v ((s.step.weights n u v).0 h)),
          (λ h. (s.step.weights n u v).1 (contracted_map (edge N' N (same_sym N N' same) n) (λ u e s. s) u v h)),
        );
      };
    }
      where
        a : IsActive N s.f s.g e.rule
        a = s.step.step.active

        edge : (N N' : NamedNet NodeName) → SameNet N N' → (n : ℕ) (u v : NamedPort NodeName) →
            Edge (LinkedWithin (weightless N) n) (IsPrincipalOf s.f s.g)
            (JoinWithin (λ place. Born 0 place) s.f s.g s.step.step.active.k
            s.step.step.active.l (action_of e.rule s.step.step.active.j) wave n) u v →
            Edge (LinkedWithin (weightless N') n) (IsPrincipalOf s.f s.g)
            (JoinWithin (λ place. Born 0 place) s.f s.g s.step.step.active.k
            s.step.step.active.l (action_of e.rule s.step.step.active.j) wave n) u v
        edge N N' same n u v (inl h) = inl (((same.links u v).0 h.0.0, h.0.1), h.1, h.2)
        edge N N' same n u v (inr h) = inr h

    from : (journal : List Entry) (waves : List ℕ) (P : WeightedNet NodeName) →
        WavedRun (weightless N) 0 journal waves P → P.net ≡ M → WavesFrom N' journal waves M
    from [] [] P ends q = record {
      last = N';
      run = IsRun.end;
      waves_are = waves_of_run N' (weightless N') [] [] net' before' ends;
      same = subst (λ M. SameNet M N') q same;
    }
    from [] (v ∷ ws) P x q = elim x [ ]
    from (e ∷ es) [] P x q = elim x [ ]
    from (e ∷ es) (v ∷ ws) P (goes {M = K} s x) q =
        let y = goes (first e v K s) x in
        record {
          last = P.net;
          run = run_of (weightless N') P 0 (e ∷ es) (v ∷ ws) y;
          waves_are = waves_of_run N' P (e ∷ es) (v ∷ ws) net' before' y;
          same = subst (λ M. SameNet M P.net) q (same_refl P.net);
        }

    go : WavedTo N journal waves M → WavesFrom N' journal waves M
    go h = from journal waves h.after h.run h.leads
