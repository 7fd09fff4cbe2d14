-- The waves of runs and of journals: that they have some, and one list.
use Rattle.std.proofs.Common.{◌≡◌, ℕ, suc, List, [], ◌∷◌, map, refl, sym, ap, subst, ◌∙◌}
use Rattle.ol_net.specs.Nets.{NamedPort, slot, NamedNet, SameNet, net_under}
use Rattle.ol_rules.proofs.Same.{complete_same}
use Rattle.ol_rules.proofs.Relation.{same_refl}
use Rattle.ol_diamond.specs.Births.{BirthName, born}
use Rattle.ol_diamond.specs.Runs.{BirthPair, IsPairRun}
use Rattle.ol_diamond.specs.Runs as pairs
use Rattle.ol_diamond.specs.Waves.{WeightedNet, weightless, IsWaveRun, end, then}
use Rattle.ol_diamond.specs.WaveLaws.{JournalWavesAgree, JournalHasOneWaves, RunHasWaves, JournalHasWaves}
use Rattle.ol_diamond.proofs.Births.{same_name, name_test}
use Rattle.ol_diamond.proofs.Journals.{birth_follows, complete_follows, AreSamePairs, same_pairs}
use Rattle.ol_diamond.proofs.OneThreadRuns.{start_alike}
use Rattle.ol_diamond.proofs.Weighted.{each_pair_has_its_wave, same_pairs_have_one_waves}
use Rattle.ol_diamond.proofs.WaveSteps.{step_has_wave}

pub journal_waves_agree : JournalWavesAgree
journal_waves_agree N M P js ks ws vs net before r d r' d' w v p h =
    let c = complete_same w.births.after w.after.net w.same ((complete_follows N M js net before r w.births).0 d) in
    let c' = complete_same v.births.after v.after.net v.same ((complete_follows N P ks net before r' v.births).0 d') in
    let run = subst (λ B. IsWaveRun (weightless B) v.pairs v.after)
    (start_alike N net before v.births.birth w.births.birth v.births.initial w.births.initial) v.run in
    each_pair_has_its_wave (net_under w.births.birth N) w.after v.after w.pairs v.pairs
    w.births.start w.run c run c' p h

pub journal_has_one_waves : JournalHasOneWaves
journal_has_one_waves N M journal ws vs net before r w v =
    let run = subst (λ B. IsWaveRun (weightless B) v.pairs v.after)
    (start_alike N net before v.births.birth w.births.birth v.births.initial w.births.initial) v.run in
    let e = subst (λ ps. AreSamePairs ps v.births.pairs) (sym w.of_births)
    (same_pairs N M journal net before r w.births v.births) in
    let e' = subst (λ qs. AreSamePairs (map (λ (p : BirthPair × ℕ). p.0) w.pairs) qs) (sym v.of_births) e in
    sym w.waves_are ∙ same_pairs_have_one_waves
    (net_under w.births.birth N) w.after v.after w.pairs v.pairs w.births.start w.run run e' ∙ v.waves_are

-- ---- each run has waves

abbrev pub Weight : Type 0
Weight = NamedPort BirthName → NamedPort BirthName → ℕ

abbrev pub weighted : NamedNet BirthName → Weight → WeightedNet BirthName
weighted N weight = record { net = N; weight = weight }

pub record HasWaves (N : NamedNet BirthName) (weight : Weight) (ps : List BirthPair)
    (M : NamedNet BirthName) : Type 0 where
  pub labels : List (BirthPair × ℕ)
  pub after : WeightedNet BirthName
  pub run : IsWaveRun (weighted N weight) labels after
  pub labels_are : map (λ (q : BirthPair × ℕ). q.0) labels ≡ ps
  pub leads : after.net ≡ M

pub has_waves : (N : NamedNet BirthName) (weight : Weight) (ps : List BirthPair)
    (M : NamedNet BirthName) → IsPairRun N ps M → HasWaves N weight ps M
has_waves N weight [] M pairs.IsPairRun.end = record {
  labels = [];
  after = weighted N weight;
  run = end;
  labels_are = refl;
  leads = refl;
}
has_waves N weight (p ∷ ps) M (pairs.IsPairRun.then {M = K} s r) =
    let t = step_has_wave same_name name_test (born p.f p.g) (weighted N weight) p.f p.g p.rule K s in
    let h = has_waves K t.0 ps M r in
    record {
      labels = (p, suc (weight (slot p.f 0) (slot p.g 0))) ∷ h.labels;
      after = h.after;
      run = then t.1 h.run;
      labels_are = ap (λ qs. p ∷ qs) h.labels_are;
      leads = h.leads;
    }

pub run_has_waves : RunHasWaves
run_has_waves N M ps r = let h = has_waves N (λ u v. 0) ps M r in (h.labels, h.after, h.run, h.labels_are, h.leads)

pub journal_has_waves : JournalHasWaves
journal_has_waves N M journal net before r =
    let b = birth_follows N M journal net before r in
    let h = has_waves (net_under b.birth N) (λ u v. 0) b.pairs b.after b.run in (
      map (λ (q : BirthPair × ℕ). q.1) h.labels,
      record {
        births = b;
        pairs = h.labels;
        of_births = h.labels_are;
        waves_are = refl;
        after = h.after;
        run = h.run;
        same = subst (λ P. SameNet b.after P) (sym h.leads) (same_refl b.after);
      },
    )
