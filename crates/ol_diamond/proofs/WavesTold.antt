-- Waves told along a run under any names are those of the run by birth names.
use Rattle.std.proofs.Common.{◌≡◌, ℕ, List, [], ◌∷◌, map, refl, sym, ap, subst, ◌∙◌}
use Rattle.ol_net.specs.declared.parts.Kind.{Kind}
use Rattle.ol_net.specs.declared.parts.Rule.{Rule}
use Rattle.ol_net.specs.Nets.{NamedNet, HasNode, Linked, IsNet, SameNet, port_under, net_under}
use Rattle.ol_rules.specs.Laws.{IsFresh}
use Rattle.ol_rules.specs.declared.journal.NodeName.{NodeName}
use Rattle.ol_rules.specs.declared.journal.Entry.{Entry}
use Rattle.ol_rules.proofs.Relation.{same_refl}
use Rattle.ol_rules.proofs.Renaming.{link_to, link_from}
use Rattle.ol_diamond.specs.Births.{BirthName, born, IsBirthNet}
use Rattle.ol_diamond.specs.Runs.{BirthPair}
use Rattle.ol_diamond.specs.Laws.{RunByBirths}
use Rattle.ol_diamond.specs.Waves.{WeightedNet, weightless, IsWaveStep, IsWaveRun, AreWaves}
use Rattle.ol_diamond.proofs.Confluence.{step_keeps, pair_refl}
use Rattle.ol_diamond.proofs.Journals.{AreSamePairs}
use Rattle.ol_diamond.proofs.Renaming.{IsRenamed, under_renamed}
use Rattle.ol_diamond.proofs.Orders as orders
use Rattle.ol_diamond.proofs.Weighted.{AreSame, StepsBy, Label, one_waves, start, state_of, run_as, pairs_of}
use Rattle.ol_diamond.proofs.WaveNames.{image, named}
use Rattle.ol_diamond.proofs.WeightedJournals.{has_waves}

-- each pair with its wave
abbrev labels : List BirthPair → List ℕ → List Label
labels (p ∷ ps) (w ∷ ws) = (p, w) ∷ labels ps ws
labels _ _ = []

module _ {A : Type 0} (m : A → BirthName) where
  -- these waves are told of these pairs, step by step, along nets with weights under names that m takes to birth names
  pub data Told : WeightedNet A → List BirthPair → List ℕ → WeightedNet A → Type 0 where
    end : {N : WeightedNet A} → Told N [] [] N
    then : {N M P : WeightedNet A} {names : ℕ →
        A} {f g : A} {r : Rule} {w : ℕ} {ps : List BirthPair} {ws : List ℕ} →
        IsWaveStep names N f g r w M → IsFresh N.net names →
        ((n : ℕ) → m (names n) ≡ born (m f) (m g) n) → IsNet M.net → Told M ps ws P →
        Told N (record { f = m f; g = m g; rule = r } ∷ ps) (w ∷ ws) P

  record Runs (N : WeightedNet A) (B : NamedNet BirthName) (ps : List BirthPair) (ws : List ℕ)
      (P : WeightedNet A) : Type 1 where
    after : NamedNet BirthName
    run : orders.Run StepsBy (image m N B) (labels ps ws) (image m P after)

  runs : (N P : WeightedNet A) (ps : List BirthPair) (ws : List ℕ) → Told N ps ws P → IsNet N.net →
      (B : NamedNet BirthName) → IsBirthNet B → IsRenamed m N.net B → Runs N B ps ws P
  runs N P [] [] end net B b r = record { after = B; run = orders.Run.end }
  runs N P [] (w ∷ ws) t net B b r = elim t [ ]
  runs N P (p ∷ ps) [] t net B b r = elim t [ ]
  runs N P (p ∷ ps) (w ∷ ws) (then {M = M} {names = names} {f = f} {g = g} {r = rule} s fresh births net' t) net B b r =
      let x = named m names N f g rule w M s net fresh B b r births in
      let y = runs M P ps ws t net' x.after (step_keeps B x.after p b x.step) x.renames_after in
      record { after = y.after; run = orders.Run.then x.waved y.run }

  start_same : (N : NamedNet A) → AreSame (state_of (weightless (net_under m N)))
      (image m (weightless N) (net_under m N))
  unfolding state_of image
  start_same N = record {
    nets = same_refl (net_under m N);
    within = λ n U V. (
      (λ h. let t = link_from m N U V h.0 in (t.0, t.1, (t.4, h.1), t.2, t.3)),
      (λ h. (
        subst (λ U. Linked (net_under m N) U V) (sym h.3)
            (subst (λ V. Linked (net_under m N) (port_under m h.0) V) (sym h.4) (link_to m N h.0 h.1 h.2.0)),
        h.2.1,
      )),
    );
  }

pairs_are : {A : Type 0} (m : A → BirthName) (N P : WeightedNet A) (ps : List BirthPair)
    (ws : List ℕ) → Told m N ps ws P → pairs_of (labels ps ws) ≡ ps
pairs_are m N P [] [] end = refl
pairs_are m N P [] (w ∷ ws) t = elim t [ ]
pairs_are m N P (p ∷ ps) [] t = elim t [ ]
pairs_are m N P (p ∷ ps) (w ∷ ws) (then {M = M} s fresh births net' t) = ap (λ ps. p ∷ ps) (pairs_are m M P ps ws t)

waves_are : {A : Type 0} (m : A → BirthName) (N P : WeightedNet A) (ps : List BirthPair)
    (ws : List ℕ) → Told m N ps ws P → map (λ (p : Label). p.1) (labels ps ws) ≡ ws
waves_are m N P [] [] end = refl
waves_are m N P [] (w ∷ ws) t = elim t [ ]
waves_are m N P (p ∷ ps) [] t = elim t [ ]
waves_are m N P (p ∷ ps) (w ∷ ws) (then {M = M} s fresh births net' t) = ap (λ ws. w ∷ ws) (waves_are m M P ps ws t)

same_pairs : (ps : List BirthPair) → AreSamePairs ps ps
same_pairs [] = tt
same_pairs (p ∷ ps) = (pair_refl p, same_pairs ps)

pub are_waves : {A : Type 0} (m : A → BirthName) (N M : NamedNet NodeName) (journal : List Entry)
    (b : RunByBirths N journal M) (K : NamedNet A) (P : WeightedNet A) (ws : List ℕ) →
    net_under m K ≡ net_under b.birth N → IsNet K →
    ((x y : A) (k l : Kind) (i j : ℕ) → HasNode K x k i → HasNode K y l j → m x ≡ m y → x ≡ y) →
    Told m (weightless K) b.pairs ws P → AreWaves N journal M ws
are_waves m N M journal b K P ws e net apart t =
    let B = net_under m K in
    let birth = subst IsBirthNet (sym e) b.start in
    let h = has_waves (net_under b.birth N) (λ u v. 0) b.pairs b.after b.run in
    let run = subst (λ B. IsWaveRun (weightless B) h.labels h.after) (sym e) h.run in
    let r = runs m (weightless K) P b.pairs ws t net B birth (under_renamed m K apart) in
    let pairs : AreSamePairs (pairs_of h.labels) (pairs_of (labels b.pairs ws)) =
    subst (λ ps. AreSamePairs ps (pairs_of (labels b.pairs ws))) (sym h.labels_are)
    (subst (λ ps. AreSamePairs b.pairs ps) (sym (pairs_are m (weightless K) P b.pairs ws t))
    (same_pairs b.pairs)) in
    let one = one_waves (state_of (weightless B)) (image m (weightless K) B) (state_of h.after)
    (image m P r.after) h.labels (labels b.pairs ws) (start B birth) (start_same m K)
    (run_as (weightless B) h.after h.labels run) r.run pairs in
    record {
      births = b;
      pairs = h.labels;
      of_births = h.labels_are;
      waves_are = one ∙ waves_are m (weightless K) P b.pairs ws t;
      after = h.after;
      run = h.run;
      same = subst (λ P. SameNet b.after P) (sym h.leads) (same_refl b.after);
    }
