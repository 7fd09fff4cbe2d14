-- The laws of waves.
use Rattle.std.specs.Prelude.{◌≡◌, ℕ, suc, Bool, List, count_by, map}
use Rattle.ol_law_edges.specs.Edges.{IsIn, IsTest}
use Rattle.ol_net.specs.declared.parts.Rule.{Rule}
use Rattle.ol_net.specs.Nets.{NamedPort, slot, NamedNet, IsNet}
use Rattle.ol_rules.specs.declared.journal.NodeName.{NodeName}
use Rattle.ol_rules.specs.declared.journal.Entry.{Entry}
use Rattle.ol_rules.specs.Rewriting.{IsStep}
use Rattle.ol_rules.specs.Laws.{AreNamedBefore}
use Rattle.ol_net.specs.Pairs.{IsComplete}
use Rattle.ol_rules.specs.Runs.{IsRun}
use Rattle.ol_diamond.specs.Births.{BirthName, IsBirthNet}
use Rattle.ol_diamond.specs.Runs.{BirthPair, IsPairRun}
use Rattle.ol_diamond.specs.Waves.{WeightedNet, weightless, IsWaveStep, AreWaves, IsWaveRun, IsSameWave, IsOfWaves}

-- Complete runs have the same pairs with the same waves, each as often.
abbrev pub WavesAgree : Type 0
WavesAgree = (N : NamedNet BirthName) (M P : WeightedNet BirthName) (ps qs : List (BirthPair × ℕ)) → IsBirthNet N →
    IsWaveRun (weightless N) ps M → IsComplete M.net → IsWaveRun (weightless N) qs P → IsComplete P.net →
    (test : BirthPair × ℕ → Bool) → IsOfWaves test → count_by test ps ≡ count_by test qs

-- So each pair of the one is a pair of the other, with the same wave.
abbrev pub EachPairHasItsWave : Type 0
EachPairHasItsWave = (N : NamedNet BirthName) (M P : WeightedNet BirthName)
    (ps qs : List (BirthPair × ℕ)) → IsBirthNet N →
    IsWaveRun (weightless N) ps M → IsComplete M.net → IsWaveRun (weightless N) qs P → IsComplete P.net →
    (p : BirthPair × ℕ) → IsIn p ps → (q : BirthPair × ℕ) × IsIn q qs × IsSameWave p q

-- A run has one list of waves.
abbrev pub RunHasOneWaves : Type 0
RunHasOneWaves = (N : NamedNet BirthName) (M P : WeightedNet BirthName) (ps qs : List (BirthPair × ℕ)) → IsBirthNet N →
    IsWaveRun (weightless N) ps M → IsWaveRun (weightless N) qs P →
    map (λ (p : BirthPair × ℕ). p.0) ps ≡ map (λ (q : BirthPair × ℕ). q.0) qs → ps ≡ qs

-- Journals of complete runs from one net give each pair, by birth names, one wave.
abbrev pub JournalWavesAgree : Type 0
JournalWavesAgree = (N M P : NamedNet NodeName) (js ks : List Entry) (ws vs : List ℕ) → IsNet N → AreNamedBefore N 0 →
    IsRun N 0 js M → IsComplete M → IsRun N 0 ks P → IsComplete P → (w : AreWaves N js M ws) (v : AreWaves N ks P vs) →
    (p : BirthPair × ℕ) → IsIn p w.pairs → (q : BirthPair × ℕ) × IsIn q v.pairs × IsSameWave p q

-- A journal has one list of waves.
abbrev pub JournalHasOneWaves : Type 0
JournalHasOneWaves = (N M : NamedNet NodeName) (journal : List Entry) (ws vs : List ℕ) → IsNet N → AreNamedBefore N 0 →
    IsRun N 0 journal M → AreWaves N journal M ws → AreWaves N journal M vs → ws ≡ vs

-- Whatever its links weigh, each step of a net has a wave and leaves a net with weights.
abbrev pub StepHasWave : Type 0 → Type 0
StepHasWave A = (same : A → A → Bool) → IsTest same →
    (names : ℕ → A) (N : WeightedNet A) (f g : A) (r : Rule) (M : NamedNet A) →
    IsStep names N.net f g r M → (weight : NamedPort A → NamedPort A → ℕ) ×
    IsWaveStep names N f g r (suc (N.weight (slot f 0) (slot g 0))) (record { net = M; weight = weight })

-- So each run has waves,
abbrev pub RunHasWaves : Type 0
RunHasWaves = (N M : NamedNet BirthName) (ps : List BirthPair) → IsPairRun N ps M →
    (qs : List (BirthPair × ℕ)) × (P : WeightedNet BirthName) ×
    IsWaveRun (weightless N) qs P × (map (λ (q : BirthPair × ℕ). q.0) qs ≡ ps) × (P.net ≡ M)

-- and so does each journal.
abbrev pub JournalHasWaves : Type 0
JournalHasWaves = (N M : NamedNet NodeName) (journal : List Entry) → IsNet N → AreNamedBefore N 0 →
    IsRun N 0 journal M →
    (waves : List ℕ) × AreWaves N journal M waves
