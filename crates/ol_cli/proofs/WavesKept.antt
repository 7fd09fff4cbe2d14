-- The waves of a journal from a net are those from the same net, however the lists of the two are ordered.
use Rattle.std.proofs.Common.{ℕ, List, [], ◌∷◌, inl, inr}
use Rattle.ol_law_edges.specs.Edges.{Edge}
use Rattle.ol_law_edges.proofs.Composing.{contracted_map}
use Rattle.ol_net.specs.Nets.{NamedPort, slot, NamedNet, SameNet, net_under, IsPrincipalOf}
use Rattle.ol_rules.specs.declared.journal.NodeName.{NodeName}
use Rattle.ol_rules.specs.declared.journal.Entry.{Entry}
use Rattle.ol_rules.specs.Rewriting.{action_of}
use Rattle.ol_rules.proofs.Recount.{net_same}
use Rattle.ol_rules.proofs.Relation.{same_refl, same_sym, same_trans, rewrites_same}
use Rattle.ol_rules.proofs.Same.{step_same}
use Rattle.ol_rules.proofs.UnderNames.{same_under}
use Rattle.ol_diamond.specs.Births.{BirthName, born, IsBirthNet}
use Rattle.ol_diamond.specs.Runs.{BirthPair, IsPairRun}
use Rattle.ol_diamond.specs.Waves.{WeightedNet, weightless, LinkedWithin, JoinWithin, IsPairWave, IsWaveRun, AreWaves}
use Rattle.ol_diamond.proofs.Weighted.{iff_trans}

birth_net : (M N : NamedNet BirthName) → SameNet M N → IsBirthNet M → IsBirthNet N
birth_net M N same b = record {
  net = net_same M N same b.net;
  no_part = λ x y k l i j h h'. b.no_part x y k l i j ((same.nodes x k i).1 h) ((same.nodes y l j).1 h');
}

-- a run of pairs from the same net
pairs_from : (M N P : NamedNet BirthName) (ps : List BirthPair) → SameNet M N → IsPairRun M ps P →
    (Q : NamedNet BirthName) × IsPairRun N ps Q × SameNet P Q
pairs_from M N P [] same IsPairRun.end = (N, IsPairRun.end, same)
pairs_from M N P (p ∷ ps) same (IsPairRun.then {M = K} step run) =
    (P, IsPairRun.then (step_same M N same (born p.f p.g) p.f p.g p.rule K step) run, same_refl P)

-- the net of other lists, with the same weights
abbrev with_net : WeightedNet BirthName → NamedNet BirthName → WeightedNet BirthName
with_net N B = record { net = B; weight = N.weight }

-- the joins of a step that weigh n at most
abbrev Joins : (N : WeightedNet BirthName) (p : BirthPair × ℕ) (M : WeightedNet BirthName) →
    IsPairWave N p M → ℕ → NamedPort BirthName → NamedPort BirthName → Type 0
Joins N p M s n = JoinWithin (born p.0.f p.0.g) p.0.f p.0.g s.step.active.k s.step.active.l
    (action_of p.0.rule s.step.active.j) p.1 n

step_from : (N : WeightedNet BirthName) (B : NamedNet BirthName) → SameNet N.net B →
    (p : BirthPair × ℕ) (M : WeightedNet BirthName) → IsPairWave N p M → IsPairWave (with_net N B) p M
step_from N B same p M s =
    let a = s.step.active in
    record {
      step = record {
        active = record {
          k = a.k;
          i = a.i;
          l = a.l;
          j = a.j;
          faces = record {
            first = (same.nodes p.0.f a.k a.i).0 a.faces.first;
            second = (same.nodes p.0.g a.l a.j).0 a.faces.second;
            linked = (same.links (slot p.0.f 0) (slot p.0.g 0)).0 a.faces.linked;
          };
          fits = a.fits;
        };
        rewrites = rewrites_same (born p.0.f p.0.g) p.0.f p.0.g a.k a.i a.l
            (action_of p.0.rule a.j) N.net B M.net same s.step.rewrites;
      };
      wave_is = s.wave_is;
      weights = λ n u v. iff_trans (s.weights n u v)
          ((λ c. contracted_map (forth n) (λ u e x. x) u v c), (λ c. contracted_map (back n) (λ u e x. x) u v c));
    }
  where
    forth : (n : ℕ) (u v : NamedPort BirthName) →
        Edge (LinkedWithin N n) (IsPrincipalOf p.0.f p.0.g) (Joins N p M s n) u v →
        Edge (LinkedWithin (with_net N B) n) (IsPrincipalOf p.0.f p.0.g) (Joins N p M s n) u v
    forth n u v (inl e) = inl (((same.links u v).0 e.0.0, e.0.1), e.1, e.2)
    forth n u v (inr e) = inr e

    back : (n : ℕ) (u v : NamedPort BirthName) →
        Edge (LinkedWithin (with_net N B) n) (IsPrincipalOf p.0.f p.0.g) (Joins N p M s n) u v →
        Edge (LinkedWithin N n) (IsPrincipalOf p.0.f p.0.g) (Joins N p M s n) u v
    back n u v (inl e) = inl (((same.links u v).1 e.0.0, e.0.1), e.1, e.2)
    back n u v (inr e) = inr e

-- a run with weights from the same net
waves_from : (N : WeightedNet BirthName) (B : NamedNet BirthName) (M : WeightedNet BirthName)
    (ps : List (BirthPair × ℕ)) → SameNet N.net B → IsWaveRun N ps M →
    (Q : WeightedNet BirthName) × IsWaveRun (with_net N B) ps Q × SameNet M.net Q.net
waves_from N B M [] same IsWaveRun.end = (with_net N B, IsWaveRun.end, same)
waves_from N B M (p ∷ ps) same (IsWaveRun.then {M = K} s r) = (
  M,
  IsWaveRun.then (step_from N B same p K s) r,
  same_refl M.net,
)

pub waves_kept : (N N' M M' : NamedNet NodeName) (journal : List Entry) (waves : List ℕ) →
    SameNet N N' → SameNet M M' → AreWaves N journal M waves → AreWaves N' journal M' waves
waves_kept N N' M M' journal waves same last a =
    let b = a.births in
    let here = same_under b.birth N N' same in
    let r = pairs_from (net_under b.birth N) (net_under b.birth N') b.after b.pairs here b.run in
    let w = waves_from (weightless (net_under b.birth N)) (net_under b.birth N') a.after a.pairs here a.run in
    record {
      births = record {
        birth = b.birth;
        initial = b.initial;
        pairs = b.pairs;
        births = b.births;
        start = birth_net (net_under b.birth N) (net_under b.birth N') here b.start;
        after = r.0;
        run = r.1;
        same = same_trans r.0 b.after (net_under b.birth M') (same_sym b.after r.0 r.2)
            (same_trans b.after (net_under b.birth M) (net_under b.birth M') b.same (same_under b.birth M M' last));
        apart = λ x y k l i j h h' e. b.apart x y k l i j ((last.nodes x k i).1 h) ((last.nodes y l j).1 h') e;
      };
      pairs = a.pairs;
      of_births = a.of_births;
      waves_are = a.waves_are;
      after = w.0;
      run = w.1;
      same = same_trans r.0 b.after w.0.net (same_sym b.after r.0 r.2)
          (same_trans b.after a.after.net w.0.net a.same w.2);
    }
