-- Two runs along journals from a net of start nodes: complete ones agree, and one that goes on is
-- shorter than a complete one.
use Rattle.std.proofs.Common.{◌≡◌, ℕ, suc, ◌≤◌, ◌<◌, true, List, [], ◌∷◌, ◌++◌, length, sym, ap}
use Rattle.std.proofs.Common.{◌∙◌, subst, arith, length-append}
use Rattle.std.proofs.lemmas.Bool.Decides.{nat_tests}
use Rattle.ol_net.specs.declared.parts.Rule.{Rule}
use Rattle.ol_net.specs.Nets.{NamedNet, IsNet, SameNet, net_under}
use Rattle.ol_rules.specs.declared.journal.NodeName.{NodeName}
use Rattle.ol_rules.specs.declared.journal.NodeName.TheVariants.{Init, Born}
use Rattle.ol_rules.specs.declared.journal.Entry.{Entry}
use Rattle.ol_rules.specs.Counting.{is_rule, times_applied}
use Rattle.ol_rules.specs.Names.{comes_before}
use Rattle.ol_rules.specs.Rewriting.{action_of}
use Rattle.ol_rules.specs.Laws.{AreNamedBefore}
use Rattle.ol_rules.specs.Runs.{IsRun}
use Rattle.ol_net.specs.Pairs.{IsComplete, HasActive}
use Rattle.ol_rules.proofs.OneRun.{name_same, name_test, fresh_names, named_after}
use Rattle.ol_rules.proofs.Relation.{same_sym, same_trans, net_kept}
use Rattle.ol_rules.proofs.Renaming.{net_alike, active_to}
use Rattle.ol_rules.proofs.Same.{active_same}
use Rattle.ol_diamond.specs.Births.{BirthName, init}
use Rattle.ol_diamond.specs.Runs.{BirthPair, IsPairStep, IsPairRun, end, then}
use Rattle.ol_diamond.specs.Laws.{RunByBirths}
use Rattle.ol_diamond.specs.OneThread.{RunsAgree}
use Rattle.ol_diamond.proofs.Journals.{birth_follows, complete_follows}
use Rattle.ol_diamond.proofs.Confluence.{run_keeps, take, no_run_is_longer}
use Rattle.ol_diamond.proofs.Confluence.{complete_runs_have_one_pairs, complete_runs_leave_one_net}
use Rattle.ol_diamond.proofs.Renaming.{renamed_under}
use Rattle.ol_diamond.proofs.OneThreadCounts.{as_many, as_often, one_counts}
use Rattle.ol_diamond.proofs.OneThreadNames.{across, across_birth, across_renames}

-- a run leads from a net to a net
pub run_net : (N M : NamedNet NodeName) (t : ℕ) (es : List Entry) → IsNet N → AreNamedBefore N t →
    IsRun N t es M → IsNet M
run_net N M t [] n b IsRun.end = n
run_net N M t (e ∷ es) n b (IsRun.then {M = K} s r) =
    let a = s.step.active in
    let n' : IsNet K = net_kept name_same name_test
    (λ place. Born t place) N s.f s.g a.k a.i a.l a.j e.rule n a.faces
    (fresh_names N t b) a.fits K s.step.rewrites in
    let b' = named_after N K t s.f s.g a.k a.i a.l (action_of e.rule a.j) b s.step.rewrites in
    run_net K M (suc t) es n' b' r

-- a run goes on by one pair
one_more : (N M P : NamedNet BirthName) (ps : List BirthPair) (p : BirthPair) → IsPairRun N ps M →
    IsPairStep M p P → IsPairRun N (ps ++ p ∷ []) P
one_more N M P [] p end s = then s end
one_more N M P (q ∷ ps) p (then {M = K} t r) s = then t (one_more K M P ps p r s)

module _ (N : NamedNet NodeName) (net : IsNet N) (before : AreNamedBefore N 0) where
  -- the start nodes have one birth name in all runs
  pub start_alike : (m n : NodeName → BirthName) → ((k : ℕ) → m (Init k) ≡ init k) →
      ((k : ℕ) → n (Init k) ≡ init k) → net_under m N ≡ net_under n N
  start_alike m n a b = net_alike m n N net (λ x k i h. go x (before x k i h))
    where
      clash : (t p : ℕ) → comes_before (Born t p) (Born 0 0) ≡ true → ⊥
      clash t p h = grind (arith, nat_tests)

      go : (x : NodeName) → comes_before x (Born 0 0) ≡ true → m x ≡ n x
      go (Init k) h = a k ∙ sym (b k)
      go (Born t p) h = absurd (clash t p h)

  module _ (L M : NamedNet NodeName) (es fs : List Entry) (run : IsRun N 0 es L) (run' : IsRun N 0 fs M) where
    r : RunByBirths N es L
    r = birth_follows N L es net before run

    s : RunByBirths N fs M
    s = birth_follows N M fs net before run'

    -- the second run, from the net of the first
    second : IsPairRun (net_under r.birth N) s.pairs s.after
    second = subst (λ B. IsPairRun B s.pairs s.after) (start_alike s.birth r.birth s.initial r.initial) s.run

    -- no run is longer than a complete one
    pub not_longer : IsComplete M → length es ≤ length fs
    not_longer d =
        let d' = (complete_follows N M fs net before run' s).0 d in
        let x = no_run_is_longer (net_under r.birth N) s.after r.after s.pairs r.pairs r.start second d' r.run in
        let u = as_many r.birth 0 es r.pairs r.births in
        let v = as_many s.birth 0 fs s.pairs s.births in
        omega arith

    same_rules : IsComplete r.after → IsComplete s.after → (rule : Rule) → times_applied rule fs ≡ times_applied rule es
    same_rules c d rule =
        as_often s.birth 0 fs s.pairs rule s.births
        ∙ sym (complete_runs_have_one_pairs (net_under r.birth N) r.after s.after r.pairs s.pairs
        r.start r.run c second d (λ (p : BirthPair). is_rule p.rule rule)
        (λ p q same. ap (λ x. is_rule x rule) same.0))
        ∙ sym (as_often r.birth 0 es r.pairs rule r.births)

    same_nets : IsComplete r.after → IsComplete s.after → SameNet (net_under r.birth L) (net_under s.birth M)
    same_nets c d =
        let between = complete_runs_leave_one_net
        (net_under r.birth N) r.after s.after r.pairs s.pairs r.start r.run c second d in
        same_trans (net_under r.birth L) r.after (net_under s.birth M)
        (same_sym r.after (net_under r.birth L) r.same)
        (same_trans r.after s.after (net_under s.birth M) between s.same)

    -- a run that goes on is shorter than a complete one
    pub goes_on_shorter : HasActive L → IsComplete M → length es < length fs
    goes_on_shorter (f, g, rule, a) d =
        let d' = (complete_follows N M fs net before run' s).0 d in
        let a' = active_same (net_under r.birth L) r.after
        (same_sym r.after (net_under r.birth L) r.same) (r.birth f) (r.birth g) rule
        (active_to r.birth L f g rule a) in
        let p : BirthPair = record { f = r.birth f; g = r.birth g; rule = rule } in
        let k = take r.after (run_keeps (net_under r.birth N) r.after r.pairs r.start r.run) p a'.k
        a'.i a'.l a'.j a'.faces a'.fits in
        let more = one_more (net_under r.birth N) r.after k.after r.pairs p r.run k.step in
        let x = no_run_is_longer (net_under r.birth N) s.after k.after s.pairs
        (r.pairs ++ p ∷ []) r.start second d' more in
        let w = length-append r.pairs (p ∷ []) in
        let u = as_many r.birth 0 es r.pairs r.births in
        let v = as_many s.birth 0 fs s.pairs s.births in
        omega arith

  -- complete runs agree
  pub runs_agree : (L M : NamedNet NodeName) (es fs : List Entry) → IsRun N 0 es L →
      IsRun N 0 fs M → IsComplete L → IsComplete M → RunsAgree N es L fs M
  runs_agree L M es fs run run' c d =
      let a : RunByBirths N es L = r L M es fs run run' in
      let b : RunByBirths N fs M = s L M es fs run run' in
      let c' = (complete_follows N L es net before run a).0 c in
      let d' = (complete_follows N M fs net before run' b).0 d in
      let n = run_net N L 0 es net before run in
      let n' = run_net N M 0 fs net before run' in
      let same = same_nets L M es fs run run' c' d' in
      let renamed = across_renames a.birth b.birth L M a.apart b.apart n n' same in
      let names = across a.birth b.birth L M a.apart b.apart n n' same in
      let rules = same_rules L M es fs run run' c' d' in
      let u = not_longer L M es fs run run' d in
      let v = not_longer M L fs es run' run c in
      record {
        steps = omega (arith, u, v);
        rules = rules;
        counts = one_counts fs es rules;
        one = record { births = a; births' = b; same = same };
        names = names;
        written = record {
          apart = renamed.apart;
          same = same_sym M (net_under names L) (renamed_under names L M renamed);
        };
        by_birth = λ x k i h. sym (across_birth a.birth b.birth L M a.apart b.apart n n' same x k i h);
      }
