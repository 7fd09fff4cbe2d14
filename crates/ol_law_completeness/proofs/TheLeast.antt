-- Demand order is the least of the runs that it is compared with, and which demands are wrong.
use Rattle.std.proofs.Common.{◌≡◌, ℕ, suc, ◌+◌, List, [], ◌∷◌, ◌++◌, length, subst, arith, length-append}
use Rattle.ol_net.specs.Nets.{NamedNet}
use Rattle.ol_rules.specs.declared.journal.NodeName.{NodeName}
use Rattle.ol_rules.specs.declared.journal.Entry.{Entry}
use Rattle.ol_rules.specs.Laws.{AreNamedBefore}
use Rattle.ol_rules.specs.Rewriting.{action_of}
use Rattle.ol_rules.specs.Runs.{IsRun}
use Rattle.ol_rules.proofs.OneRun.{named_after}
use Rattle.ol_rules.proofs.RunsOn.{run_on}
use Rattle.ol_diamond.proofs.Confluence.{pair_trans}
use Rattle.ol_diamond.proofs.Journals.{birth_follows}
use Rattle.ol_diamond.proofs.OneThreadRuns.{run_net}
use Rattle.ol_demand.specs.Demands.{and_then, asks}
use Rattle.ol_demand.proofs.Turning.{turns_kept}
use Rattle.ol_law_completeness.specs.TheLeast.{EnoughIsKept, DemandIsTheLeast}
use Rattle.ol_law_completeness.specs.TheLeast.{LeastIsInCommon, TheLeastIsOne, OneMoreIsNotLeast}
use Rattle.ol_law_completeness.specs.TheLeast.{LongerIsNotLeast, StoppedIsNotEnough, MissingIsNotEnough}
use Rattle.ol_law_completeness.proofs.Demanded.{demanded_is_enough}
use Rattle.ol_law_completeness.proofs.Frozen.{meets_of}
use Rattle.ol_law_completeness.proofs.Lasting.{lasts_run, lasts_step, enough_lasts}
use Rattle.ol_law_completeness.proofs.Least.{demand_is_least}
use Rattle.ol_law_completeness.proofs.Listing.{step_turn}
use Rattle.ol_law_completeness.proofs.Serving.{lasts_beyond, one_net}

-- ---- runs that go on

run_named : (N M : NamedNet NodeName) (t u : ℕ) (es : List Entry) → AreNamedBefore N t →
    IsRun N t es M → u ≡ t + length es → AreNamedBefore M u
run_named N M t u [] b IsRun.end e =
    let q : t ≡ u = omega arith in subst (λ t. AreNamedBefore N t) q b
run_named N M t u (e ∷ es) b (IsRun.then {M = K} s r) q =
    run_named K M (suc t) u es (named_after N K t s.f s.g s.step.active.k s.step.active.i
    s.step.active.l (action_of e.rule s.step.active.j) b s.step.rewrites) r (omega arith)

run_then : (N M P : NamedNet NodeName) (t u : ℕ) (es fs : List Entry) → IsRun N t es M →
    u ≡ t + length es → IsRun M u fs P → IsRun N t (es ++ fs) P
run_then N M P t u [] fs IsRun.end e r =
    let q : u ≡ t = omega arith in subst (λ t. IsRun N t fs P) q r
run_then N M P t u (d ∷ es) fs (IsRun.then {M = K} s r) e r' =
    IsRun.then s (run_then K M P (suc t) u es fs r (omega arith) r')

pub enough_is_kept : EnoughIsKept
enough_is_kept N M P heads journal more s clear run onward enough =
    let is_net = run_net N M 0 journal s.net s.named run in
    let named = run_named N M 0 (length journal) journal s.named run (omega arith) in
    enough_lasts M P (lasts_run M P (length journal) more is_net named (λ es K r.
    clear (journal ++ es) K (run_then N M K 0 (length journal) journal es run (omega arith) r))
    onward) enough

-- ---- the least

pub demand_is_the_least : DemandIsTheLeast
demand_is_the_least N M heads journal places s clear d =
    let k = turns_kept s d.run in
    let births = birth_follows N M journal s.net s.named k.run in
    let enough = demanded_is_enough N M heads journal places s clear d in
    record {
      least = record {
        net = M;
        run = k.run;
        births = births;
        needed = λ other P run e u.
            (demand_is_least N M P heads heads d.turns journal other d.asked_places d.last s clear
            (omega arith) d.run run e).0 births u;
        no_shorter = λ other P run e.
            (demand_is_least N M P heads heads d.turns journal other d.asked_places d.last s clear
            (omega arith) d.run run e).1;
      };
      enough = enough;
      serves = λ other P run u all.
          enough_lasts M P (lasts_beyond N M P journal other s clear k.run run births u all) enough;
    }

pub least_is_in_common : LeastIsInCommon
least_is_in_common N heads journal l q = (
  λ h. h journal l.least.net l.least.run l.enough l.least.births,
  λ t other P run e s.
      (let y = l.least.needed other P run e s t.0 t.1 in
      (y.0, y.1, pair_trans y.0 t.0 q y.2 t.2)),
)

pub the_least_is_one : TheLeastIsOne
the_least_is_one N heads journal journal' s clear l l' =
    let a = l.least.no_shorter journal' l'.least.net l'.least.run l'.enough in
    let b = l'.least.no_shorter journal l.least.net l.least.run l.enough in
    let all = l.least.needed journal' l'.least.net l'.least.run l'.enough l'.least.births in
    let back = l'.least.needed journal l.least.net l.least.run l.enough l.least.births in (
      all,
      back,
      omega arith,
      one_net N l.least.net l'.least.net journal journal' s clear l.least.run l'.least.run
          l.least.births l'.least.births all (omega arith),
    )

-- ---- wrong demands

pub longer_is_not_least : LongerIsNotLeast
longer_is_not_least N M heads journal other places s clear d b l =
    let k = turns_kept s d.run in
    let z = l.no_shorter journal M k.run (demanded_is_enough N M heads journal places s clear d) in
    omega arith

pub one_more_is_not_least : OneMoreIsNotLeast
one_more_is_not_least N M P heads journal places e s clear d step =
    let k = turns_kept s d.run in
    let run = run_on N M P 0 (length journal) journal e k.run (omega arith) step in
    let longer = length-append journal (e ∷ []) in (
      enough_lasts M P (lasts_step M P (length journal) e k.net k.named
          (clear (journal ++ e ∷ []) P run) step)
          (demanded_is_enough N M heads journal places s clear d),
      longer_is_not_least N M heads journal (journal ++ e ∷ []) places s clear d (omega arith),
    )

pub stopped_is_not_enough : StoppedIsNotEnough
stopped_is_not_enough N M P heads journal other s clear g run few enough =
    let k = turns_kept s g.run in
    let x = step_turn heads M (length journal) g.frames g.subterm g.later g.lams k.net k.named
    g.meets.below g.first g.second g.rule (meets_of g.meets.ends).at.active g.meets.ends in
    let z = (demand_is_least N x.after P heads heads (suc g.turns) (journal ++ x.entry ∷ []) other
    (g.places ++ []) (asks g.frames (g.subterm ∷ g.later) g.lams) s clear (omega arith)
    (and_then g.run x.turn) run enough).1 in
    let longer = length-append journal (x.entry ∷ []) in
    omega arith

pub missing_is_not_enough : MissingIsNotEnough
missing_is_not_enough N M P heads turns journal other places a s clear t run r u q i none enough =
    let z = (demand_is_least N M P heads heads turns journal other places a s clear (omega arith) t
    run enough).0 r u q i in
    none z.0 z.1 z.2
