-- The one-thread run is told by any run.
use Rattle.std.proofs.Common.{◌≡◌, ℕ, ◌≤◌, ◌<◌, List, length, ◌⊎◌, inl, inr, arith}
use Rattle.ol_net.specs.Nets.{NamedNet, IsNet}
use Rattle.ol_rules.specs.declared.journal.NodeName.{NodeName}
use Rattle.ol_rules.specs.declared.journal.Entry.{Entry}
use Rattle.ol_rules.proofs.LeadRuns.{as_run}
use Rattle.ol_rules.specs.Laws.{AreNamedBefore}
use Rattle.ol_rules.specs.Runs.{IsRun, IsOneThread}
use Rattle.ol_net.specs.Pairs.{IsComplete, HasActive}
use Rattle.ol_diamond.specs.OneThread.{OneThreadExists, DoneTells, SpentTells, LongerTells}
use Rattle.ol_diamond.specs.OneThread.{SomeEndsWithin, EndsWhereSomeEnds}
use Rattle.ol_diamond.proofs.OneThreadLeads.{active_or_complete, one_thread_run}
use Rattle.ol_diamond.proofs.OneThreadRuns.{run_net, not_longer, goes_on_shorter, runs_agree}

not_both : {A : Type 0} (M : NamedNet A) → HasActive M → IsComplete M → ⊥
not_both M (f, g, rule, a) c = c f g rule a

module _ (N P : NamedNet NodeName) (fuel : ℕ) (one_thread : List Entry) (is_net : IsNet N)
    (before : AreNamedBefore N 0) (o : IsOneThread N fuel one_thread P) where
  its_run : IsRun N 0 one_thread P
  its_run = as_run N P 0 one_thread o.leads

  pub goes_on_or_ends : HasActive P ⊎ IsComplete P
  goes_on_or_ends = active_or_complete P (run_net N P 0 one_thread is_net before its_run)

  pub full : HasActive P → length one_thread ≡ fuel
  full a = elim o.ended [ inl c ↦ absurd (not_both P a c) | inr e ↦ e ]

  module _ (M : NamedNet NodeName) (journal : List Entry) (run : IsRun N 0 journal M) where
    -- where a complete run is within the fuel, the one-thread run ends
    pub ends : IsComplete M → length journal ≤ fuel → IsComplete P
    ends c within = go goes_on_or_ends
      where
        clash : HasActive P → ⊥
        clash a =
            let shorter = goes_on_shorter N is_net before P M one_thread journal its_run run a c in
            let all = full a in
            omega (arith, shorter, all, within)

        go : HasActive P ⊎ IsComplete P → IsComplete P
        go (inr c) = c
        go (inl a) = absurd (clash a)

    -- where a run can go on after so many steps, or is longer, so can the one-thread run
    pub goes_on : HasActive M → length journal ≡ fuel → HasActive P
    goes_on a size = go goes_on_or_ends
      where
        clash : IsComplete P → ⊥
        clash c =
            let shorter = goes_on_shorter N is_net before M P journal one_thread run its_run a c in
            let within = o.within in
            omega (arith, shorter, size, within)

        go : HasActive P ⊎ IsComplete P → HasActive P
        go (inl a) = a
        go (inr c) = absurd (clash c)

    pub goes_on_longer : fuel < length journal → HasActive P
    goes_on_longer long = go goes_on_or_ends
      where
        clash : IsComplete P → ⊥
        clash c =
            let shorter = not_longer N is_net before M P journal one_thread run its_run c in
            let within = o.within in
            omega (arith, shorter, long, within)

        go : HasActive P ⊎ IsComplete P → HasActive P
        go (inl a) = a
        go (inr c) = absurd (clash c)

-- ---- the laws

pub one_thread_exists : OneThreadExists
one_thread_exists N fuel is_net before = one_thread_run N fuel is_net before

pub done_tells : DoneTells
done_tells N M P fuel journal one_thread is_net before run complete within o =
    let c = ends N P fuel one_thread is_net before o M journal run complete within in
    (c, runs_agree N is_net before M P journal one_thread run (as_run N P 0 one_thread o.leads) complete c)

pub spent_tells : SpentTells
spent_tells N M P fuel journal one_thread is_net before run active size o =
    let a = goes_on N P fuel one_thread is_net before o M journal run active size in
    (a, full N P fuel one_thread is_net before o a)

pub longer_tells : LongerTells
longer_tells N M P fuel journal one_thread is_net before run long o =
    let a = goes_on_longer N P fuel one_thread is_net before o M journal run long in
    (a, full N P fuel one_thread is_net before o a)

pub ends_where_some_ends : EndsWhereSomeEnds
ends_where_some_ends N P fuel one_thread is_net before o = (
  (itself, some),
  (none, go (goes_on_or_ends N P fuel one_thread is_net before o)),
)
  where
    itself : IsComplete P → SomeEndsWithin N fuel
    itself c = (one_thread, P, as_run N P 0 one_thread o.leads, c, o.within)

    some : SomeEndsWithin N fuel → IsComplete P
    some (journal, M, run, c, within) = ends N P fuel one_thread is_net before o M journal run c within

    none : HasActive P → SomeEndsWithin N fuel → ⊥
    none a e = not_both P a (some e)

    go : HasActive P ⊎ IsComplete P → (SomeEndsWithin N fuel → ⊥) → HasActive P
    go (inl a) h = a
    go (inr c) h = absurd (h (itself c))
