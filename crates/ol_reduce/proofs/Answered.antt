-- What the closed words of a table tell of the one-thread run of its net, and of the work on it.
use Rattle.std.proofs.Common.{◌≡◌, ◌↔◌, ◌∙◌, ℕ, ◌≤◌, List, length, refl, subst, arith}
use Rattle.ol_net.specs.Graph.{Graph}
use Rattle.ol_net.specs.Nets.{NamedNet, IsNet, net_under}
use Rattle.ol_net.specs.Numbered.{net_of}
use Rattle.ol_rules.specs.declared.journal.NodeName.{NodeName}
use Rattle.ol_rules.specs.declared.journal.NodeName.TheVariants.{Init}
use Rattle.ol_rules.specs.declared.journal.Entry.{Entry}
use Rattle.ol_rules.specs.Runs.{IsRun, IsOneThread}
use Rattle.ol_net.specs.Pairs.{IsComplete, HasActive}
use Rattle.ol_rules.proofs.StartNets.{start_net, start_named}
use Rattle.ol_diamond.specs.OneThread.{DoneTells, OneThreadExists, RunsAgree, SpentTells}
use Rattle.ol_wire.specs.declared.layout.Parts.{Parts}
use Rattle.ol_wire.specs.Closed.{ClosedTable, events_in, journal_in, journal_drawn, event_at, IsAfter, IsFuelUsed}
use Rattle.ol_wire.specs.Events.{entry_of}
use Rattle.ol_reduce.specs.OnceFrozen.{IsDoneOnceFrozen}
use Rattle.ol_reduce.specs.declared.answers.End.{End}
use Rattle.ol_reduce.specs.declared.answers.End.TheVariants as end
use Rattle.ol_reduce.specs.Reduced.{EndsWithin, IsAsLong, IsTableOf, IsSpent}
use Rattle.ol_reduce.proofs.Bounded.{events_few}
use Rattle.ol_reduce.proofs.Births.{length_each}

-- the journal has an entry for each ticket below the fuel
pub steps_in : (z : Parts) (words : List ℕ) → length (journal_in z words) ≡ events_in z words
steps_in z words = length_each (λ t. entry_of z (event_at z words t)) (events_in z words)

-- a run of the words is one of the net that the table was made from
pub from_net : (net : Graph) (w : ClosedTable) → w.plan.start.value ≡ net →
    (M : NamedNet NodeName) → IsAfter w M → IsRun (net_under Init (net_of net)) 0 (journal_in w.plan.parts w.words) M
from_net net w e M r = subst (λ (g : Graph).
    IsRun (net_under Init (net_of g)) 0 (journal_in w.plan.parts w.words) M) e r

pub few_steps : (w : ClosedTable) (fuel : ℕ) → w.plan.parts.fuel ≡ fuel →
    events_in w.plan.parts w.words ≤ w.plan.parts.fuel → length (journal_in w.plan.parts w.words) ≤ fuel
few_steps w fuel e few = omega (arith, steps_in w.plan.parts w.words, e, few)

-- where the net after the journal is complete, the one-thread run ends, and has as many steps
pub ends : DoneTells → (net : Graph) (w : ClosedTable) (fuel : ℕ) → IsNet (net_of net) →
    w.plan.start.value ≡ net → length (journal_in w.plan.parts w.words) ≤ fuel
    → (M : NamedNet NodeName) → IsAfter w M → IsComplete M →
    EndsWithin net fuel × IsAsLong net fuel (journal_in w.plan.parts w.words)
ends done net w fuel is_net e few M r complete =
    let agrees : (one_thread : List Entry) (P : NamedNet NodeName) →
    IsOneThread (net_under Init (net_of net)) fuel one_thread P
    → IsComplete P × RunsAgree (net_under Init (net_of net)) (journal_in w.plan.parts w.words) M one_thread P
    = λ one_thread P one. done (net_under Init (net_of net)) M P fuel
    (journal_in w.plan.parts w.words) one_thread (start_net (net_of net) is_net)
    (start_named (net_of net)) (from_net net w e M r) complete few one in (
      (λ one_thread P one. (agrees one_thread P one).0),
      (λ one_thread P one. (agrees one_thread P one).1.steps),
    )

-- where the fuel is used up and a pair is active, it doesn't end
pub goes_on : SpentTells → OneThreadExists → (net : Graph) (w : ClosedTable) (fuel : ℕ) →
    IsNet (net_of net) → w.plan.start.value ≡ net → length (journal_in w.plan.parts w.words) ≡ fuel
    → (M : NamedNet NodeName) → IsAfter w M → HasActive M → EndsWithin net fuel → ⊥
goes_on spent exists net w fuel is_net e all M r active within =
    let N = net_under Init (net_of net) in
    let one = exists N fuel (start_net (net_of net) is_net) (start_named (net_of net)) in
    let on = spent N M one.1 fuel (journal_in w.plan.parts w.words) one.0
    (start_net (net_of net) is_net) (start_named (net_of net)) (from_net net w e M r) active all one.2 in
    within one.0 one.1 one.2 on.0.0 on.0.1 on.0.2 on.0.3

-- ---- how the work ended, and what its words tell

-- work doesn't end in both ways
pub either_end : (e : End) → e ≡ end.Quiet → e ≡ end.Spent → ⊥
either_end end.Quiet quiet spent = absurd (cc)
either_end end.Spent quiet spent = absurd (cc)

module _ (net : Graph) (fuel seats : ℕ) (w : ClosedTable) (is_net : IsNet (net_of net))
    (table : IsTableOf net fuel seats w) (M : NamedNet NodeName) (after : IsAfter w M) where
  words_done : DoneTells → IsComplete M → IsDoneOnceFrozen net fuel seats w × EndsWithin net fuel
  words_done tells complete =
      let few = few_steps w fuel table.0.fuel (events_few w.plan.parts w.words) in
      let told = ends tells net w fuel is_net table.1 few M after complete in (
        (λ last frozen. record {
          table = table;
          read = refl;
          last_net = M;
          after = after;
          complete = complete;
          frozen = frozen M after;
          within = few;
          steps = told.1;
        }),
        told.0,
      )

  words_spent : SpentTells → OneThreadExists → HasActive M → IsFuelUsed w →
      IsSpent net fuel seats (journal_drawn w) w × (EndsWithin net fuel → ⊥)
  words_spent tells exists active used =
      let all = steps_in w.plan.parts w.words ∙ used ∙ table.0.fuel in (
        record {
          table = table;
          read = refl;
          last_net = M;
          after = after;
          active = active;
          steps = all;
        },
        goes_on tells exists net w fuel is_net table.1 all M after active,
      )

  pub words_tell : DoneTells → SpentTells → OneThreadExists → (e : End) → (e ≡ end.Quiet → IsComplete M) →
      (e ≡ end.Spent → HasActive M × IsFuelUsed w) →
      (e ≡ end.Quiet → IsDoneOnceFrozen net fuel seats w)
      × (e ≡ end.Spent → IsSpent net fuel seats (journal_drawn w) w) × ((e ≡ end.Quiet) ↔ EndsWithin net fuel)
  words_tell done spent exists end.Quiet complete active =
      let told = words_done done (complete refl) in
      ((λ q. told.0), (λ s. absurd (either_end end.Quiet refl s)), ((λ q. told.1), (λ within. refl)))
  words_tell done spent exists end.Spent complete active =
      let told = words_spent spent exists (active refl).0 (active refl).1 in (
        (λ q. absurd (either_end end.Spent q refl)),
        (λ s. told.0),
        ((λ q. absurd (either_end end.Spent q refl)), (λ within. absurd (told.1 within))),
      )
