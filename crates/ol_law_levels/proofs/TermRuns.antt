-- No run from the net of a term leads to a net with a stuck pair.
use Rattle.std.proofs.Common.{ℕ, suc, List, [], ◌∷◌, refl, arith}
use Rattle.ol_context.specs.Short.{IsOnce}
use Rattle.ol_demand.proofs.Needed.{turns_are_run}
use Rattle.ol_demand.proofs.Onward.{is_start}
use Rattle.ol_demand.proofs.UnderNames.{once_under}
use Rattle.ol_demand.specs.Answers.{start_of}
use Rattle.ol_demand.specs.Laws.{IsStart}
use Rattle.ol_law_levels.proofs.Runs as levels
use Rattle.ol_law_levels.proofs.Runs.{same_levelled, start_levelled}
use Rattle.ol_law_levels.proofs.Terms.{term_is_levelled, number_in}
use Rattle.ol_law_levels.specs.Levels.{IsLevelled}
use Rattle.ol_net.specs.Nets.{NamedNet, IsNet, net_under}
use Rattle.ol_net.specs.Numbered.{net_of, numbered_from}
use Rattle.ol_net.specs.declared.parts.Kind.{Kind}
use Rattle.ol_rules.proofs.LeadRuns.{as_run}
use Rattle.ol_rules.proofs.Relation.{same_sym}
use Rattle.ol_rules.proofs.StartNets.{start_net, start_named, one_start}
use Rattle.ol_rules.specs.Runs.{IsRun}
use Rattle.ol_rules.specs.declared.journal.Entry.{Entry}
use Rattle.ol_rules.specs.declared.journal.NodeName.TheVariants.{Init, Born}
use Rattle.ol_rules.specs.declared.journal.NodeName.{NodeName}
use Rattle.ol_term.specs.Trees.{Tree}
use Rattle.ol_term.specs.declared.translations.Translation.{Translation}
use Rattle.ol_translate.proofs.Whole.{translation_net}
use Rattle.ol_translate.specs.Names.{HasNames}
use Rattle.ol_translate.specs.Translation.{nodes_of, translation_of}
use Rattle.ol_law_levels.proofs.Names.{same_unblocked, named_unblocked, under_unstuck}
use Rattle.ol_law_levels.proofs.UnblockedRuns.{unblocked_is_unstuck, run_keeps_unblocked}
use Rattle.ol_law_levels.proofs.UnblockedTerms.{term_is_unblocked}
use Rattle.ol_law_levels.specs.UnblockedLaws.{IsUnstuck}
use Rattle.ol_law_levels.specs.Terms.{NoPairIsStuck, NoPairIsStuckInOrder, NoPairOfAGraphIsStuck, StartIsUnblocked}
use Rattle.ol_law_levels.specs.Unblocked.{IsUnblocked}

number_of : NodeName → ℕ
number_of (Init n) = n
number_of (Born t p) = 0

pub start_unblocked : StartIsUnblocked
unfolding number_of
start_unblocked N u = named_unblocked Init number_of (λ x. refl) N u

-- from a net of numbers
run_unstuck : (N : NamedNet ℕ) → IsNet N → IsLevelled N → IsUnblocked N → (journal : List Entry)
    (M : NamedNet NodeName) → IsRun (net_under Init N) 0 journal M → IsUnstuck M
run_unstuck N n L u journal M r =
    let start = net_under Init N in
    (unblocked_is_unstuck M
    (levels.run_keeps start M 0 journal (start_net N n) (start_named N) r (start_levelled N L))
    (run_keeps_unblocked start M 0 journal (start_net N n) (start_named N) r (start_unblocked N u))).0

pub no_pair_is_stuck : NoPairIsStuck
no_pair_is_stuck w t names h journal M r =
    run_unstuck (translation_of w t names) (translation_net w t names h) (term_is_levelled w t names h)
    (term_is_unblocked w t names h) journal M r

-- each node of a term's net is listed once
numbered_once : (n : ℕ) (nodes : List (Kind × ℕ)) → IsOnce (numbered_from n nodes)
numbered_once n [] = tt
numbered_once n (x ∷ nodes) = (
  λ h. (let r = number_in (suc n) nodes n x.0 x.1 h in absurd (omega (arith, r.1))),
  numbered_once (suc n) nodes,
)

term_start : (w : Translation) (t : Tree) (names : ℕ) → HasNames t names →
    IsStart (net_under Init (translation_of w t names))
term_start w t names h = record {
  net = start_net (translation_of w t names) (translation_net w t names h);
  named = start_named (translation_of w t names);
  once = once_under Init one_start (translation_of w t names) (numbered_once 0 (nodes_of w t));
}

pub no_pair_is_stuck_in_order : NoPairIsStuckInOrder
no_pair_is_stuck_in_order w t names h =
    let start = net_under Init (translation_of w t names) in (
      λ fuel journal M o. no_pair_is_stuck w t names h journal M (as_run start M 0 journal o.leads),
      λ heads turns journal places M a r.
          no_pair_is_stuck w t names h journal M
          (turns_are_run start M heads turns journal places a (term_start w t names h) r).0,
    )

pub no_pair_of_a_graph_is_stuck : NoPairOfAGraphIsStuck
no_pair_of_a_graph_is_stuck w t names h g n same =
    let T = translation_of w t names in
    let back' = same_sym (net_of g) T same in
    let L = same_levelled T (net_of g) back' (term_is_levelled w t names h) in
    let u = same_unblocked T (net_of g) back' (term_is_unblocked w t names h) in (
      λ journal M r. run_unstuck (net_of g) n L u journal M r,
      λ journal new leads.
          let last = net_under leads.names (net_of new) in
          under_unstuck leads.names (net_of new)
          (run_unstuck (net_of g) n L u journal last (as_run (start_of g) last 0 journal leads.run)),
      λ heads turns journal places M a r.
          let run = (turns_are_run (start_of g) M heads turns journal places a (is_start g n) r).0 in
          run_unstuck (net_of g) n L u journal M run,
    )
