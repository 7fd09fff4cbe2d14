-- The net with which a term's runs begin is fit for the laws of demand order, for the law
-- `start_net_is_fit`; and the inversions of the term's own net bound its demand run, which the laws of
-- fuel and `every_run` use.
use Rattle.std.proofs.Common.{◌≡◌, ℕ, ◌+◌, ◌<◌, ◌≤◌, ◌⊎◌, inl, inr, List, length, refl, arith}
use Rattle.std.proofs.lemmas.Bool.{cases_lt}
use Rattle.ol_term.specs.declared.translations.Translation.{Translation}
use Rattle.ol_term.specs.Trees.{Tree}
use Rattle.ol_net.specs.Numbered.{net_of}
use Rattle.ol_rules.specs.declared.journal.NodeName.TheVariants.{Init}
use Rattle.ol_rules.proofs.Relation.{same_refl}
use Rattle.ol_rules.proofs.StartNets.{one_start}
use Rattle.ol_rules.proofs.UnderNames.{same_under}
use Rattle.ol_invariance.proofs.Renamed.{renamed}
use Rattle.ol_translate.specs.Names.{HasNames}
use Rattle.ol_translate.specs.Translation.{translation_of}
use Rattle.ol_translate.proofs.Whole.{translation_net}
use Rattle.ol_readback.specs.declared.answers.ReadNode.{ReadNode}
use Rattle.ol_law_levels.proofs.Runs.{start_levelled}
use Rattle.ol_law_levels.proofs.Terms.{term_is_levelled}
use Rattle.ol_law_completeness.specs.Complete.{HaveInversions, IsReadWithin}
use Rattle.ol_law_completeness.proofs.Levelled.{stays_clear}
use Rattle.ol_law_completeness.proofs.SameRows.{CostAlike, cost_alike}
use Rattle.ol_law_completeness.proofs.Within.{read_within, read_all}
use Rattle.ol_cli.specs.Run.{start_net_of_term}
use Rattle.ol_cli.specs.Demand.{DemandEnds}
use Rattle.ol_cli.specs.Cases.{DemandRunsOut}
use Rattle.ol_cli.specs.StartNet.{StartNetIsFit}
use Rattle.ol_cli.proofs.DemandRuns.{is_start}

pub start_net_is_fit : StartNetIsFit
start_net_is_fit tr t names has =
    let K = translation_of tr t (length names) in
    let N = start_net_of_term tr t names in
    let is_net = translation_net tr t (length names) has in
    let start = is_start tr t names is_net in
    let levels = start_levelled K (term_is_levelled tr t (length names) has) in (
      record {
        start = start;
        levelled = levels;
        clear = stays_clear N start levels;
        root = (let e : N.free_ports ≡ 1 + length names = refl in omega arith);
      },
      renamed Init K is_net (λ x y k l i j h h' e. one_start x y e),
      λ g same. same_under Init (net_of g) K same,
    )

module _ (tr : Translation) (t : Tree) (names : List (List ℕ)) (has : HasNames t (length names))
    (most m : ℕ) (ns : List ReadNode)
    (told : HaveInversions (translation_of tr t (length names)) most ns m) (heads : ℕ) where
  alike : CostAlike (translation_of tr t (length names)) (start_net_of_term tr t names)
  alike = let K = translation_of tr t (length names) in cost_alike Init K K (same_refl K)

  -- the run for no more heads than are told, or for any number where these are all
  pub is_read_within : (heads ≤ most) ⊎ (length ns < most) →
      IsReadWithin (start_net_of_term tr t names) heads m ns
  is_read_within job =
      let fit = start_net_is_fit tr t names has in
      read_within (translation_of tr t (length names)) (start_net_of_term tr t names) fit.0.start
      fit.0.clear fit.1 alike most m ns told heads job

  pub ends_within : (heads ≤ most) ⊎ (length ns < most) → (fuel : ℕ) → m ≤ fuel →
      DemandEnds tr t names fuel heads
  ends_within job fuel b =
      let w = is_read_within job in
      let d = w.run in
      record {
        journal = d.0;
        tree = d.1;
        net = d.2;
        run = d.3;
        within = (let l = w.few d.0 d.1 d.2 d.3 in omega arith);
      }

  pub is_less : (heads ≤ most) ⊎ (length ns < most) → (fuel : ℕ) →
      DemandRunsOut tr t names fuel heads → fuel < m
  is_less job fuel out = by (cases_lt fuel m)
    where
      by : (fuel < m) ⊎ (m ≤ fuel) → fuel < m
      by (inl b) = b
      by (inr b) = absurd ((is_read_within job).ends fuel b out)

  -- what is read, where these are all places and no fewer heads are asked for
  pub reads_told : length ns < most → length ns ≤ heads → (fuel : ℕ)
      (d : DemandEnds tr t names fuel heads) → d.tree ≡ ns
  reads_told b few fuel d =
      let fit = start_net_is_fit tr t names has in
      read_all (translation_of tr t (length names)) (start_net_of_term tr t names) fit.0.start
      fit.0.clear fit.1 alike most m ns told heads b few d.journal d.tree d.net d.run
