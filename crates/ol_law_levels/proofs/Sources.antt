-- A tree that was read after a run from a term's net has the heads of that net.
-- Used in AskedTrees, for `last_places_are_the_sources`, and in crates above.
use Rattle.std.proofs.Common.{ℕ, List}
use Rattle.ol_context.specs.Paths.{HaveSamePaths}
use Rattle.ol_invariance.proofs.Renamed.{renamed}
use Rattle.ol_invariance.proofs.Runs as runs
use Rattle.ol_net.specs.Nets.{NamedNet, IsNet, net_under}
use Rattle.ol_rules.proofs.StartNets.{start_net, start_named}
use Rattle.ol_rules.specs.Runs.{IsRun}
use Rattle.ol_rules.specs.declared.journal.Entry.{Entry}
use Rattle.ol_rules.specs.declared.journal.NodeName.{NodeName}
use Rattle.ol_rules.specs.declared.journal.NodeName.TheVariants.{Init}
use Rattle.ol_term.specs.Trees.{Tree}
use Rattle.ol_term.specs.declared.translations.Translation.{Translation}
use Rattle.ol_translate.proofs.Whole.{translation_net}
use Rattle.ol_translate.specs.Names.{HasNames}
use Rattle.ol_translate.specs.Translation.{translation_of}
use Rattle.ol_law_levels.specs.Levels.{IsLevelled}
use Rattle.ol_law_levels.specs.Walks.{LastPlacesAreTheSources}
use Rattle.ol_law_levels.proofs.Heads.{printed}
use Rattle.ol_law_levels.proofs.Runs.{run_keeps, start_levelled}
use Rattle.ol_law_levels.proofs.Terms.{term_is_levelled}
use Rattle.ol_diamond.proofs.OneThreadRuns.{run_net}

module _ (w : Translation) (t : Tree) (names : ℕ) (h : HasNames t names) (journal : List Entry)
    (M : NamedNet NodeName) (run : IsRun (net_under Init (translation_of w t names)) 0 journal M)
  where
    abbrev N : NamedNet ℕ
    N = translation_of w t names

    abbrev first : NamedNet NodeName
    first = net_under Init N

    is_net : IsNet N
    is_net = translation_net w t names h

    first_net : IsNet first
    first_net = start_net N is_net

    pub last_net : IsNet M
    last_net = run_net first M 0 journal first_net (start_named N) run

    pub last_levels : IsLevelled M
    last_levels = run_keeps first M 0 journal first_net (start_named N) run
        (start_levelled N (term_is_levelled w t names h))

    pub same_paths : HaveSamePaths N M
    same_paths p c q d =
        let there = renamed Init N is_net (λ x y k l i j h h' e. cc) p c q d in
        let on = runs.run_keeps first M 0 journal first_net (start_named N) run p c q d in
        (λ r. on.0 (there.0 r), λ r. there.1 (on.1 r))

pub last_places : LastPlacesAreTheSources
last_places w t names h journal M run complete heads edges ns r =
    printed (translation_of w t names) M (same_paths w t names h journal M run)
    (last_net w t names h journal M run) (last_levels w t names h journal M run) complete heads
    edges
    ns r
