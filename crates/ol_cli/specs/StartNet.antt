-- The net with which a term's runs begin is one of those of which the laws of demand order speak.
use Rattle.std.specs.Prelude.{ℕ, List, length}
use Rattle.ol_term.specs.declared.translations.Translation.{Translation}
use Rattle.ol_term.specs.Trees.{Tree}
use Rattle.ol_net.specs.Graph.{Graph}
use Rattle.ol_net.specs.Nets.{SameNet}
use Rattle.ol_net.specs.Numbered.{net_of}
use Rattle.ol_context.specs.Paths.{HaveSamePaths}
use Rattle.ol_translate.specs.Names.{HasNames}
use Rattle.ol_translate.specs.Translation.{translation_of}
use Rattle.ol_demand.specs.Answers.{start_of}
use Rattle.ol_law_completeness.specs.Terms.{IsFit}
use Rattle.ol_cli.specs.Run.{start_net_of_term}

-- What the laws of nets ask of a net holds of it. It has the paths of the term's own net. And it is
-- the net of each graph that has the term's own net, however the lists of that graph are ordered.
abbrev pub StartNetIsFit : Type 0
StartNetIsFit = (translation : Translation) (t : Tree) (names : List (List ℕ)) →
    HasNames t (length names) →
    IsFit (start_net_of_term translation t names)
    × HaveSamePaths (translation_of translation t (length names)) (start_net_of_term translation t names)
    × ((g : Graph) → SameNet (net_of g) (translation_of translation t (length names)) →
    SameNet (start_of g) (start_net_of_term translation t names))
