-- No pair is ever stuck in a net that a run leads to from the net of a term.
use Rattle.std.specs.Prelude.{◌≡◌, ℕ, List}
use Rattle.ol_net.specs.Graph.{Graph}
use Rattle.ol_net.specs.Nets.{NamedNet, IsNet, SameNet, net_under}
use Rattle.ol_net.specs.Numbered.{net_of}
use Rattle.ol_net.specs.Pairs.{HasStuck}
use Rattle.ol_rules.specs.Runs.{IsRun, IsOneThread, LeadsTo}
use Rattle.ol_rules.specs.declared.journal.Entry.{Entry}
use Rattle.ol_rules.specs.declared.journal.NodeName.{NodeName}
use Rattle.ol_rules.specs.declared.journal.NodeName.TheVariants.{Init}
use Rattle.ol_demand.specs.Answers.{start_of}
use Rattle.ol_demand.specs.Demands.{Turns, Asking}
use Rattle.ol_readback.specs.declared.answers.ReadNode.{ReadNode}
use Rattle.ol_term.specs.Trees.{Tree}
use Rattle.ol_term.specs.declared.translations.Translation.{Translation}
use Rattle.ol_translate.specs.Names.{HasNames}
use Rattle.ol_translate.specs.Translation.{translation_of}
use Rattle.ol_law_levels.specs.UnblockedLaws.{IsUnstuck}
use Rattle.ol_law_levels.specs.Unblocked.{IsUnblocked}

-- Whichever pairs its journal names, and in whatever order, complete or not: no run from the net of a
-- term, by either translation, leads to a net with a stuck pair.
abbrev pub NoPairIsStuck : Type 0
NoPairIsStuck = (w : Translation) (t : Tree) (names : ℕ) → HasNames t names →
    (journal : List Entry) (M : NamedNet NodeName) →
    IsRun (net_under Init (translation_of w t names)) 0 journal M → IsUnstuck M

-- So it is with the one-thread run, ended or stopped by its fuel, and with demand order, whether its
-- turns end or not.
abbrev pub NoPairIsStuckInOrder : Type 0
NoPairIsStuckInOrder = (w : Translation) (t : Tree) (names : ℕ) → HasNames t names →
    ((fuel : ℕ) (journal : List Entry) (M : NamedNet NodeName) →
    IsOneThread (net_under Init (translation_of w t names)) fuel journal M → IsUnstuck M)
    × ((heads turns : ℕ) (journal : List Entry) (places : List ReadNode)
    (M : NamedNet NodeName) (a : Asking) →
    Turns (net_under Init (translation_of w t names)) heads turns journal places M a → IsUnstuck M)

-- And with a graph of this net, however its lists are ordered: with each run from its start net, with
-- a run by its leads, and with the turns of demand order, whether they end or not.
abbrev pub NoPairOfAGraphIsStuck : Type 0
NoPairOfAGraphIsStuck = (w : Translation) (t : Tree) (names : ℕ) → HasNames t names →
    (g : Graph) → IsNet (net_of g) → SameNet (net_of g) (translation_of w t names) →
    ((journal : List Entry) (M : NamedNet NodeName) → IsRun (start_of g) 0 journal M → IsUnstuck M)
    × ((journal : List Entry) (new : Graph) → LeadsTo g journal new → IsUnstuck (net_of new))
    × ((heads turns : ℕ) (journal : List Entry) (places : List ReadNode)
    (M : NamedNet NodeName) (a : Asking) →
    Turns (start_of g) heads turns journal places M a → IsUnstuck M)

-- If a net is unblocked, it is so in another order of its lists, and a net of numbers is so under the
-- names of start nodes.
abbrev pub SameNetIsUnblocked : Type 0 → Type 0
SameNetIsUnblocked A = (M N : NamedNet A) → SameNet M N → IsUnblocked M → IsUnblocked N

abbrev pub StartIsUnblocked : Type 0
StartIsUnblocked = (N : NamedNet ℕ) → IsUnblocked N → IsUnblocked (net_under Init N)

-- If a net has no stuck pair, it has none in another order of its lists; and it has none, if it has
-- none under some names.
abbrev pub SameNetIsUnstuck : Type 0 → Type 0
SameNetIsUnstuck A = (M N : NamedNet A) → SameNet M N → IsUnstuck M → IsUnstuck N

abbrev pub NamesKeepUnstuck : Type 0 → Type 0 → Type 0
NamesKeepUnstuck A B = (m : A → B) (N : NamedNet A) → IsUnstuck (net_under m N) → IsUnstuck N

-- If no pair is stuck, none is counted, and 0 is their number.
abbrev pub NoneIsCounted : Type 0 → Type 0
NoneIsCounted A = (N : NamedNet A) → IsUnstuck N →
    HasStuck N 0 × ((n : ℕ) → HasStuck N n → n ≡ 0)
