-- Walks in levelled nets where no pair is active: stuck pairs may be there.
use Rattle.std.specs.Prelude.{ℕ, ◌≤◌, ◌*◌, List, true}
use Rattle.ol_net.specs.Nets.{NamedNet, NamedPort, free, IsNet, net_under}
use Rattle.ol_net.specs.Pairs.{IsComplete}
use Rattle.ol_context.specs.Contexts.{Level, Context}
use Rattle.ol_context.specs.Paths.{Path, HaveSamePaths, crossings}
use Rattle.ol_context.specs.Short.{live, entries, TurnsOnce}
use Rattle.ol_context.specs.Ways.{Way}
use Rattle.ol_readback.specs.Frames.{Frame, asked}
use Rattle.ol_readback.specs.Heads.{no_head, IsHead, IsHeadWithin}
use Rattle.ol_readback.specs.ReadTrees.{IsTree}
use Rattle.ol_readback.specs.Sources.{HasHeadsOf}
use Rattle.ol_readback.specs.declared.answers.ReadNode.{ReadNode}
use Rattle.ol_rules.specs.Runs.{IsRun}
use Rattle.ol_rules.specs.declared.journal.Entry.{Entry}
use Rattle.ol_rules.specs.declared.journal.NodeName.{NodeName}
use Rattle.ol_rules.specs.declared.journal.NodeName.TheVariants.{Init}
use Rattle.ol_term.specs.Trees.{Tree}
use Rattle.ol_term.specs.declared.translations.Translation.{Translation}
use Rattle.ol_translate.specs.Names.{HasNames}
use Rattle.ol_translate.specs.Translation.{translation_of}
use Rattle.ol_law_levels.specs.Levels.{IsLevelled}

-- In such a net a walk from a free port turns once.
abbrev pub LevelledWalkTurnsOnce : Type 0 → Type 0
LevelledWalkTurnsOnce A = (N : NamedNet A) → IsNet N → IsLevelled N → IsComplete N →
    (p : ℕ) (c : Context) (n : ℕ) (u : NamedPort A) (d : Context) (w : Way N (free p) c n u d) →
    TurnsOnce (entries w)

-- It leaves within twice as many crossings as there are nodes, or never.
abbrev pub LevelledWalkIsShort : Type 0 → Type 0
LevelledWalkIsShort A = (N : NamedNet A) → IsNet N → IsLevelled N → IsComplete N →
    (p : ℕ) (c : Context) (q : ℕ) (d : Context) (r : Path N (free p) c q d) →
    crossings r ≤ 2 * live N

-- A number of abstractions for which a walk leaves is found among the first ones, as many as there
-- are nodes.
abbrev pub LevelledFewAreEnough : Type 0 → Type 0
LevelledFewAreEnough A = (N : NamedNet A) → IsNet N → IsLevelled N → IsComplete N →
    (p : ℕ) (ls : List Level) (n q : ℕ) (X : Context) → Path N (free p) (asked ls n) q X →
    (m : ℕ) × (q' : ℕ) × (X' : Context) × (m ≤ live N) × (m ≤ n)
    × Path N (free p) (asked ls m) q' X'

-- A frame that was found within a budget to have no head has none.
abbrev pub LevelledNoHead : Type 0 → Type 0
LevelledNoHead A = (N : NamedNet A) → IsNet N → IsLevelled N → IsComplete N →
    (frames : List Frame) (i edges : ℕ) → IsHeadWithin N frames i edges no_head →
    IsHead N frames i no_head

-- So a tree that was read from it has the heads of each net with the same paths, and its places
-- without a head have none there.
abbrev pub LevelledPrintedHeads : Type 0 → Type 0 → Type 0
LevelledPrintedHeads A B = (N : NamedNet A) (M : NamedNet B) → HaveSamePaths N M → IsNet M →
    IsLevelled M → IsComplete M →
    (heads edges : ℕ) (ns : List ReadNode) → IsTree M heads edges ns → HasHeadsOf N true ns

-- So it is with each complete run from the net of a term, and that net itself: whatever pairs are
-- stuck in the end, a place without a head has none in the term's own net.
abbrev pub LastPlacesAreTheSources : Type 0
LastPlacesAreTheSources = (w : Translation) (t : Tree) (names : ℕ) → HasNames t names →
    (journal : List Entry) (M : NamedNet NodeName) →
    IsRun (net_under Init (translation_of w t names)) 0 journal M → IsComplete M →
    (heads edges : ℕ) (ns : List ReadNode) → IsTree M heads edges ns →
    HasHeadsOf (translation_of w t names) true ns
