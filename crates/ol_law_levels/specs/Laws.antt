-- The laws of levelled nets: what has levels, what keeps them, and what they say of stuck pairs.
use Rattle.std.specs.Prelude.{◌≡◌, ◌≢◌, ℕ, suc, Bool, List}
use Rattle.ol_law_edges.specs.Edges.{IsTest}
use Rattle.ol_context.specs.Contexts.{IsCrosser, Context}
use Rattle.ol_net.specs.declared.parts.Rule.{Rule}
use Rattle.ol_net.specs.Graph.{Graph}
use Rattle.ol_net.specs.Nets.{free, slot, NamedNet, IsNet, SameNet, net_under}
use Rattle.ol_net.specs.Numbered.{net_of}
use Rattle.ol_net.specs.Pairs.{IsStuck}
use Rattle.ol_term.specs.Trees.{Tree}
use Rattle.ol_term.specs.declared.translations.Translation.{Translation}
use Rattle.ol_translate.specs.Translation.{translation_of}
use Rattle.ol_translate.specs.Names.{HasNames}
use Rattle.ol_rules.specs.declared.journal.Entry.{Entry}
use Rattle.ol_rules.specs.declared.journal.NodeName.{NodeName}
use Rattle.ol_rules.specs.declared.journal.NodeName.TheVariants.{Init}
use Rattle.ol_rules.specs.Laws.{IsFresh, AreNamedBefore}
use Rattle.ol_rules.specs.Rewriting.{IsStep}
use Rattle.ol_rules.specs.Runs.{IsRun, LeadsTo}
use Rattle.ol_context.specs.Paths.{Crosses, IsBarred, Path}
use Rattle.ol_context.specs.Ways.{Way}
use Rattle.ol_law_levels.specs.Levels.{IsLevelled}

-- The net of a term, by either translation, is levelled.
abbrev pub TermIsLevelled : Type 0
TermIsLevelled = (w : Translation) (t : Tree) (names : ℕ) → HasNames t names →
    IsLevelled (translation_of w t names)

-- A step of any active pair leaves a levelled net levelled.
abbrev pub StepKeepsLevels : Type 0 → Type 0
StepKeepsLevels A = (same : A → A → Bool) → IsTest same →
    (born : ℕ → A) (N M : NamedNet A) (f g : A) (r : Rule) →
    IsNet N → IsFresh N born → IsStep born N f g r M → IsLevelled N → IsLevelled M

-- So does each run along a journal, from any ticket on.
abbrev pub RunKeepsLevels : Type 0
RunKeepsLevels = (N M : NamedNet NodeName) (ticket : ℕ) (journal : List Entry) →
    IsNet N → AreNamedBefore N ticket → IsRun N ticket journal M → IsLevelled N → IsLevelled M

-- So does each run of a graph by its leads.
abbrev pub GraphRunKeepsLevels : Type 0
GraphRunKeepsLevels = (old new : Graph) (journal : List Entry) →
    IsNet (net_of old) → LeadsTo old journal new → IsLevelled (net_of old) → IsLevelled (net_of new)

-- A net is levelled however its lists are ordered.
abbrev pub SameNetIsLevelled : Type 0 → Type 0
SameNetIsLevelled A = (M N : NamedNet A) → SameNet M N → IsLevelled M → IsLevelled N

-- A net is levelled where it is so under some names of its nodes.
abbrev pub NamesKeepLevels : Type 0 → Type 0 → Type 0
NamesKeepLevels A B = (m : A → B) (N : NamedNet A) → IsLevelled (net_under m N) → IsLevelled N

-- A levelled net of numbers is levelled under the names of start nodes.
abbrev pub StartIsLevelled : Type 0
StartIsLevelled = (N : NamedNet ℕ) → IsLevelled N → IsLevelled (net_under Init N)

-- The two nodes of a stuck pair are of two kinds among fan, croissant and bracket, and of one
-- index.
abbrev pub StuckPairsAreOfSharing : Type 0 → Type 0
StuckPairsAreOfSharing A = (N : NamedNet A) → IsLevelled N → (f g : A) (s : IsStuck N f g) →
    IsCrosser s.k × IsCrosser s.l × (s.k ≢ s.l) × (s.i ≡ s.j)

-- No walk goes up through one of the two to its slot 0 and then down through the other.
abbrev pub NoWalkCrossesAStuckPair : Type 0 → Type 0
NoWalkCrossesAStuckPair A = (N : NamedNet A) → IsLevelled N →
    (f g : A) (s : IsStuck N f g) (m n : ℕ) (b c d : Context) →
    Crosses s.k s.i (suc m) b 0 c → Crosses s.l s.j 0 c (suc n) d → ⊥

-- So a walk from a free port that comes to the link of the two has no crossing there, and no path
-- passes it.
abbrev pub StuckPairsStopWalks : Type 0 → Type 0
StuckPairsStopWalks A = (N : NamedNet A) → IsNet N → IsLevelled N → (f g : A) → IsStuck N f g →
    (p : ℕ) (c : Context) (n : ℕ) (d : Context) → Way N (free p) c n (slot f 0) d →
    IsBarred N (slot g 0) d × ((q : ℕ) (e : Context) → Path N (slot f 0) d q e → ⊥)
