-- The laws that steps and runs keep paths (Gonthier, Abadi and Lévy, The Geometry of Optimal Lambda Reduction, 1992).
use Rattle.std.specs.Prelude.{ℕ, Bool, List}
use Rattle.ol_context.specs.Paths.{HaveSamePaths}
use Rattle.ol_law_edges.specs.Edges.{IsTest}
use Rattle.ol_net.specs.Graph.{Graph}
use Rattle.ol_net.specs.Nets.{NamedNet, IsNet}
use Rattle.ol_net.specs.Numbered.{net_of}
use Rattle.ol_net.specs.declared.parts.Rule.{Rule}
use Rattle.ol_rules.specs.Laws.{IsFresh, AreNamedBefore}
use Rattle.ol_rules.specs.Rewriting.{IsStep}
use Rattle.ol_rules.specs.Runs.{IsRun, LeadsTo}
use Rattle.ol_rules.specs.Steps.{StepsAt}
use Rattle.ol_rules.specs.declared.journal.Entry.{Entry}
use Rattle.ol_rules.specs.declared.journal.NodeName.{NodeName}

-- A step of any active pair keeps each path between free ports, and makes none.
abbrev pub StepKeepsPaths : Type 0 → Type 0
StepKeepsPaths A = (same : A → A → Bool) → IsTest same → (born : ℕ → A) (N M : NamedNet A) (f g : A) (r : Rule) →
    IsNet N → IsFresh N born → IsStep born N f g r M → HaveSamePaths N M

-- So does a step of a graph, whose born nodes take the next numbers.
abbrev pub GraphStepKeepsPaths : Type 0
GraphStepKeepsPaths = (old new : Graph) (at : ℕ) (r : Rule) → IsNet (net_of old) →
    StepsAt old new at r → HaveSamePaths (net_of old) (net_of new)

-- So does each run along a journal, from any ticket on.
abbrev pub JournalKeepsPaths : Type 0
JournalKeepsPaths = (N M : NamedNet NodeName) (ticket : ℕ) (journal : List Entry) →
    IsNet N → AreNamedBefore N ticket → IsRun N ticket journal M → HaveSamePaths N M

-- So does each run of a graph by its leads.
abbrev pub GraphRunKeepsPaths : Type 0
GraphRunKeepsPaths = (old new : Graph) (journal : List Entry) →
    IsNet (net_of old) → IsNet (net_of new) → LeadsTo old journal new → HaveSamePaths (net_of old) (net_of new)
