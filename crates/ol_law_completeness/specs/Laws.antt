-- The laws on which it rests that demand order is complete, and that it is.
use Rattle.std.specs.Prelude.{ℕ, Bool, List, ◌<◌, ◌≤◌}
use Rattle.ol_law_edges.specs.Edges.{IsTest}
use Rattle.ol_net.specs.declared.parts.Rule.{Rule}
use Rattle.ol_net.specs.Nets.{NamedNet, NamedPort, free, slot, Linked, IsNet}
use Rattle.ol_context.specs.Contexts.{Level, Context}
use Rattle.ol_context.specs.Paths.{Through, Path}
use Rattle.ol_context.specs.Short.{live}
use Rattle.ol_context.specs.Ways.{Way}
use Rattle.ol_rules.specs.Laws.{IsFresh}
use Rattle.ol_rules.specs.Rewriting.{IsStep}
use Rattle.ol_readback.specs.Frames.{asked}
use Rattle.ol_demand.specs.Chains.{IsAtNoPair, End, met, left, undefined, budget, Ends}
use Rattle.ol_law_completeness.specs.Rows.{Crossing, row, inversions, GoesDown}

-- No walk from a free port goes up through one node of a facing pair and then down through the
-- other, but where the pair is active.
abbrev pub CrossesNoStuck : {A : Type 0} → NamedNet A → Type 0
CrossesNoStuck {A} N = (p : ℕ) (c d e : Context) (n : ℕ) (x y : A) (v : NamedPort A) →
    Way N (free p) c n (slot y 0) d → Linked N (slot y 0) (slot x 0) → Through N (slot x 0) d v e →
    IsAtNoPair N (slot y 0) → ⊥

-- A path that leads from a free port to a free port leads there after a step too, and its row has
-- no more inversions. It has fewer where the path went down through a node of the pair.
abbrev pub StepShortensRow : Type 0 → Type 0
StepShortensRow A = (same : A → A → Bool) → IsTest same →
    (born : ℕ → A) (N M : NamedNet A) (f g : A) (r : Rule) →
    IsNet N → IsFresh N born → IsStep born N f g r M →
    (p : ℕ) (c : Context) (q : ℕ) (X : Context) (t : Path N (free p) c q X) →
    (t' : Path M (free p) c q X) × (inversions (row t') ≤ inversions (row t))
    × (GoesDown f g (row t) → inversions (row t') < inversions (row t))

-- How the chain for n abstractions can end where a path leaves for n0, which is no less, by this
-- row: at a pair through which the path goes down, or at a free port; or its next crossing isn't
-- defined, where n is less than n0 and than the number of nodes.
abbrev pub IsOnPath : {A : Type 0} → NamedNet A → List (Crossing A) → ℕ → ℕ → End A → Type 0
IsOnPath N v n0 n (met f g r) = GoesDown f g v
IsOnPath N v n0 n (left q X) = Unit {0}
IsOnPath N v n0 n undefined = (n < n0) × (n < live N)
IsOnPath N v n0 n budget = ⊥

abbrev pub ChainIsOnPath : Type 0 → Type 0
ChainIsOnPath A = (N : NamedNet A) → IsNet N → CrossesNoStuck N →
    (p : ℕ) (ls : List Level) (n0 q : ℕ) (X : Context) (t : Path N (free p) (asked ls n0) q X) →
    (n : ℕ) (end : End A) → n ≤ n0 → Ends N p (asked ls n) end → IsOnPath N (row t) n0 n end

-- And where this chain meets a pair, the chain for n0 meets it too.
abbrev pub ChainsMeetAlike : Type 0 → Type 0
ChainsMeetAlike A = (N : NamedNet A) → IsNet N → CrossesNoStuck N →
    (p : ℕ) (ls : List Level) (n0 q : ℕ) (X : Context) → Path N (free p) (asked ls n0) q X →
    (n : ℕ) (f g : A) (r : Rule) → n ≤ n0 → Ends N p (asked ls n) (met f g r) →
    Ends N p (asked ls n0) (met f g r)
