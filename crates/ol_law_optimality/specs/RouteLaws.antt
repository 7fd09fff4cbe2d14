-- No redex is ever copied: the laws of routes.
use Rattle.std.specs.Prelude.{◌≡◌, ℕ, Bool, List, [], ◌∷◌, length, slice_get, Some}
use Rattle.ol_law_edges.specs.Edges.{IsTest, IsIn}
use Rattle.ol_net.specs.declared.parts.Rule.{Rule}
use Rattle.ol_net.specs.declared.parts.Rule.TheVariants as rule
use Rattle.ol_net.specs.Nets.{NamedNet, IsNet}
use Rattle.ol_rules.specs.declared.journal.Entry.{Entry}
use Rattle.ol_rules.specs.declared.journal.NodeName.{NodeName}
use Rattle.ol_rules.specs.Counting.{times_applied}
use Rattle.ol_rules.specs.Laws.{IsFresh, AreNamedBefore}
use Rattle.ol_rules.specs.Rewriting.{IsStep}
use Rattle.ol_rules.specs.Runs.{IsRun}
use Rattle.ol_law_optimality.specs.Routes.{Route, HasRoute, IsResidueOf, IsLinkOf, IsBetaOf}

-- What a step makes of a route is one route at most.
abbrev pub ResidueIsOne : Type 0 → Type 0
ResidueIsOne A = (born : ℕ → A) (N M : NamedNet A) (f g : A) (r : Rule) → IsNet N →
    (h : IsStep born N f g r M) (s t u : Route A) →
    IsResidueOf h s t → IsResidueOf h s u → t ≡ u

-- And it makes no route of two.
abbrev pub SourceIsOne : Type 0 → Type 0
SourceIsOne A = (born : ℕ → A) (N M : NamedNet A) (f g : A) (r : Rule) → IsNet N →
    IsFresh N born → (h : IsStep born N f g r M) (s t u : Route A) → HasRoute N s → HasRoute N t →
    IsResidueOf h s u → IsResidueOf h t u → s ≡ t

-- It makes none of the link of its own pair.
abbrev pub PairHasNoResidue : Type 0 → Type 0
PairHasNoResidue A = (born : ℕ → A) (N M : NamedNet A) (f g : A) (r : Rule) → IsNet N →
    (h : IsStep born N f g r M) (s t : Route A) → IsLinkOf f g s → IsResidueOf h s t → ⊥

-- And each route of the net after it is made of one of the net before it.
abbrev pub EachIsResidue : Type 0 → Type 0
EachIsResidue A = (same : A → A → Bool) → IsTest same →
    (born : ℕ → A) (N M : NamedNet A) (f g : A) (r : Rule) → IsNet N → IsFresh N born →
    (h : IsStep born N f g r M) (t : Route A) → HasRoute M t →
    (s : Route A) × HasRoute N s × IsResidueOf h s t

-- So in a run, of any pairs in any order, each beta step has a route of the first net from which it
-- comes,
abbrev pub EachBetaHasARoute : Type 0
EachBetaHasARoute = (N M : NamedNet NodeName) (t : ℕ) (es : List Entry) →
    IsNet N → AreNamedBefore N t → (r : IsRun N t es M) →
    (n : ℕ) (e : Entry) → slice_get es n ≡ Some e → e.rule ≡ rule.Beta →
    (s : Route NodeName) × HasRoute N s × IsBetaOf r n s

-- and it is one route,
abbrev pub BetaHasOneRoute : Type 0
BetaHasOneRoute = (N M : NamedNet NodeName) (t : ℕ) (es : List Entry) →
    IsNet N → AreNamedBefore N t → (r : IsRun N t es M) →
    (n : ℕ) (s u : Route NodeName) → IsBetaOf r n s → IsBetaOf r n u → s ≡ u

-- and no two beta steps come from one route.
abbrev pub NoRedexIsCopied : Type 0
NoRedexIsCopied = (N M : NamedNet NodeName) (t : ℕ) (es : List Entry) →
    IsNet N → AreNamedBefore N t → (r : IsRun N t es M) →
    (m n : ℕ) (s : Route NodeName) → IsBetaOf r m s → IsBetaOf r n s → m ≡ n

-- So the number of its beta steps is a number of different routes of the first net.
abbrev pub AreDifferent : {A : Type 0} → List (Route A) → Type 0
AreDifferent [] = Unit {0}
AreDifferent (s ∷ ss) = (IsIn s ss → ⊥) × AreDifferent ss

abbrev pub BetasAreRoutes : Type 0
BetasAreRoutes = (N M : NamedNet NodeName) (t : ℕ) (es : List Entry) →
    IsNet N → AreNamedBefore N t → (r : IsRun N t es M) →
    (ss : List (Route NodeName)) × AreDifferent ss × (length ss ≡ times_applied rule.Beta es)
    × ((s : Route NodeName) → IsIn s ss → HasRoute N s × ((n : ℕ) × IsBetaOf r n s))
    × ((n : ℕ) (s : Route NodeName) → IsBetaOf r n s → IsIn s ss)
