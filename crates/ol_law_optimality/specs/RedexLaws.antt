-- Beta steps and virtual redexes: the laws.
use Rattle.std.specs.Prelude.{ℕ, Bool, List, ◌⊎◌, ◌↔◌}
use Rattle.ol_law_edges.specs.Edges.{IsTest}
use Rattle.ol_net.specs.Nets.{NamedNet, IsNet, net_under}
use Rattle.ol_net.specs.Pairs.{IsComplete}
use Rattle.ol_net.specs.declared.parts.Rule.{Rule}
use Rattle.ol_rules.specs.declared.journal.Entry.{Entry}
use Rattle.ol_rules.specs.declared.journal.NodeName.{NodeName}
use Rattle.ol_rules.specs.declared.journal.NodeName.TheVariants.{Init}
use Rattle.ol_rules.specs.Laws.{IsFresh, AreNamedBefore}
use Rattle.ol_rules.specs.Rewriting.{IsStep}
use Rattle.ol_rules.specs.Runs.{IsRun}
use Rattle.ol_term.specs.Trees.{Tree}
use Rattle.ol_term.specs.declared.translations.Translation.{Translation}
use Rattle.ol_translate.specs.Names.{HasNames}
use Rattle.ol_translate.specs.Translation.{translation_of}
use Rattle.ol_law_levels.specs.Levels.{IsLevelled}
use Rattle.ol_law_optimality.specs.Routes.{Route, IsResidueOf, IsLinkOf, IsBetaOf}
use Rattle.ol_law_optimality.specs.Redexes.{IsVirtualRedex}

-- Each virtual redex of the net after a step is what the step makes of one of the net before it.
abbrev pub RedexHasSource : Type 0 → Type 0
RedexHasSource A = (same : A → A → Bool) → IsTest same →
    (born : ℕ → A) (N M : NamedNet A) (f g : A) (r : Rule) → IsNet N → IsFresh N born →
    (h : IsStep born N f g r M) (t : Route A) → IsVirtualRedex M t →
    (s : Route A) × IsVirtualRedex N s × IsResidueOf h s t

-- A step makes a virtual redex of each, but of the link of its own pair.
abbrev pub RedexHasResidue : Type 0 → Type 0
RedexHasResidue A = (same : A → A → Bool) → IsTest same →
    (born : ℕ → A) (N M : NamedNet A) (f g : A) (r : Rule) → IsNet N → IsFresh N born →
    (h : IsStep born N f g r M) (s : Route A) → IsVirtualRedex N s →
    IsLinkOf f g s ⊎ ((t : Route A) × IsVirtualRedex M t × IsResidueOf h s t)

-- A levelled net without an active pair has none.
abbrev pub NoRedexIsLeft : Type 0 → Type 0
NoRedexIsLeft A = (N : NamedNet A) → IsNet N → IsLevelled N → IsComplete N → (s : Route A) →
    IsVirtualRedex N s → ⊥

-- So each beta step of a run comes from a virtual redex of the first net,
abbrev pub EachBetaIsVirtual : Type 0
EachBetaIsVirtual = (N M : NamedNet NodeName) (t : ℕ) (es : List Entry) →
    IsNet N → AreNamedBefore N t → (r : IsRun N t es M) →
    (n : ℕ) (s : Route NodeName) → IsBetaOf r n s → IsVirtualRedex N s

-- and the beta steps of a complete run come from all of them, each from its own: as many as
-- there are, and the same ones in whatever order.
abbrev pub BetasAreVirtualRedexes : Type 0
BetasAreVirtualRedexes = (N M : NamedNet NodeName) (t : ℕ) (es : List Entry) →
    IsNet N → AreNamedBefore N t → IsLevelled N → (r : IsRun N t es M) → IsComplete M →
    (s : Route NodeName) → IsVirtualRedex N s ↔ ((n : ℕ) × IsBetaOf r n s)

-- So it is with the net of a term.
abbrev pub BetasOfATerm : Type 0
BetasOfATerm = (w : Translation) (t : Tree) (names : ℕ) → HasNames t names →
    (es : List Entry) (M : NamedNet NodeName) →
    (r : IsRun (net_under Init (translation_of w t names)) 0 es M) → IsComplete M →
    (s : Route NodeName) →
    IsVirtualRedex (net_under Init (translation_of w t names)) s ↔ ((n : ℕ) × IsBetaOf r n s)
