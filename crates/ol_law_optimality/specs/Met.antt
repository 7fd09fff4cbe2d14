-- Applications and abstractions of a term as walks over its net come to them, and which of them a
-- walk from the term's root sees, said by the term's spots alone.
use Rattle.std.specs.Prelude.{ℕ, ◌≤◌, List, [], ◌∷◌, length}
use Rattle.ol_law_edges.specs.Edges.{IsIn}
use Rattle.ol_net.specs.Graph.{Graph}
use Rattle.ol_net.specs.Nets.{NamedNet, IsNet, SameNet}
use Rattle.ol_net.specs.Numbered.{net_of}
use Rattle.ol_context.specs.Asked.{asked}
use Rattle.ol_demand.specs.Answers.{start_of}
use Rattle.ol_law_optimality.specs.RouteLaws as routes
use Rattle.ol_law_optimality.specs.Routes.{Route}
use Rattle.ol_law_optimality.specs.Seen.{IsSeen}
use Rattle.ol_rules.specs.declared.journal.NodeName.{NodeName}
use Rattle.ol_translate.specs.Names.{HasNames}
use Rattle.ol_translate.specs.Translation.{translation_of}
use Rattle.ol_context.specs.Contexts.{Level, empty, Context}
use Rattle.ol_law_meaning.specs.Heads.{os, Normal, Steps}
use Rattle.ol_law_meaning.specs.Sites.{Site, PartAt, function_at, abstraction_at}
use Rattle.ol_law_meaning.specs.Spots.{Edge, Place, root, at, Trail}
use Rattle.ol_term.specs.Trees.{Tree, lam, app}
use Rattle.ol_term.specs.declared.translations.Translation.{Translation}

abbrev pub blank : Context
blank n = empty

-- The application at this site is that of a redex, now or after some steps: from the root of its
-- function, with empty levels, a trail leads to the root of an abstraction.
pub record IsMatched (τ : Translation) (t : Tree) (p : Site) : Type 0 where
  pub function : Tree
  pub argument : Tree
  pub is : PartAt t p (app function argument)
  pub other : Site
  pub inner : Tree
  pub is_other : PartAt t other (lam inner)
  pub weight : ℕ
  pub trail : Trail (Edge τ t) (function_at p empty blank) (abstraction_at other empty blank) weight

-- The walk that asks the root for some number of abstractions comes to it.
pub record IsMet (τ : Translation) (t : Tree) (p : Site) : Type 0 where
  pub matched : IsMatched τ t p
  pub lams : ℕ
  pub first : Context
  pub level : Level
  pub later : Context
  pub steps : ℕ
  pub way : Trail (Edge τ t) (at root (os lams empty) first) (function_at p level later) steps

abbrev pub AreDifferent : List Site → Type 0
AreDifferent [] = Unit {0}
AreDifferent (p ∷ ps) = (IsIn p ps → ⊥) × AreDifferent ps

abbrev pub AreMet : Translation → Tree → List Site → Type 0
AreMet τ t ps = (p : Site) → IsIn p ps → IsMet τ t p

-- Where so many head steps lead to a head normal form, no more different ones are met.
abbrev pub NoMoreThanHeadSteps : Type 0
NoMoreThanHeadSteps = (τ : Translation) (t u : Tree) (m : ℕ) → Steps t u m →
    (q : Place) (a : Level) (j : ℕ) → Normal u q a j →
    (ps : List Site) → AreDifferent ps → AreMet τ t ps → length ps ≤ m

-- the virtual redex is on a walk that asks the root
abbrev pub IsSeenFromRoot : NamedNet NodeName → Route NodeName → Type 0
IsSeenFromRoot N s = (lams : ℕ) × IsSeen N 0 (asked [] lams) s

-- So the different virtual redexes on the walks that ask the root of a term's net are no more than
-- the head steps.
abbrev pub SeenIsFew : Type 0
SeenIsFew = (τ : Translation) (t u : Tree) (names : ℕ) → HasNames t names →
    (g : Graph) → IsNet (net_of g) → SameNet (net_of g) (translation_of τ t names) →
    (m : ℕ) → Steps t u m → (q : Place) (a : Level) (j : ℕ) → Normal u q a j →
    (ss : List (Route NodeName)) → routes.AreDifferent ss →
    ((s : Route NodeName) → IsIn s ss → IsSeenFromRoot (start_of g) s) → length ss ≤ m
