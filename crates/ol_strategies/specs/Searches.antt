-- Private: the two orders that look at heads as one, and the two that look at arguments first as one; and what such a
-- search still has to look at.
use Rattle.std.specs.Prelude.{◌≡◌, ℕ, Bool, true, ◌&&◌, ◌||◌, if◌then◌else◌, List, [], ◌∷◌, Option, Some, None}
use Rattle.std.specs.Option.{option_or}
use Rattle.ol_term.specs.Trees.{Tree, tree_of, lam, app}
use Rattle.ol_beta.specs.Leftmost.{is_abstraction, under}
use Rattle.ol_strategies.specs.Redexes.{root_if, is_value}
use Rattle.ol_strategies.specs.declared.strict.Inside as parts
use Rattle.ol_strategies.specs.declared.strict.Inside.TheVariants as inside
use Rattle.ol_strategies.specs.declared.strict.Todo as todos
use Rattle.ol_strategies.specs.declared.strict.Todo.TheVariants as todo

-- the head redex, below abstractions or not
abbrev pub spine_redex : Bool → Tree → Option (List ℕ)
spine_redex below (lam t) = if below then under 0 (spine_redex below t) else None
spine_redex below (app f a) = if is_abstraction f then Some [] else under 1 (spine_redex below f)
spine_redex below _ = None

-- whether an application is contracted, once its parts have no redex
abbrev pub is_ready : Bool → Tree → Tree → Bool
is_ready below f a = is_abstraction f && (below || is_value a)

-- the first redex by function, argument and then the application itself: below abstractions any, else those of values
abbrev pub strict_redex : Bool → Tree → Option (List ℕ)
strict_redex below (lam t) = if below then under 0 (strict_redex below t) else None
strict_redex below (app f a) = option_or (under 1 (strict_redex below f))
    (option_or (under 2 (strict_redex below a)) (root_if (is_ready below f a)))
strict_redex below _ = None

-- the application itself, if it is to be contracted
abbrev pub redex_if : Bool → ℕ → List todos.Todo
redex_if is_redex at = if is_redex then todo.Redex at ∷ [] else []

-- what a search goes into, or that no redex is there
abbrev pub IsInside : Bool → Tree → parts.Inside → Type 0
IsInside below t (inside.Application f a) = t ≡ app (tree_of f.now) (tree_of a.now)
IsInside below t (inside.Body u) = (below ≡ true) × (t ≡ lam (tree_of u.now))
IsInside below t inside.Nothing = strict_redex below t ≡ None
