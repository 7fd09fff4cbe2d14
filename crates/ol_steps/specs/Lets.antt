-- The lets at the front of a term: which names stand for which values.
use Rattle.std.specs.Prelude.{◌≡◌, ℕ, suc, ◌==◌, Bool, true, false, ◌&&◌, not, nat_le, if◌then◌else◌}
use Rattle.std.specs.Prelude.{List, [], ◌∷◌, ◌++◌, map, Option, None, Some}
use Rattle.ol_limits.specs.Limits.{most_depth, most_size}
use Rattle.ol_term.specs.Trees as tree
use Rattle.ol_term.specs.Trees.{Tree, is_named_below, term_size, depth}
use Rattle.ol_term.specs.BinderNames.{is_among}
use Rattle.ol_beta.specs.Beta.{contracted}
use Rattle.ol_steps.specs.Binders.{Binders, lam, app, names_in_argument}
use Rattle.ol_steps.specs.Contraction as own

-- the names of the first n lets, the outermost first
abbrev pub let_names : ℕ → Binders → List (List ℕ)
let_names (suc n) (app (lam x s) r) = x ∷ let_names n s
let_names _ _ = []

-- a name, the value for which it stands, and the names of the value's binders
pub record LetRow : Type 0 where
  pub name : List ℕ
  pub value : Tree
  pub binders : Binders

-- the value of the outermost let
abbrev pub value_of : Tree → Tree
value_of (tree.app f a) = a
value_of t = t

-- no name is free in a tree
abbrev pub is_closed : Tree → Bool
is_closed t = is_named_below 0 t

-- a tree that steps are made from
abbrev pub is_small : Tree → Bool
is_small t = nat_le (term_size t) most_size && nat_le (depth t) most_depth

-- what there is behind a let, where its value is put in and the term is small
abbrev pub if_small : (Tree → List LetRow) → Option Tree → List LetRow
if_small each None = []
if_small each (Some t) = if is_small t then each t else []

-- no term is there, or one that isn't small
abbrev pub no_more : Option Tree → Type 0
no_more None = Unit {0}
no_more (Some t) = is_small t ≡ false

-- a row, if it counts
abbrev pub row_if : Bool → List ℕ → Tree → Binders → List LetRow
row_if counts x v s = if counts then record { name = x; value = v; binders = s } ∷ [] else []

-- The lets of these names, the last one first, each with its value, in which those of the lets before it are put in, and
-- with the names of the value's binders. A let counts if its value is closed, and its name is no free name of the term and
-- no later let's.
abbrev pub lets : (free later : List (List ℕ)) → Tree → Binders → List LetRow
lets free [] t s = []
lets free (x ∷ later) t s =
    if_small (λ u. lets free later u (own.contracted t s [])) (contracted t [])
    ++ row_if (is_closed (value_of t) && not (is_among (free ++ later) x)) x (value_of t) (names_in_argument s)

abbrev pub names_of_lets : List LetRow → List (List ℕ)
names_of_lets rows = map (λ row. row.name) rows

abbrev pub values_of_lets : List LetRow → List Tree
values_of_lets rows = map (λ row. row.value) rows

-- Whether the redex at an address is that of a let, where so many of those at the front are left: `10` leads from each to
-- the next one.
abbrev pub is_let_at : ℕ → List ℕ → Bool
is_let_at (suc n) [] = true
is_let_at (suc n) (j ∷ k ∷ at) = (j == 1) && ((k == 0) && is_let_at n at)
is_let_at _ _ = false
