-- Private: the terms of earlier steps, as they are kept, and what is found among them.
use Rattle.std.specs.Prelude.{◌≡◌, ℕ, List, map, take, slice_get, Option, None, Some}
use Rattle.ol_term.specs.Trees.{Tree, tree_of}
use Rattle.ol_steps.specs.declared.earlier.Earlier.{Earlier}
use Rattle.ol_steps.specs.ValueTrees.{rows_of}
use Rattle.ol_steps.specs.declared.lets.Lets.{Lets}
use Rattle.ol_steps.specs.Steps.{IsNew}
use Rattle.ol_steps.specs.Words.{Glossary}

abbrev pub terms_of : List Earlier → List Tree
terms_of kept = map (λ e. tree_of e.term) kept

-- the step whose term is this one, or that there is none
abbrev pub IsFound : List Tree → Tree → Option ℕ → Type 0
IsFound terms t None = IsNew terms t
IsFound terms t (Some k) = slice_get terms k ≡ Some t

abbrev pub glossary_of : List (List ℕ) → Lets → Glossary
glossary_of names lets = record {
  names = names;
  first = lets.first;
  rows = rows_of lets.rows.items;
  lets = rows_of (take lets.own lets.rows.items);
}
