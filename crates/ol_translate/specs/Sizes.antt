-- The number of nodes of a translated term, by each of the two translations.
use Rattle.std.specs.Prelude.{ℕ, ◌+◌, ◌-◌, Bool, not, ◌==◌, nat_lt, List, [], ◌∷◌, ◌++◌, length}
use Rattle.std.specs.Prelude.{map, filter, Option, None, Some, if◌then◌else◌}
use Rattle.std.specs.List.{list_any}
use Rattle.ol_term.specs.declared.translations.Translation.{Translation}
use Rattle.ol_term.specs.Trees.{Tree, var, free, lam, app}
use Rattle.ol_translate.specs.Translation.{bare_variable}

abbrev pub is_listed : ℕ → List ℕ → Bool
is_listed v vs = list_any (λ w. w == v) vs

-- The variables free in a term that stands under d abstractions, each once, in order of first occurrence, the function
-- before the argument. They are counted outwards, and variable d + f is free name f.
abbrev pub variables : ℕ → Tree → List ℕ
variables d (var v) = v ∷ []
variables d (free f) = (d + f) ∷ []
variables d (lam M) = map (λ v. v - 1) (filter (λ v. nat_lt 0 v) (variables (d + 1) M))
variables d (app M N) = variables d M ++ filter (λ v. not (is_listed v (variables d M))) (variables d N)

-- What an argument adds: its own nodes, a bracket for each of its variables, and a fan for each that the function has
-- too; an argument that is the wire of a variable adds just that fan.
abbrev pub size_of_argument : Option ℕ → (argument : ℕ) → (fM fN : List ℕ) → ℕ
size_of_argument None argument fM fN = argument + length fN + length (filter (λ v. is_listed v fM) fN)
size_of_argument (Some y) argument fM fN = if is_listed y fM then 1 else 0

-- the number of nodes of a term under d abstractions
abbrev pub size_under : Translation → ℕ → Tree → ℕ
size_under w d (var v) = 1
size_under w d (free f) = 1
size_under w d (lam M) = 1 + size_under w (d + 1) M + (if is_listed 0 (variables (d + 1) M) then 0 else 1)
size_under w d (app M N) =
    1 + size_under w d M + size_of_argument (bare_variable w d N) (size_under w d N) (variables d M) (variables d N)

-- the number of nodes of a whole term
abbrev pub size_of_translation : Translation → Tree → ℕ
size_of_translation w t = size_under w 0 t
