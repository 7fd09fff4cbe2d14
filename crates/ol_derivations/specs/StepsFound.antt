-- Private: what is found on the way to an answer.
use Rattle.std.specs.Prelude.{◌≡◌, ℕ, ◌+◌, ◌<◌, List, Option, Some, None, reverse}
use Rattle.std.specs.Option.{option_map}
use Rattle.std.specs.declared.vec.Vec.{Vec}
use Rattle.std.specs.declared.alloc.Global.{Global}
use Rattle.ol_term.specs.Trees.{Tree, tree_of, term_size}
use Rattle.ol_derivations.specs.Steps.{IsFirstStep, IsNoStep}
use Rattle.ol_derivations.specs.NormalForms.{ReducesTo}
use Rattle.ol_derivations.specs.declared.forms.Normal.{Normal}
use Rattle.ol_derivations.specs.declared.forms.Normal.TheVariants.{Itself, Form, Unknown}
use Rattle.ol_derivations.specs.Derivations.{Terms}
use Rattle.ol_derivations.specs.declared.holding.Last.{Last}
use Rattle.ol_derivations.specs.declared.holding.Sofar.{Sofar}

-- the first address at which contraction gives u, where there is one
abbrev pub IsStepFound : (t u : Tree) → Option (List ℕ) → Type 0
IsStepFound t u None = IsNoStep t u
IsStepFound t u (Some at) = IsFirstStep t u at

-- an address whose moves are kept last first
abbrev pub address_of : Option (Vec ℕ Global) → Option (List ℕ)
address_of found = option_map (λ moves. reverse moves.items) found

-- the one normal form that leftmost reduction finds within so many steps, or none
abbrev pub IsNormalFound : ℕ → Tree → Option Tree → Type 0
IsNormalFound most t None = (v : Tree) → ReducesTo most t v → ⊥
IsNormalFound most t (Some v) = ReducesTo most t v × ((w : Tree) → ReducesTo most t w → w ≡ v)

abbrev pub form_in : Tree → Normal → Option Tree
form_in t Itself = Some t
form_in t (Form v) = Some (tree_of v)
form_in t Unknown = None

-- how many constructors more a term may have, or that it has too many
abbrev pub IsLeft : ℕ → Tree → Option ℕ → Type 0
IsLeft most t None = most < term_size t
IsLeft most t (Some left) = left + term_size t ≡ most

abbrev pub last_of : Option Last → Option (ℕ × Tree)
last_of last = option_map (λ l. (l.line, tree_of l.term)) last

abbrev pub terms_of : Sofar → Terms
terms_of sofar = record { table = sofar.table; last = last_of sofar.last }
