-- Where the parts of a term stand, as walks over its net come to them.
use Rattle.std.specs.Prelude.{ℕ, zero, suc}
use Rattle.ol_context.specs.Contexts.{Level, Context, cons}
use Rattle.ol_law_meaning.specs.Spots.{root, Spot, at, body, fun, arg}
use Rattle.ol_term.specs.Trees.{Tree, lam, app}

-- The way to a part, with the value with which each argument round it is entered. So a part of an
-- argument has many sites, as the argument is used many times.
pub data Site : Type 0 where
  self : Site
  in_lam : Site → Site
  in_function : Site → Site
  in_argument : Level → Site → Site

-- a spot of the part is this spot of the term
abbrev pub spot_in : Site → Spot → Spot
spot_in self s = s
spot_in (in_lam p) s = body (spot_in p s)
spot_in (in_function p) s = fun (spot_in p s)
spot_in (in_argument v p) s = arg v (spot_in p s)

-- the part u of t stands at this site
pub data PartAt : Tree → Site → Tree → Type 0 where
  whole : {t : Tree} → PartAt t self t
  of_lam : {M u : Tree} {p : Site} → PartAt M p u → PartAt (lam M) (in_lam p) u
  of_function : {M N u : Tree} {p : Site} → PartAt M p u → PartAt (app M N) (in_function p) u
  of_argument : {M N u : Tree} {p : Site} {v : Level} →
      PartAt N p u → PartAt (app M N) (in_argument v p) u

-- the root of the function of the application at a site
abbrev pub function_at : Site → Level → Context → Spot
function_at p v c = spot_in p (fun (at root v c))

-- the root of the abstraction at a site
abbrev pub abstraction_at : Site → Level → Context → Spot
abstraction_at p v c = spot_in p (at root v c)

-- how many arguments are round it
abbrev pub depth : Site → ℕ
depth self = zero
depth (in_lam p) = depth p
depth (in_function p) = depth p
depth (in_argument v p) = suc (depth p)

-- the values with which they are entered, and then a context of the part
abbrev pub context_at : Site → Context → Context
context_at self c = c
context_at (in_lam p) c = context_at p c
context_at (in_function p) c = context_at p c
context_at (in_argument v p) c = cons v (context_at p c)
