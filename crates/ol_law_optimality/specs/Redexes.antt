-- Virtual redexes: routes along which each context is led from an application to an abstraction, the
-- levels from their indexes on unchanged (Danos and Regnier, Local and asynchronous beta-reduction, 1993).
use Rattle.std.specs.Prelude.{◌≡◌, ℕ, ◌<◌, List, [], ◌∷◌, length}
use Rattle.ol_net.specs.declared.parts.Kind.{Kind}
use Rattle.ol_net.specs.Nets.{NamedNet, HasNode}
use Rattle.ol_net.specs.Parts.{arity}
use Rattle.ol_context.specs.Contexts.{Level, Context, cons, up}
use Rattle.ol_law_optimality.specs.Routes.{Crossing, rise, fall, Route, HasRoute}

-- The crossings lead from context c to context d.
abbrev pub Carries : {A : Type 0} → NamedNet A → Context → List (Crossing A) → Context → Type 0
Carries N c [] d = c ≡ d
Carries N c (rise x s ∷ w) d =
    (k : Kind) × (i : ℕ) × HasNode N x k i × (s < arity k) × Carries N (up k i s c) w d
Carries N c (fall x s ∷ w) d =
    (k : Kind) × (i : ℕ) × HasNode N x k i × (s < arity k)
    × (b : Context) × (up k i s b ≡ c) × Carries N b w d

-- these levels first, and then those of a context
abbrev pub put : List Level → Context → Context
put [] c = c
put (v ∷ vs) c = cons v (put vs c)

-- The route leads from an application of index i to an abstraction of index j. There are levels
-- below i, and levels below j, with which each context is led from the one to the other: what
-- stands from level i on at the application stands from level j on at the abstraction.
pub record IsVirtualRedex {A : Type 0} (N : NamedNet A) (s : Route A) : Type 0 where
  pub route : HasRoute N s
  pub begin : List Level
  pub last : List Level
  pub begin_is : length begin ≡ route.i
  pub last_is : length last ≡ route.j
  pub carries : (c : Context) → Carries N (put begin c) s.row (put last c)
