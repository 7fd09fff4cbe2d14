-- Level values, contexts, and what a node does to a context (Gonthier, Abadi and Lévy, The Geometry
-- of Optimal Lambda Reduction, 1992).
use Rattle.std.specs.Prelude.{ℕ, zero, suc, List, [], ◌∷◌}
use Rattle.ol_net.specs.declared.parts.Kind.{Kind}
use Rattle.ol_net.specs.declared.parts.Kind.TheVariants as kind

-- what stands at a level: empty, o.v, *.v or <v,w>
pub data Level : Type 0 where
  empty : Level
  o : Level → Level
  star : Level → Level
  pair : Level → Level → Level

-- a context has a value at every level
abbrev pub Context : Type 0
Context = ℕ → Level

-- a finite list of values, and then empty levels without end
abbrev pub levels : List Level → Context
levels [] n = empty
levels (v ∷ vs) zero = v
levels (v ∷ vs) (suc n) = levels vs n

-- a value put in as level 0
abbrev pub cons : Level → Context → Context
cons v c zero = v
cons v c (suc n) = c n

-- level 0 taken out
abbrev pub tail : Context → Context
tail c n = c (suc n)

-- a change at level 0 made at level i instead: the levels before i stay
abbrev pub at_level : ℕ → (Context → Context) → Context → Context
at_level zero f c = f c
at_level (suc i) f c = cons (c 0) (at_level i f (tail c))

-- a value with the mark of an auxiliary port before it: o of port 1, a star of port 2
abbrev pub marked : ℕ → Level → Level
marked zero v = o v
marked (suc s) v = star v

-- level 0 gets the mark of auxiliary port s + 1
abbrev pub mark : ℕ → Context → Context
mark s c = cons (marked s (c 0)) (tail c)

-- levels 0 and 1 become one
abbrev pub packed : Context → Context
packed c = cons (pair (c 1) (c 0)) (tail (tail c))

-- what a node of index 0 does on the way from slot s + 1 to slot 0
abbrev pub change : Kind → ℕ → Context → Context
change kind.Lam s c = mark s c
change kind.App s c = mark s c
change kind.Fan s c = mark s c
change kind.Croissant s c = cons empty c
change kind.Bracket s c = packed c
change kind.Eraser s c = c

-- what a node of this kind and index does on the way from slot s + 1 to slot 0
abbrev pub up : Kind → ℕ → ℕ → Context → Context
up k i s = at_level i (change k s)

-- the index of a node of index j + 1 once it has crossed a node of this kind and of a lower index
abbrev pub shift : Kind → ℕ → ℕ
shift kind.Lam j = suc j
shift kind.App j = suc j
shift kind.Fan j = suc j
shift kind.Croissant j = j
shift kind.Bracket j = suc (suc j)
shift kind.Eraser j = suc j

-- the kinds that cross nodes of a higher index
abbrev pub IsCrosser : Kind → Type 0
IsCrosser kind.Fan = Unit {0}
IsCrosser kind.Croissant = Unit {0}
IsCrosser kind.Bracket = Unit {0}
IsCrosser kind.Lam = ⊥
IsCrosser kind.App = ⊥
IsCrosser kind.Eraser = ⊥
