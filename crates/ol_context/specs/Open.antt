-- Open contexts: contexts in which one level has a leaf in the place of a value.
use Rattle.std.specs.Prelude.{◌≡◌, ℕ, ◌-◌, ◌≤◌, ◌<◌, List, [], ◌∷◌, length, Option, Some, None}
use Rattle.ol_context.specs.Contexts.{Level, empty, o, star, pair, Context, cons, at_level}
use Rattle.ol_context.specs.Shapes.{value, AreHeld, context_of}
use Rattle.ol_context.specs.Asked.{os}
use Rattle.ol_context.specs.declared.leaf.Around.{Around}
use Rattle.ol_context.specs.declared.leaf.Around.TheVariants as around

-- one part round a value
abbrev pub wrapped : List Level → Around → Level → Level
wrapped vs around.O v = o v
wrapped vs around.Star v = star v
wrapped vs (around.First b) v = pair v (value vs b)
wrapped vs (around.Second a) v = pair (value vs a) v

-- the parts round a value, the innermost first
abbrev pub filled : List Level → List Around → Level → Level
filled vs [] v = v
filled vs (p ∷ ps) v = filled vs ps (wrapped vs p v)

-- The levels but for the one with the leaf, by their numbers. Which level has the leaf, and the
-- parts round it, the innermost first; None where no leaf is left. And the number of abstractions
-- that the leaf has given off.
pub record Open : Type 0 where
  pub levels : List ℕ
  pub leaf : Option (ℕ × List Around)
  pub lams : ℕ

-- the context in which the leaf is read as v
abbrev pub reading : List Level → List ℕ → Option (ℕ × List Around) → Level → Context
reading vs ns None v = context_of vs ns
reading vs ns (Some l) v = at_level l.0 (cons (filled vs l.1 v)) (context_of vs ns)

-- the leaf stands for each n from lams on, and without a leaf the context is that of lams alone
abbrev pub Covers : Option (ℕ × List Around) → ℕ → ℕ → Type 0
Covers None lams n = n ≡ lams
Covers (Some l) lams n = lams ≤ n

abbrev pub IsOpenFor : Open → ℕ → Type 0
IsOpenFor X n = Covers X.leaf X.lams n

-- the context that it stands for at n: the leaf is n - lams times o before empty
abbrev pub open_at : List Level → Open → ℕ → Context
open_at vs X n = reading vs X.levels X.leaf (os (n - X.lams) empty)

-- the numbers in the parts are of this holder
abbrev pub IsHeldPart : List Level → Around → Type 0
IsHeldPart vs around.O = Unit {0}
IsHeldPart vs around.Star = Unit {0}
IsHeldPart vs (around.First b) = b < length vs
IsHeldPart vs (around.Second a) = a < length vs

abbrev pub AreHeldParts : List Level → List Around → Type 0
AreHeldParts vs [] = Unit {0}
AreHeldParts vs (p ∷ ps) = IsHeldPart vs p × AreHeldParts vs ps

abbrev pub IsHeldLeaf : List Level → Option (ℕ × List Around) → Type 0
IsHeldLeaf vs None = Unit {0}
IsHeldLeaf vs (Some l) = AreHeldParts vs l.1

-- all numbers of an open context are of this holder
abbrev pub IsHeldOpen : List Level → Open → Type 0
IsHeldOpen vs X = AreHeld vs X.levels × IsHeldLeaf vs X.leaf

-- these levels, and then the leaf alone
abbrev pub opened : List ℕ → Open
opened ns = record { levels = ns; leaf = Some (length ns, []); lams = 0 }
