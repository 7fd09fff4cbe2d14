-- Private: what a crossing makes of an open context's leaf.
use Rattle.std.specs.Prelude.{◌≡◌, ℕ, ◌+◌, ◌-◌, List, Option, Some, None}
use Rattle.ol_context.specs.Open.{reading, AreHeldParts}
use Rattle.ol_context.specs.declared.leaf.Around.{Around}
use Rattle.ol_context.specs.declared.leaf.Leaf.{Leaf}
use Rattle.ol_net.specs.declared.parts.Kind.{Kind}
use Rattle.ol_net.specs.declared.parts.Kind.TheVariants as kind
use Rattle.ol_context.specs.Contexts.{Level, empty, o, Context, cons, tail, at_level}
use Rattle.ol_context.specs.Paths.{Crosses}
use Rattle.ol_context.specs.Shapes.{value, IsHeld, AreHeld, context_of}
use Rattle.ol_context.specs.Crossings.{NoCrossing}
use Rattle.ol_context.specs.Asked.{os}
use Rattle.ol_context.specs.declared.leaf.Fate.{Fate}
use Rattle.ol_context.specs.declared.leaf.Fate.TheVariants as fate

-- A node of kind k and index i is entered by slot s, with the context F v where the leaf is v, and
-- left by slot t, with the context G v. The leaf stays: it only moves. It gives off an o: G is what
-- is left of it, and with an empty leaf no crossing is defined. It goes: that is so with an empty
-- leaf alone, and no leaf is left.
abbrev pub Moves : Kind → ℕ → ℕ → (Level → Context) → (Level → Context) → Context → ℕ → Fate → Type 0
Moves k i s F G c t fate.Stays = (v : Level) → Crosses k i s (F v) t (G v)
Moves k i s F G c t fate.Grows = ((v : Level) → Crosses k i s (F (o v)) t (G v)) × NoCrossing k i s (F empty)
Moves k i s F G c t fate.Goes = Crosses k i s (F empty) t c × ((v : Level) → NoCrossing k i s (F (o v)))

-- no crossing is defined, whatever number of o the leaf is
abbrev pub NoMove : Kind → ℕ → ℕ → (Level → Context) → Type 0
NoMove k i s F = (n : ℕ) → NoCrossing k i s (F (os n empty))

abbrev pub HasMoved : Kind → ℕ → ℕ → (Level → Context) → (Level → Context) → Context → Option (ℕ × Fate) → Type 0
HasMoved k i s F G c None = NoMove k i s F
HasMoved k i s F G c (Some r) = Moves k i s F G c r.0 r.1

-- which level has the leaf, and the parts round it
abbrev pub seen : Leaf → ℕ × List Around
seen l = (l.at, l.around.items)

-- the numbers are of this holder
abbrev pub AreHeldWith : List Level → List ℕ → Leaf → Type 0
AreHeldWith vs ns l = AreHeld vs ns × AreHeldParts vs l.around.items

-- the levels but for the one with the leaf, and the leaf, stay
abbrev pub IsKept : List ℕ → List ℕ → Leaf → Leaf → Type 0
IsKept ns ms l m = (ms ≡ ns) × (seen m ≡ seen l)

-- in each holder of v, of none and of the numbers ns, the numbers ms are held too
abbrev pub AreHeldWithIt : ℕ → ℕ → List ℕ → List ℕ → Type 0
AreHeldWithIt v none ns ms = (vs : List Level) → IsHeld vs v → IsHeld vs none → AreHeld vs ns → AreHeld vs ms

-- where none is the number of the empty value, ms stand for the levels of ns with the value of v put in as level i
abbrev pub HasPutIn : ℕ → ℕ → ℕ → List ℕ → List ℕ → Type 0
HasPutIn i v none ns ms = (vs : List Level) → value vs none ≡ empty →
    context_of vs ms ≡ at_level i (cons (value vs v)) (context_of vs ns)

-- ms stand for the levels of ns without level i
abbrev pub HasTakenOut : ℕ → List ℕ → List ℕ → Type 0
HasTakenOut i ns ms = (vs : List Level) → context_of vs ms ≡ at_level i tail (context_of vs ns)

-- whatever the leaf is, the new levels stand for f of what the old ones stood for
abbrev pub HasRisen : List Level → List Level → List ℕ → List ℕ → Leaf → Leaf → (Context → Context) → Type 0
HasRisen old new ns ms l m f = (v : Level) → reading new ms (Some (seen m)) v ≡ f (reading old ns (Some (seen l)) v)

-- a crossing of a node of this kind and index from this slot
abbrev pub LeafHasMoved : Kind → ℕ → ℕ → List Level → List Level → List ℕ → List ℕ → Leaf → Leaf →
    Option (ℕ × Fate) → Type 0
LeafHasMoved k i s old new ns ms l m r = HasMoved k i s (reading old ns (Some (seen l)))
    (reading new ms (Some (seen m))) (context_of new ms) r

-- where no crossing is defined nothing is changed
abbrev pub IfNoMove : Option (ℕ × Fate) → Type 0 → Type 0
IfNoMove None P = P
IfNoMove (Some r) P = Unit {0}

-- which level has the leaf of level p, once a node of this kind at an earlier level has been left by an auxiliary slot
abbrev pub level_past : Kind → ℕ → ℕ
level_past kind.Lam p = p
level_past kind.App p = p
level_past kind.Fan p = p
level_past kind.Croissant p = p - 1
level_past kind.Bracket p = p + 1
level_past kind.Eraser p = p
