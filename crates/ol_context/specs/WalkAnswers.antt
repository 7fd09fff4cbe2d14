-- What a walk answers.
use Rattle.std.specs.Prelude.{◌≡◌, ℕ, ◌↔◌, List}
use Rattle.ol_net.specs.Nets.{NamedNet, free}
use Rattle.ol_context.specs.Contexts.{Level, Context}
use Rattle.ol_context.specs.Shapes.{AreHeld, context_of}
use Rattle.ol_context.specs.Ways.{Exits, Stops, WalkStands}
use Rattle.ol_context.specs.declared.answers.Walk.{Walk}
use Rattle.ol_context.specs.declared.answers.Walk.TheVariants as walk

-- the answer is an exit by port q with context d after n crossings
abbrev pub IsExit : List Level → Walk → ℕ → Context → ℕ → Type 0
IsExit vs (walk.Exit q' ms n') q d n = (q' ≡ q) × (context_of vs ms ≡ d) × (n' ≡ n)
IsExit vs (walk.Undefined n') q d n = ⊥
IsExit vs walk.Budget q d n = ⊥

-- An exit comes exactly where a path of no more than edges crossings leads to a free port: by that
-- port, with the context there, and with the number of crossings.
abbrev pub ExitsExactly : NamedNet ℕ → ℕ → Context → ℕ → List Level → Walk → Type 0
ExitsExactly N p c edges vs w = (q : ℕ) (d : Context) (n : ℕ) → IsExit vs w q d n ↔ Exits N (free p) c edges q d n

-- Undefined comes exactly where the crossing tried as that number is not defined.
abbrev pub StopsExactly : NamedNet ℕ → ℕ → Context → ℕ → Walk → Type 0
StopsExactly N p c edges w = (n : ℕ) → (w ≡ walk.Undefined n) ↔ Stops N (free p) c edges n

-- Budget comes exactly where the walk stands at a node after all crossings.
abbrev pub StandsExactly : NamedNet ℕ → ℕ → Context → ℕ → Walk → Type 0
StandsExactly N p c edges w = (w ≡ walk.Budget) ↔ WalkStands N (free p) c edges

-- the context of an exit is of this holder
abbrev pub IsHeldExit : List Level → Walk → Type 0
IsHeldExit vs (walk.Exit q ms n) = AreHeld vs ms
IsHeldExit vs (walk.Undefined n) = Unit {0}
IsHeldExit vs walk.Budget = Unit {0}
