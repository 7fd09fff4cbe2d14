-- Private: where a walk stands after some crossings.
use Rattle.std.specs.Prelude.{◌≡◌, ℕ, List, Option, Some, None}
use Rattle.ol_net.specs.declared.parts.Kind.{Kind}
use Rattle.ol_context.specs.Contexts.{Level}
use Rattle.ol_context.specs.Paths.{Crosses}
use Rattle.ol_context.specs.Crossings.{NoCrossing}
use Rattle.ol_context.specs.Open.{Open, IsOpenFor, open_at}
use Rattle.ol_context.specs.Passed.{Narrows}

-- a node of kind k and index i is entered by slot s, and left by slot t or not at all
abbrev pub HasPassed : Kind → ℕ → ℕ → List Level → List Level → Open → Open → Option ℕ → Type 0
HasPassed k i s old new X Y None = ((n : ℕ) → IsOpenFor X n → NoCrossing k i s (open_at old X n)) × (Y ≡ X)
HasPassed k i s old new X Y (Some t) = Narrows X Y
    (λ n. Crosses k i s (open_at old X n) t (open_at new Y n)) (λ n. NoCrossing k i s (open_at old X n))
