-- Private: what one crossing makes of a context, slot by slot, where the code tries it.
use Rattle.std.specs.Prelude.{◌≡◌, ℕ, ◌<◌, List, Option, Some, None, MatchOption}
use Rattle.ol_net.specs.declared.parts.Kind.{Kind}
use Rattle.ol_net.specs.Parts.{arity}
use Rattle.ol_context.specs.Contexts.{Level, Context, at_level, mark, up}
use Rattle.ol_context.specs.Paths.{Crosses}
use Rattle.ol_context.specs.Shapes.{AreHeld, context_of}

-- the numbers ms stand for f of what the numbers ns stood for
pub record Becomes (old new : List Level) (ns ms : List ℕ) (f : Context → Context) : Type 0 where
  pub held : AreHeld new ms
  pub is : context_of new ms ≡ f (context_of old ns)

-- the numbers ns stand for f of what the numbers ms stand for
pub record ComesFrom (vs : List Level) (ns ms : List ℕ) (f : Context → Context) : Type 0 where
  pub held : AreHeld vs ms
  pub is : f (context_of vs ms) ≡ context_of vs ns

-- nothing is changed into what the numbers stand for
abbrev pub NoneInto : List Level → List ℕ → ℕ → (ℕ → Context → Context) → Type 0
NoneInto vs ns i f = (s : ℕ) (d : Context) → at_level i (f s) d ≡ context_of vs ns → ⊥

-- level i has lost the mark of auxiliary port s + 1; None where it has no mark, and then nothing is changed
abbrev pub HasLostMark : List Level → ℕ → List ℕ → List ℕ → Option ℕ → Type 0
HasLostMark vs i ns ms r = MatchOption r ((ms ≡ ns) × NoneInto vs ns i mark)
    (λ s. (s < 2) × ComesFrom vs ns ms (at_level i (mark s)))

-- f at level i, the change of a node's only auxiliary port, is undone; None where f makes no such
-- levels, and then nothing is changed
abbrev pub HasUndone : (Context → Context) → List Level → ℕ → List ℕ → List ℕ → Option ℕ → Type 0
HasUndone f vs i ns ms r = MatchOption r ((ms ≡ ns) × NoneInto vs ns i (λ s. f))
    (λ s. (s ≡ 0) × ComesFrom vs ns ms (at_level i f))

-- from slot 0 to slot s + 1, or nowhere
abbrev pub HasFallen : Kind → ℕ → List Level → List ℕ → List ℕ → Option ℕ → Type 0
HasFallen k i vs ns ms None = (ms ≡ ns) × ((s : ℕ) (d : Context) → s < arity k → up k i s d ≡ context_of vs ns → ⊥)
HasFallen k i vs ns ms (Some s) = (s < arity k) × ComesFrom vs ns ms (up k i s)

-- no crossing is defined of a node of this kind and index
abbrev pub NoCrossing : Kind → ℕ → ℕ → Context → Type 0
NoCrossing k i s c = (t : ℕ) (d : Context) → Crosses k i s c t d → ⊥

-- where the walk leaves a node of this kind and index and with which context; None where no
-- crossing is defined, and then nothing is changed
abbrev pub IsCrossed : Kind → ℕ → ℕ → List Level → List Level → List ℕ → List ℕ → Option ℕ → Type 0
IsCrossed k i s old new ns ms None = NoCrossing k i s (context_of old ns) × (ms ≡ ns)
IsCrossed k i s old new ns ms (Some t) = Crosses k i s (context_of old ns) t (context_of new ms)
