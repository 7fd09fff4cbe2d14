-- Private: the nodes and the joins of a step, as the code lists them.
use Rattle.std.specs.Prelude.{ℕ, zero, suc, ◌+◌, List, [], ◌∷◌, ◌++◌}
use Rattle.ol_net.specs.declared.parts.Kind.{Kind}
use Rattle.ol_net.specs.declared.parts.JoinEnd.{JoinEnd}
use Rattle.ol_net.specs.declared.parts.JoinEnd.TheVariants.{First, Second, Born}
use Rattle.ol_net.specs.Parts.{arity}
use Rattle.ol_rules.specs.Rewriting.{Action, meeting, crossing}
use Rattle.ol_rules.specs.Listed.{each}

abbrev pub copies : {X : Type 0} → ℕ → X → List X
copies zero x = []
copies (suc n) x = x ∷ copies n x

-- a copy of f for each auxiliary port of g, and then a copy of g, its index j, for each of f
abbrev pub born_of : Action → Kind × ℕ → Kind × ℕ → List (Kind × ℕ)
born_of meeting f g = []
born_of (crossing j) f g = copies (arity g.0) f ++ copies (arity f.0) (g.0, j)

-- slots of one number
abbrev pub meeting_joins : ℕ → List (JoinEnd × JoinEnd)
meeting_joins n = each n (λ s. (First (suc s), Second (suc s)) ∷ [])

-- n copies of f at the slots of g, m copies of g at the slots of f, and each copy of f with each of g
abbrev pub crossing_joins : ℕ → ℕ → List (JoinEnd × JoinEnd)
crossing_joins m n =
    each n (λ q. (Born q 0, Second (suc q)) ∷ [])
    ++ (each m (λ p. (Born (n + p) 0, First (suc p)) ∷ [])
    ++ each n (λ q. each m (λ p. (Born q (suc p), Born (n + p) (suc q)) ∷ [])))

abbrev pub joins_of : Action → ℕ → ℕ → List (JoinEnd × JoinEnd)
joins_of meeting m n = meeting_joins m
joins_of (crossing j) m n = crossing_joins m n
