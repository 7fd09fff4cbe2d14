-- The laws of the five orders.
use Rattle.std.specs.Prelude.{◌≡◌, ℕ, suc, [], ◌∷◌, ◌++◌, List, Some, None, IsSome, true, ◌⊎◌, ◌↔◌}
use Rattle.ol_term.specs.Trees.{Tree, app, is_below}
use Rattle.ol_beta.specs.Beta.{contracted}
use Rattle.ol_beta.specs.Leftmost.{is_abstraction, leftmost, IsBefore}
use Rattle.ol_law_meaning.specs.Shows.{IsHeadAddress}
use Rattle.ol_strategies.specs.Redexes.{next, head_redex, weak_head_redex, applicative_redex, is_value, value_redex}
use Rattle.ol_strategies.specs.Reductions.{IsStep, Leads}
use Rattle.ol_strategies.specs.Ends.{IsEnd, IsStuck, HasFreeHead}
use Rattle.ol_strategies.specs.declared.orders.Order.{Order}
use Rattle.ol_strategies.specs.declared.orders.Reached.{Reached}

-- an order contracts a redex of the term
abbrev pub NextIsRedex : Type 0
NextIsRedex = (order : Order) (t : Tree) (at : List ℕ) → next order t ≡ Some at → IsSome (contracted t at)

-- an order has at most one step from a term
abbrev pub StepIsOne : Type 0
StepIsOne = (order : Order) (t u v : Tree) → IsStep order t u → IsStep order t v → u ≡ v

-- so many steps of an order lead from a term to at most one term
abbrev pub ReductIsOne : Type 0
ReductIsOne = (order : Order) (n : ℕ) (t u v : Tree) → Leads order n t u → Leads order n t v → u ≡ v

-- Where an order leads to a term that comes back, it has no end: each term that it leads to has a next redex.
abbrev pub ReturnIsEndless : Type 0
ReturnIsEndless = (order : Order) (before round n : ℕ) (t u v : Tree) → Leads order before t u →
    Leads order (suc round) u u → Leads order n t v → IsSome (next order v)

-- a head step is a leftmost step
abbrev pub HeadIsLeftmost : Type 0
HeadIsLeftmost = (t : Tree) (at : List ℕ) → head_redex t ≡ Some at → leftmost t ≡ Some at

-- a weak head step is a head step
abbrev pub WeakHeadIsHead : Type 0
WeakHeadIsHead = (t : Tree) (at : List ℕ) → weak_head_redex t ≡ Some at → head_redex t ≡ Some at

-- the head redex is the one at a head address
abbrev pub HeadIsAtHeadAddress : Type 0
HeadIsAtHeadAddress = (t : Tree) (at : List ℕ) →
    (head_redex t ≡ Some at) ↔ (IsHeadAddress at × IsSome (contracted t at))

-- no redex stands within the one that applicative order contracts
abbrev pub ApplicativeIsInnermost : Type 0
ApplicativeIsInnermost = (t : Tree) (at below : List ℕ) (m : ℕ) → applicative_redex t ≡ Some at →
    contracted t (at ++ m ∷ below) ≡ None

-- a redex at an address, and none within it
abbrev pub IsInnermost : Tree → List ℕ → Type 0
IsInnermost t at = IsSome (contracted t at)
    × ((m : ℕ) (below : List ℕ) → contracted t (at ++ m ∷ below) ≡ None)

-- each innermost redex is the one that applicative order contracts, or stands after it in preorder
abbrev pub ApplicativeIsFirst : Type 0
ApplicativeIsFirst = (t : Tree) (at b : List ℕ) → applicative_redex t ≡ Some at → IsInnermost t b →
    (at ≡ b) ⊎ IsBefore at b

-- a redex at an address whose argument is a value, below no abstraction
abbrev pub IsValueRedex : Tree → List ℕ → Type 0
IsValueRedex (app f a) [] = (is_abstraction f ≡ true) × (is_value a ≡ true)
IsValueRedex (app f a) (m ∷ at) = ((m ≡ 1) × IsValueRedex f at) ⊎ ((m ≡ 2) × IsValueRedex a at)
IsValueRedex _ at = ⊥

-- call-by-value contracts such a redex, and each other one stands after it in preorder
abbrev pub ValueIsFirst : Type 0
ValueIsFirst = (t : Tree) (at : List ℕ) → value_redex t ≡ Some at →
    IsValueRedex t at × ((b : List ℕ) → IsValueRedex t b → (at ≡ b) ⊎ IsBefore at b)

-- an order has no redex in a term exactly where it ends there, by one word
abbrev pub NoNextIsEnd : Type 0
NoNextIsEnd = (order : Order) (t : Tree) → (next order t ≡ None) ↔ ((word : Reached) × IsEnd order t word)

-- one word fits
abbrev pub EndIsOne : Type 0
EndIsOne = (order : Order) (t : Tree) (v w : Reached) → IsEnd order t v → IsEnd order t w → v ≡ w

-- what is stuck, and has each variable bound, has a free name that is applied, below no abstraction
abbrev pub StuckAtFreeName : Type 0
StuckAtFreeName = (t : Tree) → IsStuck t → is_below 0 t ≡ true → HasFreeHead t
