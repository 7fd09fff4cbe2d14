-- What a term is where an order has no redex in it.
use Rattle.std.specs.Prelude.{◌≡◌, true, ◌⊎◌, List}
use Rattle.ol_term.specs.Trees.{Tree, free, app}
use Rattle.ol_beta.specs.Leftmost.{is_abstraction, IsNormal}
use Rattle.ol_law_meaning.specs.Shows.{applied, IsVariable, IsHeadNormal}
use Rattle.ol_strategies.specs.Redexes.{is_value}
use Rattle.ol_strategies.specs.declared.orders.Order as orders
use Rattle.ol_strategies.specs.declared.orders.Order.TheVariants as order
use Rattle.ol_strategies.specs.declared.orders.Reached as words
use Rattle.ol_strategies.specs.declared.orders.Reached.TheVariants as word

-- a variable or a free name that is applied to arguments
pub record IsNeutral (t : Tree) : Type 0 where
  pub head : Tree
  pub arguments : List Tree
  pub variable : IsVariable head
  pub is : t ≡ applied head arguments

-- an abstraction, or a variable or a free name that is applied to arguments
abbrev pub IsWeakHeadNormal : Tree → Type 0
IsWeakHeadNormal t = (is_abstraction t ≡ true) ⊎ IsNeutral t

abbrev pub IsValue : Tree → Type 0
IsValue t = is_value t ≡ true

-- Call-by-value is stuck: at a variable or a stuck term that is applied to a value or a stuck term, or at an
-- abstraction that is applied to a stuck term.
abbrev pub IsStuck : Tree → Type 0
IsStuck (app f a) = ((IsVariable f ⊎ IsStuck f) × (IsValue a ⊎ IsStuck a)) ⊎ ((is_abstraction f ≡ true) × IsStuck a)
IsStuck _ = ⊥

abbrev pub IsFree : Tree → Type 0
IsFree (free k) = Unit {0}
IsFree _ = ⊥

-- a free name is applied to something, below no abstraction
abbrev pub HasFreeHead : Tree → Type 0
HasFreeHead (app f a) = IsFree f ⊎ (HasFreeHead f ⊎ HasFreeHead a)
HasFreeHead _ = ⊥

-- what an order ends in, and the word for it
abbrev pub IsEnd : orders.Order → Tree → words.Reached → Type 0
IsEnd order.Leftmost t word.Normal = IsNormal t
IsEnd order.Head t word.HeadNormal = IsHeadNormal t
IsEnd order.WeakHead t word.WeakHeadNormal = IsWeakHeadNormal t
IsEnd order.Applicative t word.Normal = IsNormal t
IsEnd order.Value t word.Value = IsValue t
IsEnd order.Value t word.Stuck = IsStuck t
IsEnd _ t _ = ⊥
