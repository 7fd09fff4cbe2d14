-- Five orders of reduction, each by the address of the redex that it contracts next (Barendregt, The Lambda Calculus,
-- 1984, chapters 8 and 13; for call-by-value Plotkin, 1975). docs/DECISIONS.md says what is added to Plotkin's rule on
-- terms with free names.
use Rattle.std.specs.Prelude.{ℕ, Bool, true, false, ◌&&◌, if◌then◌else◌, List, [], Option, Some, None}
use Rattle.std.specs.Option.{option_or}
use Rattle.ol_term.specs.Trees.{Tree, lam, app}
use Rattle.ol_beta.specs.Leftmost.{is_abstraction, under, leftmost}
use Rattle.ol_strategies.specs.declared.orders.Order.{Order}
use Rattle.ol_strategies.specs.declared.orders.Order.TheVariants.{Leftmost, Head, WeakHead, Applicative, Value}

-- head reduction: the head redex, below the abstractions of the head prefix
abbrev pub head_redex : Tree → Option (List ℕ)
head_redex (lam t) = under 0 (head_redex t)
head_redex (app f a) = if is_abstraction f then Some [] else under 1 (head_redex f)
head_redex _ = None

-- weak head reduction, which is call-by-name: the head redex of what is no abstraction
abbrev pub weak_head_redex : Tree → Option (List ℕ)
weak_head_redex (app f a) = if is_abstraction f then Some [] else under 1 (weak_head_redex f)
weak_head_redex _ = None

-- the root, if it is a redex
abbrev pub root_if : Bool → Option (List ℕ)
root_if is_redex = if is_redex then Some [] else None

-- applicative order: the leftmost innermost redex, so function and argument come first, below abstractions too
abbrev pub applicative_redex : Tree → Option (List ℕ)
applicative_redex (lam t) = under 0 (applicative_redex t)
applicative_redex (app f a) = option_or (under 1 (applicative_redex f))
    (option_or (under 2 (applicative_redex a)) (root_if (is_abstraction f)))
applicative_redex _ = None

-- a value: a variable, a free name or an abstraction
abbrev pub is_value : Tree → Bool
is_value (app f a) = false
is_value _ = true

-- Call-by-value: the leftmost redex whose argument is a value, below no abstraction. A function comes before its
-- argument, and where it is stuck, as a free name with arguments is, its argument comes all the same.
abbrev pub value_redex : Tree → Option (List ℕ)
value_redex (app f a) = option_or (under 1 (value_redex f))
    (option_or (under 2 (value_redex a)) (root_if (is_abstraction f && is_value a)))
value_redex _ = None

-- the redex that an order contracts next; `leftmost` is normal order
abbrev pub next : Order → Tree → Option (List ℕ)
next Leftmost = leftmost
next Head = head_redex
next WeakHead = weak_head_redex
next Applicative = applicative_redex
next Value = value_redex
