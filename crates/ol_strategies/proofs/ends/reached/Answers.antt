use Rattle.std.proofs.Common.{◌≡◌, false}
use Rattle.ol_term.specs.Trees.{tree_of}
use Rattle.ol_strategies.specs.Redexes.{is_value}
use Rattle.ol_strategies.specs.declared.orders.Order.TheVariants as order
use Rattle.ol_strategies.proofs.Finals.{ends_as, ends_stuck}
use Rattle.ol_strategies.proofs.ends.reached.Goals as goal

pub returns-in-Leftmost : goal.returns-in-Leftmost
returns-in-Leftmost c = ends_as c.args.order order.Leftmost (tree_of c.args.t.now) c.in-Leftmost.is c.requires.ended

pub returns-in-Head : goal.returns-in-Head
returns-in-Head c = ends_as c.args.order order.Head (tree_of c.args.t.now) c.in-Head.is c.requires.ended

pub returns-in-WeakHead : goal.returns-in-WeakHead
returns-in-WeakHead c = ends_as c.args.order order.WeakHead (tree_of c.args.t.now) c.in-WeakHead.is c.requires.ended

pub returns-in-Applicative : goal.returns-in-Applicative
returns-in-Applicative c =
    ends_as c.args.order order.Applicative (tree_of c.args.t.now) c.in-Applicative.is c.requires.ended

pub returns-else-is_value : goal.returns-else-is_value
returns-else-is_value c =
    let f : is_value (tree_of c.args.t.now) ≡ false = cc in
    ends_stuck c.args.order (tree_of c.args.t.now) c.in-Value.is f c.requires.ended
