-- A machine that reduces a term by need to its normal form (Sestoft, Deriving a lazy abstract machine, 1997; into bodies
-- and arguments as Crégut, An abstract machine for lambda-terms normalization, 1990).
--
-- A closure is a term with an environment, in which each variable has a cell. A cell has a closure, or what came out of
-- it, its weak head normal form, which is written over it. So a closure is reduced at most once, however often it is used.
use Rattle.std.specs.Prelude.{◌≡◌, ℕ, zero, suc, ◌+◌, Bool, false, List, [], ◌∷◌, ◌++◌, length, slice_get, slice_set, Option, None, Some, is_none, if◌then◌else◌, ◌==◌, ◌&&◌}
use Rattle.ol_term.specs.Trees as trees
use Rattle.ol_term.specs.Trees.{Tree}

-- A chain of cells, the environment of a closure or the arguments of a name, is a number: 0 is the
-- empty chain, and k + 1 is link k, which has a cell and the chain behind it. In an environment the
-- innermost variable comes first, and among arguments the last one.
pub record Link : Type 0 where
  pub cell : ℕ
  pub behind : ℕ

-- a weak head normal form: the body of an abstraction with its environment, or a name with its arguments
pub data Weak : Type 0 where
  function : Tree → ℕ → Weak
  name : ℕ → Weak

-- a closure that waits to be reduced, or what came out of it
pub data Cell : Type 0 where
  waits : Tree → ℕ → Cell
  has : Weak → Cell

-- what is done with a weak head normal form once it comes: it is applied to an argument, or it is written over a cell
pub data Frame : Type 0 where
  argument : ℕ → Frame
  write : ℕ → Frame

-- a term is reduced in an environment, or a weak head normal form has come
pub data Control : Type 0 where
  goes : Tree → ℕ → Control
  came : Weak → Control

-- stack: what is to be done, first the next; left: the cells that the normal form still goes through, first the next;
-- steps: how many beta steps were made
pub record Machine : Type 0 where
  pub control : Control
  pub stack : List Frame
  pub left : List ℕ
  pub cells : List Cell
  pub links : List Link
  pub steps : ℕ

-- the link of a chain that isn't empty
abbrev pub first_link : List Link → ℕ → Option Link
first_link links zero = None
first_link links (suc k) = slice_get links k

-- the chain behind the first link; the empty one has none
abbrev pub behind_link : Option Link → ℕ
behind_link (Some link) = link.behind
behind_link None = 0

-- the chain behind so many links
abbrev pub behind : List Link → ℕ → ℕ → ℕ
behind links zero chain = chain
behind links (suc n) chain = behind_link (first_link links (behind links n chain))

-- Reduction goes on with a cell: with its closure, over which what comes out is written, or with
-- what came out of it. What has no cell is a name.
abbrev pub entered_cell : Machine → ℕ → Option Cell → Machine
entered_cell m at (Some (waits t environment)) =
    record m { control = goes t environment; stack = write at ∷ m.stack }
entered_cell m at (Some (has weak)) = record m { control = came weak }
entered_cell m at None = record m { control = came (name 0) }

abbrev pub entered : Machine → ℕ → Machine
entered m at = entered_cell m at (slice_get m.cells at)

abbrev pub entered_link : Machine → Option Link → Machine
entered_link m (Some link) = entered m link.cell
entered_link m None = record m { control = came (name 0) }

-- A term in an environment. Of an application the function comes first, and the argument is put by
-- as a closure. A variable goes on with its cell.
abbrev pub went : Machine → Tree → ℕ → Machine
went m (trees.var k) environment =
    entered_link m (first_link m.links (behind m.links k environment))
went m (trees.free k) environment = record m { control = came (name 0) }
went m (trees.lam body) environment = record m { control = came (function body environment) }
went m (trees.app f a) environment = record m {
  control = goes f environment;
  stack = argument (length m.cells) ∷ m.stack;
  cells = m.cells ++ waits a environment ∷ [];
}

-- one more link; its chain has the number of links there are then
abbrev pub linked : Machine → ℕ → ℕ → Machine
linked m cell chain = record m { links = m.links ++ (record { cell = cell; behind = chain }) ∷ [] }

-- What came is applied to an argument: an abstraction takes it, which is a beta step, and a name has
-- one argument more.
abbrev pub applied : Machine → Weak → ℕ → Machine
applied m (function body environment) at = record (linked m at environment) {
  control = goes body (suc (length m.links));
  steps = m.steps + 1;
}
applied m (name arguments) at = record (linked m at arguments) {
  control = came (name (suc (length m.links)));
}

-- no cell is left, or reduction goes on with the next one
abbrev pub passed : Machine → List ℕ → Machine
passed m (at ∷ left) = entered (record m { left = left }) at
passed m [] = m

-- a name is in the normal form: its arguments are left, and once they are, reduction goes on with what is left
abbrev pub named : Machine → Option Link → Machine
named m (Some link) = record m { control = came (name link.behind); left = link.cell ∷ m.left }
named m None = passed m m.left

-- What came is in the normal form, with no argument. Of an abstraction the body is next, whose
-- variable is a new name.
abbrev pub shown : Machine → Weak → Machine
shown m (function body environment) = record (linked m (length m.cells) environment) {
  control = goes body (suc (length m.links));
  cells = m.cells ++ has (name 0) ∷ [];
}
shown m (name arguments) = named m (first_link m.links arguments)

-- what is done with what came
abbrev pub done : Machine → Weak → List Frame → Machine
done m weak (argument at ∷ stack) = applied (record m { stack = stack }) weak at
done m weak (write at ∷ stack) =
    record m { stack = stack; cells = slice_set m.cells at (has weak) }
done m weak [] = shown m weak

abbrev pub moved : Machine → Control → Machine
moved m (goes t environment) = went m t environment
moved m (came weak) = done m weak m.stack

-- a move of the machine; one that has come to its end stays as it is
abbrev pub next : Machine → Machine
next m = moved m m.control

-- a name without arguments has come
abbrev pub has_name : List Link → Control → Bool
has_name links (came (name arguments)) = is_none (first_link links arguments)
has_name links _ = false

-- nothing is to be done, no cell is left, and a name without arguments has come
abbrev pub is_ended : Machine → Bool
is_ended m = (length m.stack == 0) && (length m.left == 0) && has_name m.links m.control

-- the machine after so many moves
abbrev pub after : ℕ → Machine → Machine
after zero m = m
after (suc n) m = next (after n m)

-- the machine begins with a term, and with nothing beside it
abbrev pub begun : Tree → Machine
begun t = record {
  control = goes t 0;
  stack = [];
  left = [];
  cells = [];
  links = [];
  steps = 0;
}

-- How many beta steps lead to the normal form by need, if the machine comes to its end within so
-- many moves; else None.
abbrev pub steps_if_ended : Machine → Option ℕ
steps_if_ended m = if is_ended m then Some m.steps else None

abbrev pub need_count : Tree → ℕ → Option ℕ
need_count t moves = steps_if_ended (after moves (begun t))

-- how many beta steps the machine makes within so many moves, and whether it ends
abbrev pub IsNeedCount : Tree → ℕ → ℕ → Bool → Type 0
IsNeedCount t moves n ended = (n ≡ (after moves (begun t)).steps) × (ended ≡ is_ended (after moves (begun t)))
