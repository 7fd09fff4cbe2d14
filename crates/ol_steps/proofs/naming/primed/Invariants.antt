use Rattle.std.proofs.Common.{◌≡◌, ◌+◌, ◌-◌, length}
use Rattle.ol_term.specs.Trees.{tree_of}
use Rattle.ol_steps.specs.Naming.{primed, used, bytes_in}
use Rattle.ol_steps.specs.Rounds.{names_round}
use Rattle.ol_steps.proofs.naming.primed.Given as goal

abbrev pub invariant-primes : goal.invariant-primes
invariant-primes l =
    primed (used 1 l.names (names_round l.round) (tree_of l.body)) l.name.items
    ≡ primed (used 1 l.names (names_round l.round) (tree_of l.body)) l.own

abbrev pub decreases-primes : goal.decreases-primes
decreases-primes l = bytes_in (used 1 l.names (names_round l.round) (tree_of l.body)) + 1 - length l.name.items
