use Rattle.std.proofs.Common.{◌≡◌, ℕ, true, List, sym, ap, ◌∙◌}
use Rattle.ol_term.specs.Trees.{tree_of}
use Rattle.ol_term.specs.BinderNames.{is_among}
use Rattle.ol_steps.specs.Naming.{primed, used}
use Rattle.ol_steps.specs.Rounds.{names_round}
use Rattle.ol_steps.proofs.Primes.{try_fails, left_less}
use Rattle.ol_steps.proofs.naming.primed.Goals as goal

pub primes-smaller : goal.primes-smaller
primes-smaller c =
    let taken = used 1 c.args.names.now (names_round c.args.round.now) (tree_of c.args.body.now) in
    let x = c.primes.name.items in
    let is : is_among taken x ≡ true =
    ap (λ (y : List ℕ). is_among taken y) (sym c.deref.ensures.value) ∙ sym c.primes-test.ensures in
    left_less taken x c.push.new.self.items is c.in_ok-push.ensures.items

pub primes-preserved : goal.primes-preserved
primes-preserved c =
    let taken = used 1 c.args.names.now (names_round c.args.round.now) (tree_of c.args.body.now) in
    let x = c.primes.name.items in
    let is : is_among taken x ≡ true =
    ap (λ (y : List ℕ). is_among taken y) (sym c.deref.ensures.value) ∙ sym c.primes-test.ensures in
    ap (λ (y : List ℕ). primed taken y) c.in_ok-push.ensures.items ∙ sym (try_fails taken x is) ∙ c.primes.invariant
