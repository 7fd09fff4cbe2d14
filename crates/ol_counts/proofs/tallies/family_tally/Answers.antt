-- A number that is below a sum is below an equal one.
use Rattle.std.proofs.Common.{ℕ, ◌≡◌, ◌<◌, inl, inr, sym, subst, arith}
use Rattle.ol_term.specs.Trees.{tree_of, term_size, depth}
use Rattle.ol_counts.specs.declared.tallies.Tally.{Tally}
use Rattle.ol_counts.specs.Tallies.{IsFamilyTally, counted, large}
use Rattle.ol_counts.proofs.tallies.family_tally.Goals as goal
use Rattle.ol_counts.proofs.tallies.family_tally.Goals.{then-size-via-then-size, then-size-via-else-size+then-depth}

larger : (n m k : ℕ) → n ≡ k → m < n → m < k
larger n m k e l = omega arith

pub returns-then-size : goal.returns-then-size
returns-then-size c =
    let t = tree_of c.args.term.now in
    subst (λ (a : Tally). IsFamilyTally c.args.most t a) (sym c.steps_tally.ensures)
    (large (elim c.then-size.branch [
      | then-size-via-then-size w ↦ inl (larger c.size.result 100000 (term_size t) c.size.ensures w.if-size.true)
      | then-size-via-else-size+then-depth w ↦ inr (larger w.depth.result 1000 (depth t) w.depth.ensures w.if-depth.true)
    ]))

pub returns : goal.returns
returns c = subst (λ (a : Tally). IsFamilyTally c.args.most (tree_of c.args.term.now) a) (sym c.steps_tally-2.ensures)
    (counted c.in_ok-steps.ensures)
