-- A number that is below a sum is below an equal one.
use Rattle.std.proofs.Common.{◌≡◌, ℕ, suc, ◌+◌, ◌<◌, ◌≤◌, true, false, Some, inl, inr, refl, sym, ◌∙◌, subst, arith, rules}
use Rattle.std.specs.Prelude.{IsSome}
use Rattle.ol_term.specs.Trees.{Tree, tree_of, is_below, term_size, depth}
use Rattle.ol_beta.specs.Beta.{IsWithin, IsPastAfter}
use Rattle.ol_beta.specs.Faults.{IsBetaFault}
use Rattle.ol_beta.specs.declared.contracting.BetaFault.{BetaFault}
use Rattle.ol_strategies.specs.Redexes.{next}
use Rattle.ol_strategies.specs.declared.orders.Order.{Order}
use Rattle.ol_counts.specs.Ordered.{LeadsWithin, IsOrderCount, ended, short, past}
use Rattle.ol_counts.proofs.OneStepMore.{leads_on, past_on}
use Rattle.ol_counts.proofs.ordered.steps_to_end.Goals as goal
use Rattle.ol_counts.proofs.ordered.steps_to_end.Goals.{then-size-via-then-size, then-size-via-else-size+then-depth}
use Rattle.ol_strategies.proofs.Nexts.{no_fault}

larger : (n m k : ℕ) → n ≡ k → m < n → m < k
larger n m k e l = omega arith

-- what is known of the last term
abbrev IsLast : Order → (made most : ℕ) → (t u : Tree) → Type 0
IsLast order made most t u =
    (made ≤ most) × IsWithin u × (is_below 0 u ≡ true) × LeadsWithin order made t u

pub returns-then-size : goal.returns-then-size
returns-then-size c =
    let t = tree_of c.args.term.now in
    past t (omega arith) refl (elim c.then-size.branch [
      | then-size-via-then-size w ↦ inl (larger c.size.result 100000 (term_size t) c.size.ensures w.if-size.true)
      | then-size-via-else-size+then-depth w ↦ inr (larger w.depth.result 1000 (depth t) w.depth.ensures w.if-depth.true)
    ])

pub returns-in_default : goal.returns-in_default
returns-in_default c =
    let u = tree_of c.last-here.result.now in
    let i = subst (λ (u : Tree). IsLast c.args.order c.loop-later.made c.args.most (tree_of c.args.term.now) u)
    (sym c.last-here.ensures) c.loop-later.invariant in
    ended u i.0 i.3 i.1 (sym c.in_ok-at.ensures ∙ c.in_default.is)

pub returns-then-made-most : goal.returns-then-made-most
returns-then-made-most c =
    let u = tree_of c.last-here.result.now in
    let i = subst (λ (u : Tree). IsLast c.args.order c.loop-later.made c.args.most (tree_of c.args.term.now) u)
    (sym c.last-here.ensures) c.loop-later.invariant in
    let a : next c.args.order u ≡ Some c.in-Some.at = sym c.in_ok-at.ensures ∙ c.in-Some.is in
    subst (λ (n : ℕ). IsOrderCount c.args.order (tree_of c.args.term.now) c.args.most n false) (sym c.if-made-most.true)
    (short u (subst (λ (n : ℕ). LeadsWithin c.args.order n (tree_of c.args.term.now) u)
    c.if-made-most.true i.3) i.1 (subst IsSome (sym a) (search rules)))

pub returns-in-Past : goal.returns-in-Past
returns-in-Past c =
    let u = tree_of c.last-here.result.now in
    let i = subst (λ (u : Tree). IsLast c.args.order c.loop-later.made c.args.most (tree_of c.args.term.now) u)
    (sym c.last-here.ensures) c.loop-later.invariant in
    let a : next c.args.order u ≡ Some c.in-Some.at = sym c.in_ok-at.ensures ∙ c.in-Some.is in
    let p : IsPastAfter u c.in-Some.at c.in-Past.size c.in-Past.depth = subst (λ (e : BetaFault).
    IsBetaFault u c.in-Some.at e) c.in-Past.is c.in-Err.ensures.refusal in
    let n : suc c.loop-later.made ≡ c.loop-later.made + 1 = omega arith in
    subst (λ (n : ℕ). IsOrderCount c.args.order (tree_of c.args.term.now) c.args.most n false) n
    (past_on c.args.order c.loop-later.made c.args.most (tree_of c.args.term.now) u c.in-Some.at
    c.in-Past.size c.in-Past.depth i.3 i.1 a p (omega (arith, i.0, c.if-made-most.false)))

pub unreachable-requires : goal.unreachable-requires
unreachable-requires c =
    let u = tree_of c.last-here.result.now in
    let a : next c.args.order u ≡ Some c.in-Some.at = sym c.in_ok-at.ensures ∙ c.in-Some.is in
    no_fault c.args.order u c.in-Some.at a (subst (λ (e : BetaFault).
    IsBetaFault u c.in-Some.at e) c.in-NotRedex.is c.in-Err.ensures.refusal)

pub loop-later-preserved : goal.loop-later-preserved
loop-later-preserved c =
    let u = tree_of c.last-here.result.now in
    let i = subst (λ (u : Tree). IsLast c.args.order c.loop-later.made c.args.most (tree_of c.args.term.now) u)
    (sym c.last-here.ensures) c.loop-later.invariant in
    let a : next c.args.order u ≡ Some c.in-Some.at = sym c.in_ok-at.ensures ∙ c.in-Some.is in
    let n : suc c.loop-later.made ≡ c.loop-later.made + 1 = omega arith in (
      omega (arith, i.0, c.if-made-most.false),
      c.in-Ok.ensures.within,
      c.in-Ok.ensures.bound,
      subst (λ (n : ℕ). LeadsWithin c.args.order n (tree_of c.args.term.now) (tree_of c.in-Ok.next)) n
          (leads_on c.args.order c.loop-later.made (tree_of c.args.term.now) u
          (tree_of c.in-Ok.next) i.3 i.1 (c.in-Some.at, a, c.in-Ok.ensures.step)),
    )
