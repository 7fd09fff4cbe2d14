use Rattle.std.proofs.Common.{length, refl, sym, ◌∙◌, arith}
use Rattle.ol_decoding.proofs.Placed.{get_none, is_path, is_within, next_argument, no_argument}
use Rattle.ol_decoding.proofs.finding.place_of.Goals.{then-number-eq0-via-then-number-eq0, then-number-eq0-via-else-number-eq0+then-number-args_of}
use Rattle.ol_decoding.proofs.finding.place_of.Goals as goal

pub returns-in_default-clause-none : goal.returns-in_default-clause-none
returns-in_default-clause-none c = λ m r. absurd (get_none c.args.tree.now c.loop-k.at
    (sym c.get.ensures.place ∙ c.in_default.is)
    (is_within c.args.tree.now c.args.path.now c.loop-k.k c.loop-k.at c.loop-k.invariant))

pub returns-then-number-eq0-clause-none : goal.returns-then-number-eq0-clause-none
returns-then-number-eq0-clause-none c =
    no_argument c.args.tree.now c.args.path.now c.loop-k.k c.loop-k.at c.loop-k.invariant c.in-Some.node
    (sym c.get.ensures.place ∙ c.in-Some.is) _ (omega (arith, c.loop-k-test.true)) refl
    (elim c.then-number-eq0.branch [
      | then-number-eq0-via-then-number-eq0 w ↦ λ h. absurd (omega (arith, h.0, w.if-number-eq0.true))
      | then-number-eq0-via-else-number-eq0+then-number-args_of w ↦
          λ h. absurd (omega (arith, h.1, w.if-number-args_of.true, w.args_of.ensures))
    ])

pub loop-k-preserved : goal.loop-k-preserved
loop-k-preserved c =
    next_argument c.args.tree.now c.args.path.now c.loop-k.k c.loop-k.at c.loop-k.invariant c.in-Some.node
    (sym c.get.ensures.place ∙ c.in-Some.is) _ (omega (arith, c.loop-k-test.true)) refl
    (omega (arith, c.if-number-eq0.false)) (omega (arith, c.if-number-args_of.false, c.args_of.ensures))
    c.skip-at.result c.skip-at.ensures.place

pub returns-clause-place : goal.returns-clause-place
returns-clause-place c = is_path c.args.tree.now c.args.path.now c.loop-k.k c.loop-k.at c.loop-k.invariant
    (omega (arith, c.loop-k-test.false))

pub returns-clause-within : goal.returns-clause-within
returns-clause-within c = is_within c.args.tree.now c.args.path.now c.loop-k.k c.loop-k.at c.loop-k.invariant
