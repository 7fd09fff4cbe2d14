use Rattle.std.proofs.Common.{◌≡◌, ◌-◌, Some, sym, ◌∙◌, subst, arith}
use Rattle.ol_term.specs.Trees.{tree_of}
use Rattle.ol_beta.specs.Beta.{IsPastAfter}
use Rattle.ol_beta.specs.Faults.{IsBetaFault}
use Rattle.ol_beta.specs.declared.contracting.BetaFault.{BetaFault}
use Rattle.ol_beta.specs.Leftmost.{leftmost}
use Rattle.ol_beta.proofs.Onward.{no_fault}
use Rattle.ol_derivations.proofs.NormalForms.{agree_first, agree_on, found_here, found_none, found_past}
use Rattle.ol_derivations.proofs.forms.reduced.Goals as goal

pub loop-here-init : goal.loop-here-init
loop-here-init c = (agree_first c.args.most (tree_of c.args.t), c.requires.within, c.requires.bound)

pub returns-in_default : goal.returns-in_default
returns-in_default c = λ u.
    found_here c.args.most c.loop-here.left (tree_of c.args.t) (tree_of c.loop-here.here) c.loop-here.invariant.1
    (sym c.in_ok-at.ensures ∙ c.in_default.is) c.loop-here.invariant.0

pub returns-then-left-eq0 : goal.returns-then-left-eq0
returns-then-left-eq0 c = λ u.
    found_none c.args.most c.loop-here.left (tree_of c.args.t) (tree_of c.loop-here.here) c.in-Some.at
    c.if-left-eq0.true (sym c.in_ok-at.ensures ∙ c.in-Some.is) c.loop-here.invariant.0

pub loop-here-preserved : goal.loop-here-preserved
loop-here-preserved c = (
  agree_on c.args.most c.loop-here.left (c.loop-here.left - 1) (tree_of c.args.t) (tree_of c.loop-here.here)
      (tree_of c.in-Ok.next) c.in-Some.at (omega arith) c.loop-here.invariant.1
      (sym c.in_ok-at.ensures ∙ c.in-Some.is) c.in-Ok.ensures.step c.loop-here.invariant.0,
  c.in-Ok.ensures.within,
  c.in-Ok.ensures.bound,
)

pub returns-in-Past : goal.returns-in-Past
returns-in-Past c = λ u.
    let here = tree_of c.loop-here.here in
    let p : IsPastAfter here c.in-Some.at c.in-Past.size c.in-Past.depth =
    subst (λ (e : BetaFault). IsBetaFault here c.in-Some.at e) c.in-Past.is c.in-Err.ensures.refusal in
    found_past c.args.most c.loop-here.left c.in-Past.size c.in-Past.depth (tree_of c.args.t) here c.in-Some.at
    (sym c.in_ok-at.ensures ∙ c.in-Some.is) p c.loop-here.invariant.0

pub unreachable-requires : goal.unreachable-requires
unreachable-requires c =
    let here = tree_of c.loop-here.here in
    let a : leftmost here ≡ Some c.in-Some.at = sym c.in_ok-at.ensures ∙ c.in-Some.is in
    no_fault here c.in-Some.at a
    (subst (λ (e : BetaFault). IsBetaFault here c.in-Some.at e) c.in-NotRedex.is c.in-Err.ensures.refusal)
