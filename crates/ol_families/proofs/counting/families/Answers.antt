use Rattle.std.proofs.Common.{◌≡◌, ℕ, ◌≤◌, true, false, Some, None, sym, ap, ◌∙◌, subst, arith}
use Rattle.ol_beta.specs.Beta.{IsWithin, IsPastAfter}
use Rattle.ol_beta.specs.Leftmost.{leftmost}
use Rattle.ol_beta.specs.Faults.{IsBetaFault}
use Rattle.ol_beta.specs.declared.contracting.BetaFault.{BetaFault}
use Rattle.ol_beta.proofs.Onward.{no_fault}
use Rattle.ol_term.specs.Trees.{Tree, tree_of, is_below}
use Rattle.ol_families.specs.Counts.{IsFamilyCount}
use Rattle.ol_families.specs.Held.{held_of, bare}
use Rattle.ol_families.specs.Tables.{degrees_of}
use Rattle.ol_families.proofs.Onward.{Follows, begun_with, ends, stops}
use Rattle.ol_families.proofs.Owning.{bare_lettered}
use Rattle.ol_families.proofs.Stepping.{small_here, bound_here, redex_here, past_here, went_on, stopped}
use Rattle.ol_families.proofs.counting.families.Goals as goal

pub steps-init : goal.steps-init
steps-init c =
    let t = tree_of c.args.term.now in
    let e : tree_of c.in_ok-here.here ≡ t = c.in_ok-here.ensures
    ∙ ap bare c.in_ok-labelling.ensures.term ∙ bare_lettered 0 t in
    subst (λ (u : Tree). (0 ≤ c.args.most) × IsWithin u × (is_below 0 u ≡ true)
    × Follows t 0 u (held_of c.in_ok-labelling.labelling.term)
    (degrees_of c.in_ok-labelling.labelling.degrees) c.in_ok-labelling.labelling.written) (sym e) (
      omega arith,
      c.requires.within,
      c.requires.bound,
      begun_with t c.requires.within (held_of c.in_ok-labelling.labelling.term)
          (degrees_of c.in_ok-labelling.labelling.degrees) c.in_ok-labelling.labelling.written
          c.in_ok-labelling.ensures.term (ap degrees_of c.in_ok-labelling.ensures.degrees)
          c.in_ok-labelling.ensures.written,
    )

pub returns-in_default : goal.returns-in_default
returns-in_default c =
    let l = c.steps in
    let i = l.invariant in
    let e : leftmost (tree_of l.here) ≡ None = sym c.in_ok-at.ensures ∙ c.in_default.is in
    subst (λ (n : ℕ). IsFamilyCount (tree_of c.args.term.now) c.args.most n true) (sym c.len-number.ensures)
    (ends (tree_of c.args.term.now) l.made (tree_of l.here) (held_of l.labelling.term) (degrees_of l.labelling.degrees)
    l.labelling.written i.3 c.args.most i.0 e)

pub returns-then-made-most : goal.returns-then-made-most
returns-then-made-most c =
    let l = c.steps in
    let i = l.invariant in
    let a : leftmost (tree_of l.here) ≡ Some c.in-Some.at = sym c.in_ok-at.ensures ∙ c.in-Some.is in
    subst (λ (n : ℕ). IsFamilyCount (tree_of c.args.term.now) c.args.most n false) (sym c.len-number.ensures)
    (stops (tree_of c.args.term.now) l.made (tree_of l.here) (held_of l.labelling.term) (degrees_of l.labelling.degrees)
    l.labelling.written i.3 c.args.most c.in-Some.at c.if-made-most.true a)

pub returns-in-Past : goal.returns-in-Past
returns-in-Past c =
    let l = c.steps in
    let i = l.invariant in
    let a : leftmost (tree_of l.here) ≡ Some c.in-Some.at = sym c.in_ok-at.ensures ∙ c.in-Some.is in
    let p : IsPastAfter (tree_of l.here) c.in-Some.at c.in-Past.size c.in-Past.depth =
    subst (λ (e : BetaFault). IsBetaFault (tree_of l.here) c.in-Some.at e) c.in-Past.is c.in-Err.ensures.refusal in
    subst (λ (n : ℕ). IsFamilyCount (tree_of c.args.term.now) c.args.most n false) (sym c.len-number.ensures)
    (past_here (tree_of c.args.term.now) l.made c.args.most (tree_of l.here) l.labelling i.3 c.in-Some.at c.in-Past.size
    c.in-Past.depth (omega (arith, i.0, c.if-made-most.false)) a p)

pub unreachable-requires : goal.unreachable-requires
unreachable-requires c =
    let l = c.steps in
    let a : leftmost (tree_of l.here) ≡ Some c.in-Some.at = sym c.in_ok-at.ensures ∙ c.in-Some.is in
    no_fault (tree_of l.here) c.in-Some.at a
    (subst (λ (e : BetaFault). IsBetaFault (tree_of l.here) c.in-Some.at e) c.in-NotRedex.is c.in-Err.ensures.refusal)

pub step-requires : goal.step-requires
step-requires c =
    let l = c.steps in
    let i = l.invariant in
    let f = i.3 in
    record {
      small = small_here (tree_of c.args.term.now) l.made c.args.most (tree_of l.here) l.labelling i.3 i.1;
      bound = bound_here (tree_of c.args.term.now) l.made c.args.most (tree_of l.here) l.labelling i.3 i.2;
      few = f.letters_few;
      written = f.few;
      known = f.known;
      redex = redex_here (tree_of c.args.term.now) l.made c.args.most (tree_of l.here) l.labelling i.3 c.in-Some.at
          c.deref.result.now (tree_of c.in-Ok.next) c.in-Ok.ensures.step
          (c.deref.ensures.value ∙ c.in_ok-moves-in-Ok.ensures);
    }

pub returns-then-not-on : goal.returns-then-not-on
returns-then-not-on c =
    let l = c.steps in
    let i = l.invariant in
    let a : leftmost (tree_of l.here) ≡ Some c.in-Some.at = sym c.in_ok-at.ensures ∙ c.in-Some.is in
    subst (λ (n : ℕ). IsFamilyCount (tree_of c.args.term.now) c.args.most n false) (sym c.len-number.ensures)
    (stopped (tree_of c.args.term.now) l.made c.args.most (tree_of l.here) l.labelling i.3 c.step.new.self c.in-Some.at
    (tree_of c.in-Ok.next) a c.in-Ok.ensures.step (omega (arith, i.0, c.if-made-most.false)) c.in-Ok.ensures.within
    c.in_ok-on-in-Ok.on c.deref.result.now (c.deref.ensures.value ∙ c.in_ok-moves-in-Ok.ensures) c.in_ok-on-in-Ok.ensures c.if-not-on.true)

pub steps-preserved : goal.steps-preserved
steps-preserved c =
    let l = c.steps in
    let i = l.invariant in
    let a : leftmost (tree_of l.here) ≡ Some c.in-Some.at = sym c.in_ok-at.ensures ∙ c.in-Some.is in (
      omega (arith, i.0, c.if-made-most.false),
      c.in-Ok.ensures.within,
      c.in-Ok.ensures.bound,
      went_on (tree_of c.args.term.now) l.made c.args.most (tree_of l.here) l.labelling i.3 c.step.new.self c.in-Some.at
          (tree_of c.in-Ok.next) a c.in-Ok.ensures.step (omega (arith, i.0, c.if-made-most.false))
          c.in-Ok.ensures.within c.in_ok-on-in-Ok.on c.deref.result.now (c.deref.ensures.value ∙ c.in_ok-moves-in-Ok.ensures) c.in_ok-on-in-Ok.ensures
          c.if-not-on.false,
    )
