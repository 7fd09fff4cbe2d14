use Rattle.std.proofs.Common.{◌≡◌, ◌-◌, Some, sym, ◌∙◌, subst, arith}
use Rattle.ol_term.specs.Trees.{tree_of}
use Rattle.ol_beta.specs.Beta.{IsPastAfter}
use Rattle.ol_beta.specs.Faults.{IsBetaFault}
use Rattle.ol_beta.specs.declared.contracting.BetaFault.{BetaFault}
use Rattle.ol_beta.specs.Leftmost.{leftmost}
use Rattle.ol_beta.proofs.Onward.{no_fault}
use Rattle.ol_derivations.specs.StepsFound.{form_in}
use Rattle.ol_derivations.proofs.NormalForms.{agree_first, agree_on, found_here, found_past, found_on}
use Rattle.ol_derivations.proofs.forms.normal_form.Goals as goal

pub returns-in_default : goal.returns-in_default
returns-in_default c =
    let t = tree_of c.args.t.now in
    found_here c.args.most c.args.most t t c.requires.within (sym c.in_ok-at.ensures ∙ c.in_default.is)
    (agree_first c.args.most t)

pub returns-in-Ok : goal.returns-in-Ok
returns-in-Ok c =
    let t = tree_of c.args.t.now in
    let next = tree_of c.in-Ok.next in
    found_on c.args.most (c.args.most - 1) t next (form_in t c.in_ok-found-in-Ok.found)
    (agree_on c.args.most c.args.most (c.args.most - 1) t t next c.in-Some.at (omega arith) c.requires.within
    (sym c.in_ok-at.ensures ∙ c.in-Some.is) c.in-Ok.ensures.step (agree_first c.args.most t))
    (c.in_ok-found-in-Ok.ensures t)

pub returns-in-Past : goal.returns-in-Past
returns-in-Past c =
    let t = tree_of c.args.t.now in
    let p : IsPastAfter t c.in-Some.at c.in-Past.size c.in-Past.depth =
    subst (λ (e : BetaFault). IsBetaFault t c.in-Some.at e) c.in-Past.is c.in-Err.ensures.refusal in
    found_past c.args.most c.args.most c.in-Past.size c.in-Past.depth t t c.in-Some.at
    (sym c.in_ok-at.ensures ∙ c.in-Some.is) p (agree_first c.args.most t)

pub unreachable-requires : goal.unreachable-requires
unreachable-requires c =
    let t = tree_of c.args.t.now in
    let a : leftmost t ≡ Some c.in-Some.at = sym c.in_ok-at.ensures ∙ c.in-Some.is in
    no_fault t c.in-Some.at a
    (subst (λ (e : BetaFault). IsBetaFault t c.in-Some.at e) c.in-NotRedex.is c.in-Err.ensures.refusal)
