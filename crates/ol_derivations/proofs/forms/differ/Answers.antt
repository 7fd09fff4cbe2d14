use Rattle.std.proofs.Common.{sym}
use Rattle.ol_term.specs.Trees.{tree_of}
use Rattle.ol_derivations.proofs.NormalForms.{no_first, no_second, both_found}
use Rattle.ol_derivations.proofs.forms.differ.Goals as goal

pub returns-in_default : goal.returns-in_default
returns-in_default c = no_first c.args.most (tree_of c.args.t.now) (tree_of c.args.u.now) _ (sym c.in_default.ensures)
    c.in_ok-first.ensures

pub returns-in_default-form : goal.returns-in_default-form
returns-in_default-form c = no_second c.args.most (tree_of c.args.t.now) (tree_of c.args.u.now) _
    (sym c.in_default-form.ensures) c.in_ok-second.ensures

pub returns : goal.returns
returns c = both_found c.args.most (tree_of c.args.t.now) (tree_of c.args.u.now) (tree_of c.in-Some.v.now)
    (tree_of c.in-Some-form.w.now) _ _ c.alpha_eq.result (sym c.in-Some.ensures) (sym c.in-Some-form.ensures)
    c.in_ok-first.ensures c.in_ok-second.ensures c.alpha_eq.ensures
