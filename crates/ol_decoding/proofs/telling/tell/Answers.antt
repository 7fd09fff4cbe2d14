use Rattle.std.proofs.Common.{rules, ◌≡◌, [], ◌++◌, None, sym, ap, ◌∙◌, subst}
use Rattle.ol_term.specs.Trees.{tree_of}
use Rattle.ol_decoding.specs.Told.{IsTold}
use Rattle.ol_decoding.specs.Decoders.{told}
use Rattle.ol_decoding.proofs.Saying.{found_fits, fits_found}
use Rattle.ol_decoding.proofs.Texts.{telling}
use Rattle.ol_decoding.proofs.telling.tell.Goals as goal

pub returns-clause-text : goal.returns-clause-text
returns-clause-text c =
    let t = tree_of c.args.term.now in
    let none : c.new-text.result.items ≡ [] = search rules in
    subst (IsTold [] t) (sym (c.in_ok-put_told.ensures ∙ ap (λ x. x ++ told [] None t) none)) (telling [] None t)

pub returns-clause-fits : goal.returns-clause-fits
returns-clause-fits c =
    let t = tree_of c.args.term.now in
    let e = c.some_found-fits.ensures in
    (λ h. found_fits t (sym e ∙ h), λ h. e ∙ fits_found t h)
