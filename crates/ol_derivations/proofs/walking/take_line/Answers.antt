use Rattle.std.proofs.Common.{◌≡◌, rules, refl, ap, ◌∙◌, subst}
use Rattle.ol_term.specs.Trees.{tree_of}
use Rattle.ol_derivations.specs.Derivations.{IsRead, line_text}
use Rattle.ol_derivations.specs.StepsFound.{terms_of}
use Rattle.ol_derivations.specs.declared.lines.Read.{Read}
use Rattle.ol_derivations.specs.declared.lines.Read.TheVariants as read
use Rattle.ol_derivations.proofs.LineVerdicts.{line_left_out, line_no_term, line_term}
use Rattle.ol_derivations.proofs.walking.take_line.Goals as goal

pub returns-in-LeftOut : goal.returns-in-LeftOut
returns-in-LeftOut c =
    let is : IsRead c.args.line.now read.LeftOut =
    subst (λ (r : Read). IsRead c.args.line.now r) c.in-LeftOut.is c.in_ok-read_line.ensures in
    line_left_out c.args.n c.nothing.result.text.items c.nothing.result.fine c.args.line.now
    (terms_of c.args.sofar.now) is c.nothing.ensures.text c.nothing.ensures.fine

pub returns-in_ok-text-in-NoTerm : goal.returns-in_ok-text-in-NoTerm
returns-in_ok-text-in-NoTerm c =
    let words = c.in-NoTerm.words in
    let is : IsRead c.args.line.now (read.NoTerm words) =
    subst (λ (r : Read). IsRead c.args.line.now r) c.in-NoTerm.is c.in_ok-read_line.ensures in
    let d : c.deref.result.now ≡ words.items = search rules in
    line_no_term c.args.n c.in_ok-text-in-NoTerm.text.items _ c.args.line.now words.items
    (terms_of c.args.sofar.now) is.0 is.1
    (c.in_ok-text-in-NoTerm.ensures ∙ ap (λ words. line_text c.args.n words) d) refl

pub returns-in_ok-told-in-Term : goal.returns-in_ok-told-in-Term
returns-in_ok-told-in-Term c =
    let file = c.in-Term.file in
    let is : IsRead c.args.line.now (read.Term file) =
    subst (λ (r : Read). IsRead c.args.line.now r) c.in-Term.is c.in_ok-read_line.ensures in
    line_term c.args.n c.in_ok-told-in-Term.told.text.items c.in_ok-told-in-Term.told.fine c.args.line.now
    (terms_of c.args.sofar.now) (terms_of c.take_term.new.sofar) (tree_of file.term) file.names is.0 is.1
    c.in_ok-told-in-Term.ensures.terms c.in_ok-told-in-Term.ensures.told
