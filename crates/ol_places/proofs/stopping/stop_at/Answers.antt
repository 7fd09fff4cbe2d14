use Rattle.std.proofs.Common.{◌≡◌, ◌++◌, sym, ap, ◌∙◌, subst}
use Rattle.ol_subjects.specs.declared.answers.End.TheVariants.{No}
use Rattle.ol_places.specs.Wanted.{wanted_line, IsStop, stops}
use Rattle.ol_places.proofs.stopping.stop_at.Goals as goal

pub returns : goal.returns
returns c =
    let told = c.in_ok-told.told.items in
    let wanted = c.in_ok-put.ensures
    ∙ ap (λ line. c.in_ok-text.text.items ++ line) (c.deref.ensures.value ∙ c.in_ok-line.ensures)
    ∙ ap (λ text. text ++ wanted_line c.in_ok-wants.wants) c.in_ok-text.ensures in
    let text = c.in_ok-put-2.ensures ∙ ap (λ line. c.put.new.text.items ++ line) c.deref-2.ensures.value
    ∙ ap (λ text. text ++ told) wanted in
    subst (λ text. IsStop c.args.bytes.now text No) (sym text)
    (stops c.requires.dead c.line_of-start.ensures c.in_ok-wants.ensures c.in_ok-told.ensures)
