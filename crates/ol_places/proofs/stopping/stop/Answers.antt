use Rattle.std.proofs.Common.{◌++◌, codes, sym, ap, ◌∙◌, subst}
use Rattle.ol_subjects.specs.declared.answers.End.TheVariants.{Yes}
use Rattle.ol_places.specs.Wanted.{IsStop, IsStopAt, a_term}
use Rattle.ol_places.proofs.stopping.stop.Goals as goal

pub returns-in_ok-put-in-None : goal.returns-in_ok-put-in-None
returns-in_ok-put-in-None c =
    let (t, i) = subst (IsStopAt c.args.bytes.now) c.in-None.is c.in_ok-dead_place.ensures in
    let text = c.in_ok-put-in-None.ensures ∙ ap (λ text. text ++ codes "a term\n") c.new-text.ensures.items in
    subst (λ text. IsStop c.args.bytes.now text Yes) (sym text) (a_term i)
