use Rattle.std.proofs.Common.{drop, refl, sym, ◌∙◌}
use Rattle.ol_view.proofs.Fronts.{bad_first, first_read, whole_header}
use Rattle.ol_view.proofs.feeding.Checker.read_first.Goals as goal

pub returns-in_default : goal.returns-in_default
returns-in_default c = λ net text r. bad_first net text c.args.self.now r c.requires.form
    (whole_header c.args.self.now.line.items c.requires.whole
    (λ form rest e. c.in_default.ensures.none form rest (c.deref.ensures.value ∙ e)))

pub returns : goal.returns
returns c = λ net text r. first_read net text c.args.self.now r c.requires.form _ c.in-Some.form
    (drop 11 c.deref.result.now) c.requires.whole (sym c.deref.ensures.value ∙ c.in-Some.ensures.form)
    refl refl refl c.clear.ensures.items
