use Rattle.std.proofs.Common.{◌≡◌, true, false, refl, sym, ◌∙◌}
use Rattle.ol_bench.proofs.Onward.{told_to}
use Rattle.ol_bench.proofs.top.bench.Goals as goal

pub returns-then-is_shown-clause-answered : goal.returns-then-is_shown-clause-answered
returns-then-is_shown-clause-answered g c = λ files of.
    let text : c.deref.result.now ≡ c.in-Ok.field-0.text.items =
    (let v = c.deref.ensures.value in let t = c.in-Ok.text-is in cc) in
    told_to c.in-Ok.field-0.end true c.status_of.result (c.in-Ok.ensures.caused files of) text refl
    (sym c.is_shown.ensures ∙ c.if-is_shown.true) c.status_of.ensures (c.told.ensures, (refl, refl))

pub returns-clause-answered : goal.returns-clause-answered
returns-clause-answered g c = λ files of.
    let text : c.deref-else-is_shown.result.now ≡ c.in-Ok.field-0.text.items =
    (let v = c.deref-else-is_shown.ensures.value in let t = c.in-Ok.text-is in cc) in
    told_to c.in-Ok.field-0.end false c.status_of-else-is_shown.result (c.in-Ok.ensures.caused files of) text refl
    (sym c.is_shown.ensures ∙ c.if-is_shown.false) c.status_of-else-is_shown.ensures
    (c.told-else-is_shown.ensures, (refl, refl))
