use Rattle.std.proofs.Common.{◌∙◌}
use Rattle.ol_steps.proofs.stepping.of_text.Goals as goal

pub returns : goal.returns
returns c = λ i.
    c.in_ok-answer.ensures c.args.bytes.now i
    (λ e. (i.file.named, i.file.text, c.in_ok-own.ensures (c.needs_binders.ensures ∙ e) i.file.named i.file.text))
    c.lets_told-count.ensures
