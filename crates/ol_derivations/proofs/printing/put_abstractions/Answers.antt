use Rattle.std.proofs.Common.{List, ℕ, ◌++◌, ap, ◌∙◌}
use Rattle.ol_term.specs.BinderNames.{binder_name}
use Rattle.ol_derivations.proofs.Printed.{opened_on}
use Rattle.ol_derivations.proofs.printing.put_abstractions.Goals as goal

pub loop-k-preserved : goal.loop-k-preserved
loop-k-preserved c =
    let i = c.loop-k.invariant in
    let text = c.loop-k.text.items in
    let signed = c.put.new.text.items in
    let b = c.in_ok-binder.binder in (
      opened_on c.args.binders.now c.args.text.now.items text signed c.put-in-loop-k.new.text.items c.args.t c.loop-k.k b
          i.0 (c.in_ok-put.ensures ∙ ap (λ (s : List ℕ). text ++ s) c.sign.ensures) c.in_ok-binder.ensures
          (c.in_ok-put-2.ensures.text ∙ ap (λ names. signed ++ binder_name names b) i.1),
      c.in_ok-put-2.ensures.names ∙ i.1,
    )
