use Rattle.std.proofs.Common.{◌≡◌, ◌+◌, ◌++◌, OnOk, sym, ap, ◌∙◌, subst}
use Rattle.std.specs.Prelude.{string_bytes, codes}
use Rattle.std.specs.Fmt.{decimal}
use Rattle.ol_explain.specs.Explained.{never_text}
use Rattle.ol_rules.specs.declared.journal.NodeName.TheVariants.{Born}
use Rattle.ol_view.specs.TraceTexts.{name_text}
use Rattle.ol_explain.proofs.Pieces.{two, four}
use Rattle.ol_explain.proofs.causes.put_never.Goals as goal

pub returns-in_ok-put-in-Init : goal.returns-in_ok-put-in-Init
returns-in_ok-put-in-Init c =
    let b0 = string_bytes c.args.text.now in
    subst (λ words. OnOk c.put_number.result (string_bytes c.put_number.new.text ≡ words))
    (two b0 (string_bytes c.put.new.text) (codes "the net has no node ") (decimal c.in-Init.k)
    c.in_ok-put-in-Init.ensures
    ∙ ap (λ x. b0 ++ never_text x) (sym c.in-Init.is))
    c.put_number.ensures

pub returns-in_ok-put-in-Born-2 : goal.returns-in_ok-put-in-Born-2
returns-in_ok-put-in-Born-2 c =
    let b0 = string_bytes c.args.text.now in
    let line = decimal (c.in-Born.ticket + 2) in
    let end = c.put_name in
    subst (λ words. OnOk end.result (string_bytes end.new.text ≡ words))
    (four b0 (string_bytes c.put-in-Born.new.text) (string_bytes c.put_long.new.text)
    (string_bytes c.put-in-Born-2.new.text) (codes "line ") line (codes " created no ") (name_text (Born c.in-Born.ticket c.in-Born.place))
    c.in_ok-put-in-Born.ensures c.in_ok-put_long-in-Born.ensures c.in_ok-put-in-Born-2.ensures
    ∙ ap (λ x. b0 ++ never_text x) (sym c.in-Born.is))
    end.ensures
