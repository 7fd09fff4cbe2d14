use Rattle.std.proofs.Common.{◌≡◌, [], ◌++◌, OnOk, if◌then◌else◌, ap, ◌∙◌, subst}
use Rattle.std.specs.Prelude.{codes}
use Rattle.std.specs.Fmt.{decimal}
use Rattle.ol_explain.specs.Afters.{line_with}
use Rattle.ol_explain.specs.Others.{translation_number}
use Rattle.ol_explain.proofs.Pieces.{three}
use Rattle.ol_explain.proofs.others.put_run.Goals as goal

pub returns : goal.returns
returns c =
    let b0 = c.args.text.now.items in
    let words = codes "it is a run of translation " in
    subst (λ words. OnOk c.put-2.result (c.put-2.new.text.items ≡ words))
    (three b0 c.put.new.text.items c.put_number.new.text.items words (decimal c.number_of.result) (codes "\n")
    c.in_ok-put.ensures c.in_ok-put_number.ensures
    ∙ ap (λ n. b0 ++ line_with words n) c.number_of.ensures
    ∙ ap (λ b. b0 ++ (if b then line_with words (translation_number c.args.translation) else []))
    c.if-not-is_run.ensures) c.put-2.ensures
