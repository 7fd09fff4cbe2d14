use Rattle.std.proofs.Common.{◌≡◌, List, ℕ, ◌++◌, ◌==◌, ap, ◌∙◌}
use Rattle.std.specs.Prelude.{count_by, codes}
use Rattle.std.specs.Fmt.{decimal}
use Rattle.ol_view.specs.LineReading.{is_digit}
use Rattle.ol_explain.specs.Afters.{line_with}
use Rattle.ol_explain.specs.Wanted.{choices}
use Rattle.ol_explain.proofs.Cuts.{broken_by, told}
use Rattle.ol_explain.proofs.wanting.cut.Goals as goal

pub returns-clause-text : goal.returns-clause-text
returns-clause-text c form at k =
    let b = c.beginning-to.ensures in
    let bytes = c.in_ok-bytes.bytes.items in
    let to = c.beginning-to.result in
    let words : List ℕ = choices (count_by is_digit bytes == 10) (codes " ") bytes in
    let put : c.put_choices.new.text.items ≡ c.in_ok-text.text.items ++ words =
    c.in_ok-put_choices.ensures ∙ ap (λ bs. c.in_ok-text.text.items ++ choices (count_by is_digit bs == 10) (codes " ") bs)
    c.deref.ensures.value in
    broken_by form c.args.text.now at c.args.field c.args.end c.args.start k to b.from b.within b.begins b.ends
    bytes c.in_ok-bytes.ensures c.args.line c.put.new.text.items
    (told c.in_ok-text.text.items c.put_choices.new.text.items c.put.new.text.items
    (line_with (codes "bad text at line ") c.args.line) (codes "byte ") (decimal to) (codes ": wanted") words (codes "\n")
    c.in_ok-text.ensures put c.in_ok-put.ensures)
