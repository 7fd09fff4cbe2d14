-- The words for a node in the place of another are put piece by piece.
use Rattle.std.proofs.Common.{◌≡◌, ◌+◌, ◌++◌, OnOk, subst}
use Rattle.std.specs.Prelude.{string_bytes, codes}
use Rattle.std.specs.Fmt.{decimal}
use Rattle.ol_rules.specs.declared.journal.NodeName.TheVariants.{Born}
use Rattle.ol_view.specs.TraceTexts.{name_text}
use Rattle.ol_explain.proofs.Pieces.{four}
use Rattle.ol_explain.proofs.causes.put_copy.Goals as goal

pub returns : goal.returns
returns c =
    let end = c.put-2 in
    subst (λ words. OnOk end.result (string_bytes end.new.text ≡ words))
    (four (string_bytes c.args.text.now) (string_bytes c.put_name.new.text) (string_bytes c.put.new.text)
    (string_bytes c.put_long.new.text) (name_text (Born c.args.ticket c.args.place)) (codes ": line ")
    (decimal (c.args.ticket + 2))
    (codes " numbers its nodes otherwise, links are crossed, or the first net differs; see bisect")
    c.in_ok-put_name.ensures c.in_ok-put.ensures c.in_ok-put_long.ensures)
    end.ensures
