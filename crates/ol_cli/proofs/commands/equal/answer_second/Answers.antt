use Rattle.std.proofs.Common.{refl, ap, ◌∙◌}
use Rattle.ol_cli.specs.Texts.{line}
use Rattle.ol_cli.specs.Sides.{compared, refused}
use Rattle.ol_cli.proofs.commands.equal.answer_second.Goals as goal

pub returns-in_ok-text-in-Read-clause-caused : goal.returns-in_ok-text-in-Read-clause-caused
returns-in_ok-text-in-Read-clause-caused g c = λ files of.
    let r = rw c.in-Read.is at (c.in_ok-side.ensures.comes files of) in
    let text = c.in_ok-text-in-Read.ensures ∙ ap line (c.deref.ensures.value ∙ c.in_ok-told-in-Read.ensures.words) in
    rw c.text_alone.ensures (compared r.0 r.1.1 r.1.2 c.in_ok-compared-in-Read.compared
    c.in_ok-compared-in-Read.ensures refl text)

pub same_tree-requires-clause-b_named : goal.same_tree-requires-clause-b_named
same_tree-requires-clause-b_named g c =
    let r = rw c.in-Read.is at (c.in_ok-side.ensures.comes
    (λ _. g.S.Source.contents c.args.src.now) c.in_ok-side.ensures.source.told) in
    r.2

pub returns-in-Refused-clause-caused : goal.returns-in-Refused-clause-caused
returns-in-Refused-clause-caused g c = λ files of.
    let r = rw c.in-Refused.is at (c.in_ok-side.ensures.comes files of) in
    refused r.0 r.1

pub returns-in-Refused-clause-closed : goal.returns-in-Refused-clause-closed
returns-in-Refused-clause-closed g c =
    let r = rw c.in-Refused.is at (c.in_ok-side.ensures.comes
    (λ _. g.S.Source.contents c.args.src.now) c.in_ok-side.ensures.source.told) in
    r.2
