use Rattle.std.proofs.Common.{subst}
use Rattle.ol_term.specs.Trees.{tree_of}
use Rattle.ol_steps.specs.Trees.{binders_in}
use Rattle.ol_steps.specs.Steps.{Tells}
use Rattle.ol_steps.specs.Words.{Glossary}
use Rattle.ol_steps.proofs.Showable.{same_glossary}
use Rattle.ol_steps.proofs.stepping.of_small.Goals as goal

pub returns : goal.returns
returns c =
    let t = tree_of c.args.file.term in
    let s = binders_in c.args.own in
    let found = c.in_ok-lets.ensures in
    subst (λ (g : Glossary). Tells c.args.how g c.args.count c.args.most t s c.in_ok-answer.answer.text.items
    c.in_ok-answer.answer.end)
    (same_glossary c.args.file.names c.args.count t s c.lets_of.new.names c.in_ok-lets.lets found.first found.names found.rows found.own)
    c.in_ok-answer.ensures
