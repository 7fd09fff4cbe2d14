use Rattle.ol_explain.proofs.Cuts.{all_there, second_cut}
use Rattle.ol_explain.proofs.wanting.fault_of_second.Goals as goal

pub returns-in-Some : goal.returns-in-Some
returns-in-Some c form at a may e =
    let s = c.in-Some.ensures.some in
    all_there form c.args.text.now at c.args.start a c.requires.start c.args.first c.args.to may c.requires.to e
    c.in-Some.field-0.0 c.in-Some.field-0.1 s.0 s.1

pub returns-in-None : goal.returns-in-None
returns-in-None c form at a may e =
    second_cut form c.args.text.now at c.args.start a c.requires.start c.args.first c.args.to may c.requires.to e
    c.in-None.ensures.none
