use Rattle.ol_explain.proofs.Cuts.{first_cut}
use Rattle.ol_explain.proofs.wanting.fault_of_names.Goals as goal

pub returns-in_default : goal.returns-in_default
returns-in_default c form at a = first_cut form c.args.text.now at c.args.start a c.requires c.in_default.ensures.none

pub returns : goal.returns
returns c form at a = c.fault_of_second.ensures form at a c.in-Some.ensures.some.0 c.in-Some.ensures.some.1
