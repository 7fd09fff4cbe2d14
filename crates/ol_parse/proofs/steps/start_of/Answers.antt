use Rattle.std.proofs.Common.{arith}
use Rattle.ol_parse.proofs.Begun.{begins_name, begins_abstraction, begins_application}
use Rattle.ol_parse.proofs.steps.start_of.Goals as goal

pub overflow_sub-result-in-Apply-2 : goal.overflow_sub-result-in-Apply-2
overflow_sub-result-in-Apply-2 c =
    let r = begins_application c.args.steps.now c.args.at c.args.starts.now c.requires.before c.requires.at _
    c.requires.some.1 _ c.in-Apply.is in
    omega (arith, r.0)

pub returns-in-Push : goal.returns-in-Push
returns-in-Push c = begins_name c.args.steps.now c.args.at c.args.starts.now c.requires.before c.requires.at _
    c.requires.some.1 _ c.in-Push.field-0 c.in-Push.is

pub returns-in-Abstract : goal.returns-in-Abstract
returns-in-Abstract c = begins_abstraction c.args.steps.now c.args.at c.args.starts.now c.requires.before
    c.requires.at _ c.requires.some.1 _ c.in-Abstract.field-0 c.in-Abstract.is

pub returns-in-Apply : goal.returns-in-Apply
returns-in-Apply c = (begins_application c.args.steps.now c.args.at c.args.starts.now c.requires.before
    c.requires.at _ c.requires.some.1 _ c.in-Apply.is).1
