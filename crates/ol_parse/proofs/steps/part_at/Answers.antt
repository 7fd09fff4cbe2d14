use Rattle.std.proofs.Common.{arith}
use Rattle.ol_parse.proofs.Begun.{is_name, is_abstraction, is_application, is_application_below}
use Rattle.ol_parse.proofs.steps.part_at.Goals as goal

pub overflow_sub-result-in-Apply-2 : goal.overflow_sub-result-in-Apply-2
overflow_sub-result-in-Apply-2 c =
    let r = is_application c.args.steps.now c.args.starts.now c.requires.starts c.args.at c.requires.at _
    c.in-Apply.is in
    omega (arith, r.0)

pub overflow_sub-result-in-ApplyBelow-3 : goal.overflow_sub-result-in-ApplyBelow-3
overflow_sub-result-in-ApplyBelow-3 c =
    let r = is_application_below c.args.steps.now c.args.starts.now c.requires.starts c.args.at c.requires.at _
    c.in-ApplyBelow.is in
    omega (arith, r.0)

pub returns-in-Push-clause-shown : goal.returns-in-Push-clause-shown
returns-in-Push-clause-shown c = is_name c.args.steps.now c.args.starts.now c.requires.starts c.args.at
    c.requires.at _ c.in-Push.x c.in-Push.is

pub returns-in-Abstract-clause-shown : goal.returns-in-Abstract-clause-shown
returns-in-Abstract-clause-shown c = (is_abstraction c.args.steps.now c.args.starts.now c.requires.starts c.args.at
    c.requires.at _ c.in-Abstract.x c.in-Abstract.is).1

pub returns-in-Apply-clause-shown : goal.returns-in-Apply-clause-shown
returns-in-Apply-clause-shown c = (is_application c.args.steps.now c.args.starts.now c.requires.starts c.args.at
    c.requires.at _ c.in-Apply.is).2

pub returns-in-ApplyBelow-clause-shown : goal.returns-in-ApplyBelow-clause-shown
returns-in-ApplyBelow-clause-shown c = (is_application_below c.args.steps.now c.args.starts.now c.requires.starts
    c.args.at c.requires.at _ c.in-ApplyBelow.is).2
