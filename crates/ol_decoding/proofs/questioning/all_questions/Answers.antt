use Rattle.std.proofs.Common.{arith}
use Rattle.ol_net.specs.Numbered.{net_of}
use Rattle.ol_decoding.proofs.Chosen.{is_answered, is_lost, questions_on}
use Rattle.ol_decoding.proofs.questioning.all_questions.Goals as goal

pub returns-in_default-clause-lines : goal.returns-in_default-clause-lines
returns-in_default-clause-lines c = is_answered (net_of c.args.net.now) c.args.frame.now.port c.args.frame.now.levels
    c.args.lines c.args.values.now c.requires.held c.questions.values c.questions.n c.questions.mark c.questions.left
    c.questions.text.items c.questions.invariant c.put_question.new.text.items c.in_ok-ending.ending c.in_ok-ending.last
    c.in_ok-ending.ensures.question c.in_default.not-Barred

pub returns-then-n-nodes-clause-lines : goal.returns-then-n-nodes-clause-lines
returns-then-n-nodes-clause-lines c = is_lost (net_of c.args.net.now) c.args.frame.now.port c.args.frame.now.levels
    c.args.lines c.args.values.now c.requires.held c.questions.values c.questions.n c.questions.mark c.questions.left
    c.questions.text.items c.questions.invariant c.put_question.new.text.items c.in_ok-ending.ending c.in_ok-ending.last
    c.in_ok-ending.ensures.question c.in-Barred.is (omega (arith, c.if-n-nodes.true, c.nodes.ensures.nodes))

pub questions-preserved : goal.questions-preserved
questions-preserved c = questions_on (net_of c.args.net.now) c.args.frame.now.port c.args.frame.now.levels
    c.args.lines c.args.values.now c.requires.held c.questions.values c.questions.n c.questions.mark c.questions.left
    c.questions.text.items c.questions.invariant c.put_question.new.text.items c.in_ok-ending.ending c.in_ok-ending.last
    c.in_ok-ending.ensures.question c.in-Barred.is (omega (arith, c.if-n-nodes.false, c.nodes.ensures.nodes))
    c.put_question.new.values c.put_o.new.self c.put_question.ensures.extends c.put_o.ensures.extends c.in_ok-mark.mark
    c.in_ok-mark.ensures.new
