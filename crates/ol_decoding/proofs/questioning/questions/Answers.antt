use Rattle.ol_net.specs.Numbered.{net_of}
use Rattle.ol_context.proofs.Shapes.{held_more}
use Rattle.ol_decoding.proofs.Chosen.{chosen}
use Rattle.ol_decoding.proofs.questioning.questions.Goals as goal

pub put_question-requires-clause-held : goal.put_question-requires-clause-held
put_question-requires-clause-held c = held_more c.args.values.now c.mark_of.new.values c.args.frame.now.levels
    c.mark_of.ensures.extends c.requires.held

pub returns-in_ok-put_question-in-Some-clause-lines : goal.returns-in_ok-put_question-in-Some-clause-lines
returns-in_ok-put_question-in-Some-clause-lines c =
    chosen (net_of c.args.net.now) c.args.frame.now.port c.args.frame.now.levels c.args.values.now c.mark_of.new.values
    c.requires.held c.mark_of.ensures.extends c.args.question c.in-Some.n c.args.lines c.new-text.result.items
    c.put_question.new.text.items _ _ c.in-Some.is c.new-text.ensures.items c.in_ok-put_question-in-Some.ensures.question
