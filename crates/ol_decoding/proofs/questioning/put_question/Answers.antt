use Rattle.std.proofs.Common.{◌≡◌, List, ℕ, [], ◌∷◌, ◌++◌, map, ap, ◌∙◌}
use Rattle.ol_net.specs.Numbered.{net_of}
use Rattle.ol_context.specs.Shapes.{value, context_of}
use Rattle.ol_decoding.proofs.Chosen.{held_question, question_is, question_put}
use Rattle.ol_decoding.proofs.questioning.put_question.Goals as goal

pub put_context-requires : goal.put_context-requires
put_context-requires c = held_question c.args.values.now c.args.frame.now.levels c.of-context.result c.args.mark
    c.requires.held c.requires.mark.held
    (c.of-context.ensures ∙ c.in_ok-push.ensures.items ∙ ap (λ (l : List ℕ). l ++ c.args.mark ∷ []) c.in_ok-levels.ensures)

pub trail-requires-clause-held : goal.trail-requires-clause-held
trail-requires-clause-held c = held_question c.args.values.now c.args.frame.now.levels c.of-context.result c.args.mark
    c.requires.held c.requires.mark.held
    (c.of-context.ensures ∙ c.in_ok-push.ensures.items ∙ ap (λ (l : List ℕ). l ++ c.args.mark ∷ []) c.in_ok-levels.ensures)

pub returns-clause-question : goal.returns-clause-question
returns-clause-question c =
    question_put (net_of c.args.net.now) c.args.frame.now.port (map (value c.args.values.now) c.args.frame.now.levels)
    c.args.n c.args.lines (context_of c.args.values.now c.of-context.result) c.args.text.now.items c.put.new.text.items
    c.put_number.new.text.items c.put-2.new.text.items c.put_shown.new.text.items c.put-3.new.text.items
    c.put_context.new.text.items c.put-4.new.text.items c.trail.new.text.items _ _
    (question_is c.args.values.now c.args.frame.now.levels c.of-context.result c.args.n c.args.mark
    (c.of-context.ensures ∙ c.in_ok-push.ensures.items ∙ ap (λ (l : List ℕ). l ++ c.args.mark ∷ []) c.in_ok-levels.ensures)
    c.requires.mark.is) c.in_ok-put.ensures c.in_ok-put_number.ensures c.in_ok-put-2.ensures c.in_ok-put_shown.ensures
    c.in_ok-put-3.ensures c.in_ok-put_context.ensures c.in_ok-put-4.ensures c.in_ok-ended.ensures.trail
