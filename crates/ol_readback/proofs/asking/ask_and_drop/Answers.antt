use Rattle.std.proofs.Common.{sym, subst}
use Rattle.ol_net.specs.Numbered.{net_of}
use Rattle.ol_readback.specs.Frames.{frames_of}
use Rattle.ol_readback.specs.Heads.{Answer, IsHeadWithin}
use Rattle.ol_readback.proofs.Dropped.{answer_kept, held_kept, unchanged, extends_kept}
use Rattle.ol_readback.proofs.asking.ask_and_drop.Goals as goal

pub returns-clause-answer : goal.returns-clause-answer
returns-clause-answer g c =
    subst (λ (a : Answer). IsHeadWithin (net_of c.args.net.now)
    (frames_of c.args.values.now c.args.asked.now.frames.now.items) c.args.asked.now.at c.args.edges a)
    (sym (answer_kept c.count-count.result c.ask_by_walk.new.values c.drop_unused.new.values
    c.in_ok-answer.answer c.drop_unused.ensures)) c.in_ok-answer.ensures.answer

pub returns-clause-held : goal.returns-clause-held
returns-clause-held g c = held_kept c.count-count.result c.ask_by_walk.new.values
    c.drop_unused.new.values c.in_ok-answer.answer c.drop_unused.ensures c.in_ok-answer.ensures.held

pub returns-clause-unchanged : goal.returns-clause-unchanged
returns-clause-unchanged g c = unchanged c.args.values.now c.ask_by_walk.new.values
    c.drop_unused.new.values c.count-count.result c.count-count.ensures.is
    c.ask_by_walk.ensures.extends c.in_ok-answer.answer c.drop_unused.ensures

pub returns-clause-extends : goal.returns-clause-extends
returns-clause-extends g c = extends_kept c.args.values.now c.ask_by_walk.new.values
    c.drop_unused.new.values c.count-count.result c.count-count.ensures.is
    c.ask_by_walk.ensures.extends c.in_ok-answer.answer c.drop_unused.ensures
