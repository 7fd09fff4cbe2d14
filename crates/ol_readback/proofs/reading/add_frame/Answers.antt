use Rattle.ol_readback.proofs.Skips.{have_skip}
use Rattle.ol_readback.proofs.reading.add_frame.Goals as goal

pub returns-clause-skips : goal.returns-clause-skips
returns-clause-skips c =
    have_skip c.args.frames.now.items c.args.frame c.args.skips.now.items c.push.new.self.items
    c.skip_from-skip.result c.requires.parents c.requires.parent c.requires.each
    c.requires.skips c.skip_from-skip.ensures c.in_ok-push.ensures.items
