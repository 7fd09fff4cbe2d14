use Rattle.ol_explain.proofs.Weighs.{shown_by}
use Rattle.ol_explain.proofs.pausing.shown.Goals as goal

pub returns-clause-text : goal.returns-clause-text
returns-clause-text c =
    shown_by c.args.weights c.args.net.now c.is_net.ensures.net c.args.replay.now c.requires.replay
    c.in_ok-beside.beside c.in_ok-beside.ensures c.in_ok-text.text.items c.in_ok-text.ensures
