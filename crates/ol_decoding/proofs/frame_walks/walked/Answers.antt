use Rattle.ol_decoding.specs.WalkAnswers.{here}
use Rattle.ol_decoding.proofs.frame_walks.walked.Goals as goal

pub returns : goal.returns
returns c = let s = c.in_ok-text.ensures in here s.1 s.2
