use Rattle.ol_law_levels.proofs.Stuck.{no_walk_crosses, stuck_pairs_stop}
use Rattle.ol_law_levels.proofs.no_walk_crosses_a_stuck_pair.Goals as goal

pub returns-clause-crosses : goal.returns-clause-crosses
returns-clause-crosses t c = λ N L f g s m n b a d x y. no_walk_crosses N L f g s m n b a d x y

pub returns-clause-stops : goal.returns-clause-stops
returns-clause-stops t c = λ N is_net L f g s p a n d w. stuck_pairs_stop N is_net L f g s p a n d w
