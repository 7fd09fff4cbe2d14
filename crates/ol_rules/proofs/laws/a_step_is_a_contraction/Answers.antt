use Rattle.ol_rules.proofs.Built.{net_of}
use Rattle.ol_rules.proofs.Recount.{recount}
use Rattle.ol_rules.proofs.Relation.{contraction}
use Rattle.ol_rules.proofs.laws.a_step_is_a_contraction.Goals as goal

pub returns-clause-links : goal.returns-clause-links
returns-clause-links t c = λ same test born N M f g r counted fresh s.
    contraction same test born N f g s.active.k s.active.i s.active.l s.active.j r
    (net_of same test N counted) s.active.faces fresh s.active.fits counted M s.rewrites

pub returns-clause-listed : goal.returns-clause-listed
returns-clause-listed t c = λ same test N is_net. recount same test N is_net
