use Rattle.ol_rules.proofs.Relation.{next, net_kept}
use Rattle.ol_rules.proofs.laws.a_step_is_a_net.Goals as goal

pub returns-clause-kept : goal.returns-clause-kept
returns-clause-kept t c = λ same test born N M f g r n fresh step.
    net_kept same test born N f g step.active.k step.active.i step.active.l step.active.j r n
    step.active.faces fresh step.active.fits M step.rewrites

pub returns-clause-some : goal.returns-clause-some
returns-clause-some t c = λ same test born N f g r n fresh active.
    let after = next same test born N f g active.k active.i active.l active.j r n active.faces fresh active.fits in
    (after.0, record { active = active; rewrites = after.1.rewrites })
