-- The law of a redex and its cut.
use Rattle.ol_law_meaning.proofs.opening.Goals as goal
use Rattle.ol_law_meaning.proofs.Redexes.{opens_there, opens_back, closes, closes_back}

pub returns-clause-opens : goal.returns-clause-opens
returns-clause-opens g = λ τ N M s s' c n h. (
  λ e. (let r = opens_there τ N M e h in (r.spot, r.rel, r.weight, r.few, r.trail)),
  λ e. (let r = opens_back τ N M e h in (r.spot, r.rel, r.weight, r.few, r.trail)),
)

pub returns-clause-closes : goal.returns-clause-closes
returns-clause-closes g = λ τ N M s c c' n h. (
  λ e. (let r = closes τ N M e h in (r.spot, r.rel, r.weight, r.trail)),
  λ e. (let r = closes_back τ N M e h in (r.spot, r.rel, r.weight, r.trail)),
)
