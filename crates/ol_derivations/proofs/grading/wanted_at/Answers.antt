use Rattle.ol_derivations.proofs.InputByInput.{item_here}
use Rattle.ol_derivations.proofs.grading.wanted_at.Goals as goal

pub returns : goal.returns
returns c = item_here c.args.wanted.now.items c.args.k c.index.result.now c.requires c.index.ensures
