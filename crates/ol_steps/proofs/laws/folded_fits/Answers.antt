use Rattle.ol_steps.proofs.ValuesPutIn.{folded_fits}
use Rattle.ol_steps.proofs.laws.folded_fits.Goals as goal

pub returns : goal.returns
returns c = folded_fits
