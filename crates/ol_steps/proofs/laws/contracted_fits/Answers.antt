use Rattle.ol_steps.proofs.Fitting.{contracted_fits}
use Rattle.ol_steps.proofs.laws.contracted_fits.Goals as goal

pub returns : goal.returns
returns c = contracted_fits
