use Rattle.ol_steps.proofs.Fitting.{source_fits}
use Rattle.ol_steps.proofs.laws.source_fits.Goals as goal

pub returns : goal.returns
returns c = source_fits
