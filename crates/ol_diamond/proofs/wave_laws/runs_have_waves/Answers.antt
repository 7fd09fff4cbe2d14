use Rattle.ol_diamond.proofs.wave_laws.runs_have_waves.Goals as goal
use Rattle.ol_diamond.proofs.WaveSteps as steps
use Rattle.ol_diamond.proofs.WeightedJournals as laws

pub returns-clause-step : goal.returns-clause-step
returns-clause-step g c = steps.step_has_wave

pub returns-clause-run : goal.returns-clause-run
returns-clause-run g c = laws.run_has_waves

pub returns-clause-journal : goal.returns-clause-journal
returns-clause-journal g c = laws.journal_has_waves
