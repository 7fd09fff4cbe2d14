use Rattle.ol_diamond.proofs.wave_laws.waves_agree.Goals as goal
use Rattle.ol_diamond.proofs.Weighted as laws
use Rattle.ol_diamond.proofs.WeightedJournals as journals

pub returns-clause-waves : goal.returns-clause-waves
returns-clause-waves c = laws.waves_agree

pub returns-clause-each : goal.returns-clause-each
returns-clause-each c = laws.each_pair_has_its_wave

pub returns-clause-one : goal.returns-clause-one
returns-clause-one c = laws.run_has_one_waves

pub returns-clause-journals : goal.returns-clause-journals
returns-clause-journals c = journals.journal_waves_agree

pub returns-clause-journal : goal.returns-clause-journal
returns-clause-journal c = journals.journal_has_one_waves
