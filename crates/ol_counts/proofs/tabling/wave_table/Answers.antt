use Rattle.std.proofs.Common.{subst}
use Rattle.ol_subjects.specs.Readied.{IsSubjectRead}
use Rattle.ol_counts.specs.WaveAnswers.{refused, answered}
use Rattle.ol_counts.proofs.tabling.wave_table.Goals as goal

pub returns-in-Refused : goal.returns-in-Refused
returns-in-Refused c = refused (subst
    (IsSubjectRead c.args.subject c.args.bytes.now) c.in-Refused.is c.in_ok-text.ensures)

pub returns-in_ok-answer-in-Net : goal.returns-in_ok-answer-in-Net
returns-in_ok-answer-in-Net c =
    let r = subst (IsSubjectRead c.args.subject c.args.bytes.now) c.in-Net.is c.in_ok-text.ensures in
    answered r.0 c.in_ok-answer-in-Net.ensures
