use Rattle.std.proofs.Common.{refl, subst}
use Rattle.std.proofs.lemmas.Result.{err_from_is_err_and}
use Rattle.ol_subjects.specs.Readied.{IsSubjectRead}
use Rattle.ol_bench.proofs.Judging.{answers_found, answers_nothing, answers_refused, answers_unread}
use Rattle.ol_bench.proofs.piecewise.answer_on.Goals as goal

pub returns-in_err-text : goal.returns-in_err-text
returns-in_err-text g c =
    let p = err_from_is_err_and c.from_residual.result c.from_residual.ensures.1 in
    answers_nothing c.args.bytes.now c.args.subject c.args.layout (g.S.Source.left c.args.src.now)
    (g.S.Source.ended c.args.src.now) (g.S.Source.faults c.args.src.now) (g.S.Source.faults c.args.src.now)
    (g.S.Source.readings c.args.src.now) c.from_residual.result c.requires.ended (λ file r. rw p.1 tt)

pub returns-in-Refused : goal.returns-in-Refused
returns-in-Refused g c =
    let r = subst (IsSubjectRead c.args.subject c.args.bytes.now) c.in-Refused.is c.in_ok-text.ensures in
    answers_refused c.args.bytes.now c.args.subject c.args.layout (g.S.Source.left c.args.src.now)
    (g.S.Source.ended c.args.src.now) (g.S.Source.faults c.args.src.now) (g.S.Source.faults c.args.src.now)
    (g.S.Source.readings c.args.src.now) c.in-Refused.text.items _ c.requires.ended refl r refl refl

pub returns-in-Err : goal.returns-in-Err
returns-in-Err g c =
    let r = subst (IsSubjectRead c.args.subject c.args.bytes.now) c.in-Net.is c.in_ok-text.ensures in
    answers_unread c.args.bytes.now c.args.subject c.args.layout (g.S.Source.left c.args.src.now)
    (g.S.Source.ended c.found_on.new.src) (g.S.Source.faults c.args.src.now) (g.S.Source.faults c.found_on.new.src)
    _ (g.S.Source.readings c.args.src.now) (g.S.Source.readings c.found_on.new.src) c.refusal.result
    c.in-Err.fault c.in-Err.ensures.judged c.in-Err.ensures.cause r.0 c.refusal.ensures.text
    c.refusal.ensures.refused

pub returns : goal.returns
returns g c =
    let r = subst (IsSubjectRead c.args.subject c.args.bytes.now) c.in-Net.is c.in_ok-text.ensures in
    answers_found c.args.bytes.now c.args.subject c.args.layout (g.S.Source.left c.args.src.now)
    (g.S.Source.ended c.found_on.new.src) (g.S.Source.faults c.args.src.now) (g.S.Source.faults c.found_on.new.src)
    _ (g.S.Source.readings c.args.src.now) (g.S.Source.readings c.found_on.new.src) c.answer_in.result
    c.in-Ok.found c.in-Ok.ensures.judged c.in-Ok.ensures.cause r.0 c.answer_in.ensures.text c.answer_in.ensures.end
