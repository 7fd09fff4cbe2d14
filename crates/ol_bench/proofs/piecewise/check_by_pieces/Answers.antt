use Rattle.std.proofs.Common.{ap, ◌∙◌, false, [], inl, refl, subst, IfOk}
use Rattle.ol_io.specs.Readings.{closed, gave, reading}
use Rattle.ol_io.proofs.Readings.{AreOf-one, AreOf-only, closed-begun, front-nothing}
use Rattle.ol_bench.specs.Traces.{ComesOfTrace}
use Rattle.ol_bench.proofs.Judging.{both_ok, cause_unbegun}
use Rattle.ol_bench.proofs.piecewise.check_by_pieces.Goals as goal

pub returns-in-Failed-clause-caused : goal.returns-in-Failed-clause-caused
returns-in-Failed-clause-caused g c = λ files of.
    both_ok c.refusal.result _ _ _ c.refusal.ensures.text c.refusal.ensures.refused (λ a line end.
    cause_unbegun c.args.layout c.args.bytes.now c.args.subject (files 0 c.args.name.now)
    (g.S.Source.faults c.args.src.now) (g.S.Source.faults c.begin.new.self) a.text.items a.end
    c.in-Failed.ensures.cause line end)

pub returns-in-Failed-clause-no_further : goal.returns-in-Failed-clause-no_further
returns-in-Failed-clause-no_further g c =
    (reading c.args.name.now [] false, c.in-Failed.ensures.readings, inl refl)

pub returns-in-Failed-clause-told : goal.returns-in-Failed-clause-told
returns-in-Failed-clause-told g c =
    AreOf-one (λ _. g.S.Source.contents c.args.src.now) (g.S.Source.readings c.args.src.now)
    (g.S.Source.readings c.begin.new.self) c.args.name.now [] false c.in-Failed.ensures.readings
    (front-nothing (g.S.Source.contents c.args.src.now c.args.name.now))

pub returns-in-Ready-clause-caused : goal.returns-in-Ready-clause-caused
returns-in-Ready-clause-caused g c = λ files of.
    let h = c.answer_on.ensures in
    let ended = g.S.Source.ended c.answer_on.new.src in
    let old = g.S.Source.readings c.args.src.now in
    let grown = h.grown ∙ ap (λ rs. closed ended (gave h.front rs)) c.in-Ready.ensures.readings
    ∙ closed-begun ended c.args.name.now h.front old in
    subst (λ faults. IfOk c.answer_on.result (λ a. ComesOfTrace c.args.layout c.args.subject c.args.bytes.now
    (files 0 c.args.name.now) faults (g.S.Source.faults c.answer_on.new.src) a.text.items a.end))
    c.in-Ready.ensures.cause (h.caused (files 0 c.args.name.now)
    (AreOf-only files old (g.S.Source.readings c.answer_on.new.src) c.args.name.now h.front ended grown of))

pub returns-in-Ready-clause-told : goal.returns-in-Ready-clause-told
returns-in-Ready-clause-told g c =
    let h = c.answer_on.ensures in
    let ended = g.S.Source.ended c.answer_on.new.src in
    let old = g.S.Source.readings c.args.src.now in
    let grown = h.grown ∙ ap (λ rs. closed ended (gave h.front rs)) c.in-Ready.ensures.readings
    ∙ closed-begun ended c.args.name.now h.front old in
    AreOf-one (λ _. g.S.Source.contents c.args.src.now) old
    (g.S.Source.readings c.answer_on.new.src) c.args.name.now h.front ended grown
    (rw c.in-Ready.ensures.bytes at h.told)

pub returns-in-Ready-clause-no_further : goal.returns-in-Ready-clause-no_further
returns-in-Ready-clause-no_further g c =
    let h = c.answer_on.ensures in
    let ended = g.S.Source.ended c.answer_on.new.src in
    let grown = h.grown ∙ ap (λ rs. closed ended (gave h.front rs)) c.in-Ready.ensures.readings
    ∙ closed-begun ended c.args.name.now h.front (g.S.Source.readings c.args.src.now) in
    (reading c.args.name.now h.front ended, grown, h.no_further)
