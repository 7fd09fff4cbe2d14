use Rattle.std.proofs.Common.{ap, ◌∙◌, false, []}
use Rattle.ol_io.specs.Readings.{closed, gave}
use Rattle.ol_io.proofs.Readings.{AreOf-one, AreOf-only, closed-begun, front-nothing, IsLonger-read, whole_read}
use Rattle.ol_io.proofs.calls.read_all.Goals as goal

pub returns-in-Ready-clause-told : goal.returns-in-Ready-clause-told
returns-in-Ready-clause-told g c =
    let h = c.read_on.ensures.hands in
    let ended = g.S.Source.ended c.read_on.new.src in
    let old = g.S.Source.readings c.args.src.now in
    let grown = h.grown ∙ ap (λ rs. closed ended (gave h.bytes rs)) c.in-Ready.ensures.readings
    ∙ closed-begun ended c.args.name.now h.bytes old in
    AreOf-one (λ _. g.S.Source.contents c.args.src.now) old
    (g.S.Source.readings c.read_on.new.src) c.args.name.now h.bytes ended grown
    (rw c.in-Ready.ensures.bytes at h.told)

pub returns-in-Ready-clause-whole_of : goal.returns-in-Ready-clause-whole_of
returns-in-Ready-clause-whole_of g c = λ files of.
    let h = c.read_on.ensures.hands in
    let ended = g.S.Source.ended c.read_on.new.src in
    let old = g.S.Source.readings c.args.src.now in
    let grown = h.grown ∙ ap (λ rs. closed ended (gave h.bytes rs)) c.in-Ready.ensures.readings
    ∙ closed-begun ended c.args.name.now h.bytes old in
    whole_read c.read_on.result (files 0 c.args.name.now) ended h.bytes h.answered c.read_on.ensures.ended
    (AreOf-only files old (g.S.Source.readings c.read_on.new.src) c.args.name.now h.bytes ended grown of)

pub returns-in-Ready-clause-longer_of : goal.returns-in-Ready-clause-longer_of
returns-in-Ready-clause-longer_of g c = λ files of past.
    let h = c.read_on.ensures.hands in
    let ended = g.S.Source.ended c.read_on.new.src in
    let old = g.S.Source.readings c.args.src.now in
    let grown = h.grown ∙ ap (λ rs. closed ended (gave h.bytes rs)) c.in-Ready.ensures.readings
    ∙ closed-begun ended c.args.name.now h.bytes old in
    IsLonger-read (files 0 c.args.name.now) ended h.bytes c.args.most
    (g.S.Source.given c.read_on.new.src) h.counted past
    (AreOf-only files old (g.S.Source.readings c.read_on.new.src) c.args.name.now h.bytes ended grown of)

pub returns-in-Failed-clause-told : goal.returns-in-Failed-clause-told
returns-in-Failed-clause-told g c =
    AreOf-one (λ _. g.S.Source.contents c.args.src.now) (g.S.Source.readings c.args.src.now)
    (g.S.Source.readings c.begin.new.self) c.args.name.now [] false c.in-Failed.ensures.readings
    (front-nothing (g.S.Source.contents c.args.src.now c.args.name.now))
