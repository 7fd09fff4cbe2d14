use Rattle.std.proofs.Common.{◌+◌, refl}
use Rattle.ol_io.proofs.Readings.{AreOfSince-parts}
use Rattle.ol_cli.specs.Cases.{by_first}
use Rattle.ol_cli.proofs.BothFiles.{second_cause}
use Rattle.ol_cli.proofs.FirstAlone.{read_first}
use Rattle.ol_cli.proofs.Frame.{reads_then}
use Rattle.ol_cli.proofs.TwoFiles.{equal_comes}
use Rattle.ol_cli.proofs.commands.equal.answer_equal.Goals as goal

pub returns-in-Refused-clause-comes : goal.returns-in-Refused-clause-comes
returns-in-Refused-clause-comes g c = λ files of.
    let r = rw c.in-Refused.is at (c.in_ok-side.ensures.comes files of) in
    equal_comes c.args.numbers c.args.first.now c.args.second.now _ c.in-Refused.answer (by_first r.0 r.1) r.2

pub returns-in_ok-answer-in-Read-clause-comes : goal.returns-in_ok-answer-in-Read-clause-comes
returns-in_ok-answer-in-Read-clause-comes g c = λ files of.
    let both = AreOfSince-parts files (g.S.Source.contents c.read_side.new.src)
    c.in_ok-side.ensures.one.0 (g.S.Source.readings c.args.src.now)
    (g.S.Source.readings c.read_side.new.src)
    (g.S.Source.readings c.answer_second.new.src) c.in_ok-side.ensures.one.1 c.answer_second.ensures.source.told of in
    let r = rw c.in-Read.is at (c.in_ok-side.ensures.comes files both.0) in
    let a = c.in_ok-answer-in-Read.answer in
    equal_comes c.args.numbers c.args.first.now c.args.second.now _ a
    (second_cause c.args.numbers c.args.first.now c.args.second.now r.1.0 c.in-Read.names c.in-Read.tree
    (g.S.Source.faults c.args.src.now) (g.S.Source.faults c.read_side.new.src)
    (g.S.Source.faults c.answer_second.new.src) (g.S.Source.given c.answer_second.new.src)
    files (λ n. files (n + 1)) (g.S.Source.ended c.answer_second.new.src) a.status a.text.items
    r.0 refl r.1.1.whole r.1.2 (c.in_ok-answer-in-Read.ensures.caused
    (λ n. files (n + 1)) both.1)) c.in_ok-answer-in-Read.ensures.closed

pub returns-in_ok-answer-in-Read-clause-first_alone : goal.returns-in_ok-answer-in-Read-clause-first_alone
returns-in_ok-answer-in-Read-clause-first_alone g c = λ files of refused.
    let both = AreOfSince-parts files (g.S.Source.contents c.read_side.new.src)
    c.in_ok-side.ensures.one.0 (g.S.Source.readings c.args.src.now)
    (g.S.Source.readings c.read_side.new.src)
    (g.S.Source.readings c.answer_second.new.src) c.in_ok-side.ensures.one.1 c.answer_second.ensures.source.told of in
    let r = rw c.in-Read.is at (c.in_ok-side.ensures.comes files both.0) in
    absurd (read_first c.args.numbers c.args.first.now c.args.second.now
    (files 0) r.1.0 c.in-Read.names c.in-Read.tree r.1.1.whole r.1.2 refused)

pub returns-in_err-answer-in-Read-clause-first_alone : goal.returns-in_err-answer-in-Read-clause-first_alone
returns-in_err-answer-in-Read-clause-first_alone g c = λ files of refused.
    let both = AreOfSince-parts files (g.S.Source.contents c.read_side.new.src)
    c.in_ok-side.ensures.one.0 (g.S.Source.readings c.args.src.now)
    (g.S.Source.readings c.read_side.new.src)
    (g.S.Source.readings c.answer_second.new.src) c.in_ok-side.ensures.one.1 c.answer_second.ensures.source.told of in
    let r = rw c.in-Read.is at (c.in_ok-side.ensures.comes files both.0) in
    absurd (read_first c.args.numbers c.args.first.now c.args.second.now
    (files 0) r.1.0 c.in-Read.names c.in-Read.tree r.1.1.whole r.1.2 refused)

pub answer_second-requires-clause-named : goal.answer_second-requires-clause-named
answer_second-requires-clause-named g c = λ κs alive.
    let r = rw c.in-Read.is at (c.in_ok-side.ensures.comes
    (λ _. g.S.Source.contents c.args.src.now) c.in_ok-side.ensures.source.told) in
    r.2

pub returns-in_err-answer-in-Read-clause-source : goal.returns-in_err-answer-in-Read-clause-source
returns-in_err-answer-in-Read-clause-source g c = reads_then g.S.Source 1 1 c.args.src.now c.read_side.new.src
    c.answer_second.new.src c.in_ok-side.ensures.source c.answer_second.ensures.source

pub returns-in_ok-answer-in-Read-clause-source : goal.returns-in_ok-answer-in-Read-clause-source
returns-in_ok-answer-in-Read-clause-source g c = reads_then g.S.Source 1 1 c.args.src.now c.read_side.new.src
    c.answer_second.new.src c.in_ok-side.ensures.source c.answer_second.ensures.source
