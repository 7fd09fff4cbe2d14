use Rattle.std.proofs.Common.{sym}
use Rattle.ol_bench.proofs.Judging.{checked_reads, is_check, known_checked, onward_checked, onward_taken, short_checked}
use Rattle.ol_bench.proofs.Judging.{taken_by_another, taken_reads, text_taken}
use Rattle.ol_bench.proofs.top.onward.Goals as goal

pub check_by_pieces-requires-clause-known : goal.check_by_pieces-requires-clause-known
check_by_pieces-requires-clause-known g c =
    c.requires.known c.as_str.result.now
    (known_checked c.args.other.now c.in-Name.name c.as_str.result.now c.in-Name.is c.as_str.ensures.value)

pub check_by_pieces-requires-clause-short : goal.check_by_pieces-requires-clause-short
check_by_pieces-requires-clause-short g c =
    short_checked c.args.command _ _ c.args.bytes.now (is_check c.args.command _ _ (sym c.in-Some.ensures))
    c.requires.short

pub returns-in-None-clause-caused : goal.returns-in-None-clause-caused
returns-in-None-clause-caused g c = λ files of.
    onward_taken c.args.bytes.now c.args.command c.args.other.now files (g.S.Source.faults c.args.src.now)
    (g.S.Source.faults c.onward_whole.new.src) c.onward_whole.result
    (taken_by_another c.args.command c.args.other.now (sym c.in-None.ensures)) (c.onward_whole.ensures.caused files of)

pub returns-in-None-clause-no_further : goal.returns-in-None-clause-no_further
returns-in-None-clause-no_further g c =
    taken_reads c.args.bytes.now c.args.command c.args.other.now (g.S.Source.readings c.args.src.now)
    (g.S.Source.readings c.onward_whole.new.src)
    (taken_by_another c.args.command c.args.other.now (sym c.in-None.ensures))

pub returns-in-Text-clause-caused : goal.returns-in-Text-clause-caused
returns-in-Text-clause-caused g c = λ files of.
    onward_taken c.args.bytes.now c.args.command c.args.other.now files (g.S.Source.faults c.args.src.now)
    (g.S.Source.faults c.onward_whole-in-Text.new.src) c.onward_whole-in-Text.result
    (text_taken c.args.command c.args.other.now _ c.in-Text.is) (c.onward_whole-in-Text.ensures.caused files of)

pub returns-in-Text-clause-no_further : goal.returns-in-Text-clause-no_further
returns-in-Text-clause-no_further g c =
    taken_reads c.args.bytes.now c.args.command c.args.other.now (g.S.Source.readings c.args.src.now)
    (g.S.Source.readings c.onward_whole-in-Text.new.src) (text_taken c.args.command c.args.other.now _ c.in-Text.is)

pub returns-in-Name-clause-caused : goal.returns-in-Name-clause-caused
returns-in-Name-clause-caused g c = λ files of.
    onward_checked c.args.command _ _ c.args.bytes.now c.args.other.now c.in-Name.name c.as_str.result.now files
    (g.S.Source.faults c.args.src.now) (g.S.Source.faults c.check_by_pieces.new.src) c.check_by_pieces.result
    (is_check c.args.command _ _ (sym c.in-Some.ensures)) c.in-Name.is c.as_str.ensures.value
    (c.check_by_pieces.ensures.caused files of)

pub returns-in-Name-clause-no_further : goal.returns-in-Name-clause-no_further
returns-in-Name-clause-no_further g c =
    checked_reads c.args.command _ _ c.args.bytes.now c.args.other.now c.in-Name.name
    (g.S.Source.readings c.args.src.now) (g.S.Source.readings c.check_by_pieces.new.src)
    (is_check c.args.command _ _ (sym c.in-Some.ensures)) c.in-Name.is c.check_by_pieces.ensures.no_further
