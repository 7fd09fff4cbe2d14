-- The journal file is read after the term file, so what comes of both is what comes of the second after the first.
use Rattle.std.proofs.Common.{◌+◌}
use Rattle.ol_term.specs.Trees.{tree_of}
use Rattle.ol_words.specs.declared.jobs.Job.TheVariants as jobs
use Rattle.ol_cli.specs.Answers.{Seen}
use Rattle.ol_cli.specs.Cases.{by_journal, seen}
use Rattle.ol_cli.specs.Check.{JournalAnswer}
use Rattle.ol_io.proofs.Readings.{AreOfSince-parts}
use Rattle.ol_cli.proofs.Exact.{after_term}
use Rattle.ol_cli.proofs.FirstAlone.{term_first}
use Rattle.ol_cli.proofs.Frame.{reads_then}
use Rattle.ol_cli.proofs.TermJobs.{refused_comes}
use Rattle.ol_cli.proofs.TwoFiles.{check_comes}
use Rattle.ol_cli.proofs.commands.check.answer_check.Goals as goal

pub returns-in-Refused-clause-comes : goal.returns-in-Refused-clause-comes
returns-in-Refused-clause-comes g c = λ files of.
    refused_comes (jobs.Check c.args.translation c.args.term.now c.args.journal.now) tt _
    c.in-Refused.answer (rw c.in-Refused.is at (c.in_ok-ready.ensures.comes files of))

pub returns-clause-comes : goal.returns-clause-comes
returns-clause-comes g c = λ files of.
    let s : Seen = seen (g.S.Source.faults c.args.src.now)
    (g.S.Source.faults c.answer_journal.new.src) files
    (g.S.Source.given c.answer_journal.new.src) (g.S.Source.ended c.answer_journal.new.src) in
    let a = c.in_ok-answer-in-Net.answer in
    let t = tree_of c.in-Net.file.term in
    let names = c.in-Net.file.names in
    let both = AreOfSince-parts files (g.S.Source.contents c.read_term.new.src)
    c.in_ok-ready.ensures.one.0 (g.S.Source.readings c.args.src.now)
    (g.S.Source.readings c.read_term.new.src)
    (g.S.Source.readings c.answer_journal.new.src) c.in_ok-ready.ensures.one.1 c.answer_journal.ensures.source.told of in
    let r = rw c.in-Net.is at (c.in_ok-ready.ensures.comes files both.0) in
    let ended = after_term s.faults (g.S.Source.faults c.read_term.new.src) s.faults' s.given
    (λ n. files (n + 1)) s.ended _ _ c.args.journal.now
    (JournalAnswer c.args.translation t names) a.status a.text.items
    r.0 (c.in_ok-answer-in-Net.ensures.caused (λ n. files (n + 1)) both.1 c.args.translation t names r.1.2.ready) in
    check_comes c.args.translation c.args.term.now c.args.journal.now s a
    (by_journal r.1.1.whole r.1.2.term ended) c.in_ok-answer-in-Net.ensures.closed

pub returns-clause-first_alone : goal.returns-clause-first_alone
returns-clause-first_alone g c = λ files of refused.
    let both = AreOfSince-parts files (g.S.Source.contents c.read_term.new.src)
    c.in_ok-ready.ensures.one.0 (g.S.Source.readings c.args.src.now)
    (g.S.Source.readings c.read_term.new.src)
    (g.S.Source.readings c.answer_journal.new.src) c.in_ok-ready.ensures.one.1 c.answer_journal.ensures.source.told of in
    let r = rw c.in-Net.is at (c.in_ok-ready.ensures.comes files both.0) in
    absurd (term_first c.args.translation c.args.term.now c.args.journal.now (files 0) r.1.0
    (tree_of c.in-Net.file.term) c.in-Net.file.names r.1.1.whole r.1.2.term refused)

pub returns-in_err-answer-in-Net-clause-first_alone : goal.returns-in_err-answer-in-Net-clause-first_alone
returns-in_err-answer-in-Net-clause-first_alone g c = λ files of refused.
    let both = AreOfSince-parts files (g.S.Source.contents c.read_term.new.src)
    c.in_ok-ready.ensures.one.0 (g.S.Source.readings c.args.src.now)
    (g.S.Source.readings c.read_term.new.src)
    (g.S.Source.readings c.answer_journal.new.src) c.in_ok-ready.ensures.one.1 c.answer_journal.ensures.source.told of in
    let r = rw c.in-Net.is at (c.in_ok-ready.ensures.comes files both.0) in
    absurd (term_first c.args.translation c.args.term.now c.args.journal.now (files 0) r.1.0
    (tree_of c.in-Net.file.term) c.in-Net.file.names r.1.1.whole r.1.2.term refused)

pub returns-clause-source : goal.returns-clause-source
returns-clause-source g c = reads_then g.S.Source 1 1 c.args.src.now c.read_term.new.src
    c.answer_journal.new.src c.in_ok-ready.ensures.source c.answer_journal.ensures.source

pub returns-in_err-answer-in-Net-clause-source : goal.returns-in_err-answer-in-Net-clause-source
returns-in_err-answer-in-Net-clause-source g c = reads_then g.S.Source 1 1 c.args.src.now c.read_term.new.src
    c.answer_journal.new.src c.in_ok-ready.ensures.source c.answer_journal.ensures.source
