-- All clauses follow from `ends`.
use Rattle.ol_io.specs.Readings.{AreOfSince}
use Rattle.ol_cli.specs.Called.{seen_of}
use Rattle.ol_cli.specs.Follows.{Follows}
use Rattle.ol_cli.specs.Jobs.{Files}
use Rattle.ol_cli.proofs.Follows.{ends_say, handed_follows}
use Rattle.ol_program_tests.proofs.all_clauses.ol_with_all_clauses.Goals as goal

pub returns : goal.returns
returns g c =
    let words = c.args.words.now.items in
    let src = c.args.src.now in
    let src' = c.ol.new.src in
    let st = c.ol.result.status in
    let w = g.W.Sink.faults c.args.out.now in
    let w' = g.W.Sink.faults c.ol.new.out in
    let old = g.W.Sink.taken c.args.out.now in
    let new = g.W.Sink.taken c.ol.new.out in
    let all : (files : Files) → AreOfSince files (g.S.Source.readings src) (g.S.Source.readings src') →
    Follows words (seen_of g.S.Source files src src') st w w' old new =
    λ files of. ends_say words (seen_of g.S.Source files src src') st w w' old new (c.ol.ensures.ends files of) in
    let own = all (λ _. g.S.Source.contents src) c.ol.ensures.source.told in
    record {
      source = c.ol.ensures.source;
      done_says = λ files of. (all files of).done_says;
      answer_says = λ files of. (all files of).answer_says;
      handed = handed_follows words (seen_of g.S.Source (λ _. g.S.Source.contents src) src src')
          (g.S.Source.readings src) (g.S.Source.readings src') st w w' old new c.ol.ensures.source.told
          c.ol.ensures.ends;
      ends = c.ol.ensures.ends;
      closed = c.ol.ensures.closed;
      read = own.read;
      write = own.write;
      write_told = own.write_told;
      read_told = own.read_told;
      usage = own.usage;
      usage_told = own.usage_told;
      done = own.done;
      first_alone = c.ol.ensures.first_alone;
    }
