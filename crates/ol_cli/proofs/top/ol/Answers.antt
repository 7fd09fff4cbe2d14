-- The contract of the top call: how it ends is said by `answer_words` and `write` of any files of its readings, and the short
-- sentences follow.
use Rattle.std.proofs.Common.{◌≡◌}
use Rattle.ol_io.specs.Outside.{Rose}
use Rattle.ol_io.specs.Readings.{AreOfSince}
use Rattle.ol_cli.specs.declared.status.Status.TheVariants.{Done}
use Rattle.ol_cli.specs.Answers.{Ends, HasCause}
use Rattle.ol_cli.specs.Called.{seen_of}
use Rattle.ol_cli.specs.Jobs.{Files}
use Rattle.ol_cli.specs.Says.{SaysWhenDone}
use Rattle.ol_cli.proofs.Called.{call_ends, call_hands}
use Rattle.ol_cli.proofs.Follows.{ends_say}
use Rattle.ol_cli.proofs.top.ol.Goals as goal

pub returns : goal.returns
returns g c =
    let words = c.args.words.now.items in
    let src = c.args.src.now in
    let src' = c.answer_words-made.new.src in
    let w = g.W.Sink.faults c.args.out.now in
    let w' = g.W.Sink.faults c.write.new.out in
    let old = g.W.Sink.taken c.args.out.now in
    let new = g.W.Sink.taken c.write.new.out in
    let made = c.answer_words-made.result in
    let o = c.write.result in
    let comes = c.answer_words-made.ensures.comes in
    let ends : (files : Files) → AreOfSince files (g.S.Source.readings src) (g.S.Source.readings src') →
    Ends (HasCause words (seen_of g.S.Source files src src')) o.status w w' old new =
    λ files of. call_ends words _ w w' old new made o c.write.ensures.told (comes files of) in
    let done : (files : Files) → AreOfSince files (g.S.Source.readings src) (g.S.Source.readings src') →
    (Rose (g.S.Source.faults src) (g.S.Source.faults src') → ⊥) → (Rose w w' → ⊥) → o.status ≡ Done →
    SaysWhenDone words files old new =
    λ files of. (ends_say words (seen_of g.S.Source files src src') o.status w w' old new (ends files of)).done_says in
    record {
      source = c.answer_words-made.ensures.source;
      ends = ends;
      closed = λ files of. call_hands words _ w w' old new made o c.write.ensures.told (comes files of);
      first_alone = c.answer_words-made.ensures.first_alone;
      plain = λ files of quiet calm is. (done files of quiet calm is).plain;
      plain_demand = λ files of quiet calm is. (done files of quiet calm is).plain_demand;
      plain_fewest = λ files of quiet calm is. (done files of quiet calm is).plain_fewest;
      plain_equal = λ files of quiet calm is. (done files of quiet calm is).plain_equal;
    }
