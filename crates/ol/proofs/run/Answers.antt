-- The contract of the call that `main` makes: that of `ol`, of any files of its readings, over adapters of which no call was
-- made before; and what follows from how it ended.
use Rattle.std.proofs.Common.{Some, subst, refl, List, ℕ}
use Rattle.std.specs.Prelude.{[]}
use Rattle.std.proofs.lemmas.Option.{same_Some}
use Rattle.ol_io.specs.Readings.{AreOfSince}
use Rattle.ol_law_confluence.specs.NormalForms.{BeginsReduced}
use Rattle.ol_cli.specs.Answers.{Ends, HasCause}
use Rattle.ol_cli.specs.Cases.{seen}
use Rattle.ol_cli.specs.Jobs.{Files, files_of}
use Rattle.ol_cli.proofs.Follows.{first_ends_say}
use Rattle.ol.proofs.Passing.{begun_at_most, first_ends, of_none, since_none}
use Rattle.ol.proofs.run.Goals as goal

pub returns : goal.returns
returns g c =
    let words = c.args.words.now.items in
    let st = c.ol-outcome.result.status in
    let f' = c.ol-outcome.new.src.faults in
    let given = c.ol-outcome.new.src.given in
    let ended = c.ol-outcome.new.src.ended in
    let w' = c.ol-outcome.new.out.faults in
    let before = c.new-src.result.log.passed.readings in
    let after = c.ol-outcome.new.src.log.passed.readings in
    let new = c.ol-outcome.new.out.log.passed.taken in
    let told = since_none c.ol-outcome.ensures.source c.new-src.ensures.readings in
    let ends : (files : Files) → AreOfSince files [] after →
    Ends (HasCause words (seen 0 f' files given ended)) st 0 w' (Some []) (Some new) =
    λ files of.
    first_ends words files st c.new-src.result.faults f' c.new-out.result.faults w' given ended
    c.new-out.result.log.passed.taken new c.new-src.ensures.faults c.new-out.ensures.faults c.new-out.ensures.taken
    (c.ol-outcome.ensures.ends files (of_none files before after c.new-src.ensures.readings of)) in
    let own = first_ends_say words after (seen 0 f' told.0 given ended) st w' new refl told.1 ends in
    record {
      in_short = λ done verb name bytes are is one taken all source text.
          subst (λ (taken : List ℕ). BeginsReduced source taken) (same_Some new taken all)
          (own.in_short done verb name bytes are is one source text);
      told = told;
      ends = ends;
      begins = begun_at_most c.new-src.result.begins c.ol-outcome.new.src.begins (files_of words)
          c.new-src.ensures.begins c.ol-outcome.ensures.source.begins;
      plain = λ done files of. (own.done_says done files of).plain;
      plain_demand = λ done files of. (own.done_says done files of).plain_demand;
      plain_fewest = λ done files of. (own.done_says done files of).plain_fewest;
      plain_equal = λ done files of. (own.done_says done files of).plain_equal;
    }
