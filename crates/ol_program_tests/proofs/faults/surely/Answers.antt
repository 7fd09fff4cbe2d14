use Rattle.std.proofs.Common.{◌≤◌, Some, arith}
use Rattle.ol_io.specs.Outside.{Rose}
use Rattle.ol_io.specs.Sure.{bytes_of, told_by}
use Rattle.ol_cli.specs.Cases.{seen}
use Rattle.ol_cli.proofs.Follows.{ends_say}
use Rattle.ol_program_tests.proofs.faults.surely.Goals as goal

-- a count that stays 0 has not risen
never_rose : Rose 0 0 → ⊥
never_rose rose = let risen : 1 ≤ 0 = rose.risen in absurd (omega (arith, risen))

pub returns-clause-done : goal.returns-clause-done
returns-clause-done g c = λ can.
    ((ends_say c.args.words.now.items
    (seen 0 0 (λ _ name. Some (bytes_of c.args.src.now.files name)) c.ol.new.src.given c.ol.new.src.ended)
    c.ol.result.status 0 0 (told_by c.args.out.now) (told_by c.ol.new.out)
    (c.ol.ensures.ends (λ _ name. Some (bytes_of c.args.src.now.files name)) c.ol.ensures.source.told)).answer_says
    never_rose never_rose).completeness can

pub returns-clause-contents : goal.returns-clause-contents
returns-clause-contents g c = c.ol.ensures.source.contents
