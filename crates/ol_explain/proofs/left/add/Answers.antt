use Rattle.std.proofs.Common.{◌+◌, List, sym, subst, arith}
use Rattle.ol_rules.specs.declared.journal.Entry.{Entry}
use Rattle.ol_explain.specs.Found.{IsPairOf, AreFound}
use Rattle.ol_explain.proofs.Finds.{found_none, found_told, found_more}
use Rattle.ol_explain.proofs.left.add.Goals as goal

pub returns-in-None : goal.returns-in-None
returns-in-None c =
    let u = c.requires.replay in
    found_none u.0 c.args.replay.now u.1 c.args.at.0 c.requires.below c.args.found.now.told c.args.found.now.more
    c.requires.found (subst (IsPairOf c.args.replay.now c.args.at.0) c.in-None.is c.pair_at.ensures)

pub returns-then-len-lt-MOST_PAIRS : goal.returns-then-len-lt-MOST_PAIRS
returns-then-len-lt-MOST_PAIRS c =
    let u = c.requires.replay in
    subst (λ (es : List Entry). AreFound c.args.replay.now (c.args.at.0 + 1) es c.args.found.now.more)
    (sym c.in_ok-push-in-Some.ensures.ok)
    (found_told u.0 c.args.replay.now u.1 c.args.at.0 c.requires.below c.args.found.now.told c.args.found.now.more
    c.requires.found c.in-Some.entry
    (subst (IsPairOf c.args.replay.now c.args.at.0) c.in-Some.is c.pair_at.ensures)
    (let l = c.len.ensures in let t = c.if-len-lt-MOST_PAIRS.true in omega arith))

pub returns-else-len-lt-MOST_PAIRS : goal.returns-else-len-lt-MOST_PAIRS
returns-else-len-lt-MOST_PAIRS c =
    let u = c.requires.replay in
    found_more u.0 c.args.replay.now u.1 c.args.at.0 c.requires.below c.args.found.now.told c.args.found.now.more
    c.requires.found c.in-Some.entry
    (subst (IsPairOf c.args.replay.now c.args.at.0) c.in-Some.is c.pair_at.ensures)
    (λ b. let l = c.len.ensures in let t = c.if-len-lt-MOST_PAIRS.false in omega arith)
