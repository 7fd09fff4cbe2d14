use Rattle.std.proofs.Common.{None, Some}
use Rattle.ol_term.specs.Trees.{tree_of}
use Rattle.ol_steps.proofs.Showable.{showable}
use Rattle.ol_steps.proofs.showing.folded.Goals as goal

pub returns-in_ok-whole-in-None-clause-bound : goal.returns-in_ok-whole-in-None-clause-bound
returns-in_ok-whole-in-None-clause-bound c =
    (showable c.args.lets.now.first c.args.lets.now.rows.items None (tree_of c.args.term.now)
    (tree_of c.in_ok-whole-in-None.whole) c.in_ok-whole-in-None.ensures c.requires.bound c.requires.named
    c.requires.within).bound

pub returns-in_ok-whole-in-None-clause-named : goal.returns-in_ok-whole-in-None-clause-named
returns-in_ok-whole-in-None-clause-named c =
    (showable c.args.lets.now.first c.args.lets.now.rows.items None (tree_of c.args.term.now)
    (tree_of c.in_ok-whole-in-None.whole) c.in_ok-whole-in-None.ensures c.requires.bound c.requires.named
    c.requires.within).named

pub returns-in_ok-whole-in-None-clause-within : goal.returns-in_ok-whole-in-None-clause-within
returns-in_ok-whole-in-None-clause-within c =
    (showable c.args.lets.now.first c.args.lets.now.rows.items None (tree_of c.args.term.now)
    (tree_of c.in_ok-whole-in-None.whole) c.in_ok-whole-in-None.ensures c.requires.bound c.requires.named
    c.requires.within).within

pub returns-in_ok-whole-in-Some-clause-bound : goal.returns-in_ok-whole-in-Some-clause-bound
returns-in_ok-whole-in-Some-clause-bound c =
    (showable c.args.lets.now.first c.args.lets.now.rows.items (Some c.deref.result.now) (tree_of c.args.term.now)
    (tree_of c.in_ok-whole-in-Some.whole) c.in_ok-whole-in-Some.ensures c.requires.bound c.requires.named
    c.requires.within).bound

pub returns-in_ok-whole-in-Some-clause-named : goal.returns-in_ok-whole-in-Some-clause-named
returns-in_ok-whole-in-Some-clause-named c =
    (showable c.args.lets.now.first c.args.lets.now.rows.items (Some c.deref.result.now) (tree_of c.args.term.now)
    (tree_of c.in_ok-whole-in-Some.whole) c.in_ok-whole-in-Some.ensures c.requires.bound c.requires.named
    c.requires.within).named

pub returns-in_ok-whole-in-Some-clause-within : goal.returns-in_ok-whole-in-Some-clause-within
returns-in_ok-whole-in-Some-clause-within c =
    (showable c.args.lets.now.first c.args.lets.now.rows.items (Some c.deref.result.now) (tree_of c.args.term.now)
    (tree_of c.in_ok-whole-in-Some.whole) c.in_ok-whole-in-Some.ensures c.requires.bound c.requires.named
    c.requires.within).within
