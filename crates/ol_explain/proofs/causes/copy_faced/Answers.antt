-- What holds where there is no copy follows from what holds there.
use Rattle.std.proofs.Common.{ℕ, Option, None, Some, IfNone}
use Rattle.ol_rules.specs.declared.journal.NodeName.TheVariants.{Born}
use Rattle.ol_explain.proofs.WhyNot.{no_copy_faced}
use Rattle.ol_explain.proofs.causes.copy_faced.Goals as goal

if_none : {P Q : Type 0} → (o : Option (ℕ × ℕ)) → IfNone o P → (P → Q) → IfNone o Q
if_none None h f = f h
if_none (Some v) h f = h

pub returns-in_default-clause-none : goal.returns-in_default-clause-none
returns-in_default-clause-none c = λ ticket place copy. c.in_default.ensures (Born ticket place) copy.faces

pub returns-clause-none : goal.returns-clause-none
returns-clause-none c =
    let u = c.requires.replay in
    if_none c.other_copy.result c.other_copy.ensures.none
    (no_copy_faced u.0 c.args.replay.now u.1 c.args.x c.requires.live c.in-Some.faced c.args.named c.in-Some.ensures)
