use Rattle.std.proofs.Common.{arith}
use Rattle.std.proofs.lemmas.Option.{slice_get_within}
use Rattle.ol_term.specs.Trees.{tree_of}
use Rattle.ol_steps.specs.EarlierTerms.{terms_of}
use Rattle.ol_steps.proofs.EarlierTerms.{kept_length, not_next}
use Rattle.ol_steps.proofs.finding.step_of.Goals as goal

pub loop-k-preserved : goal.loop-k-preserved
loop-k-preserved c =
    not_next c.args.kept.now (tree_of c.args.term.now) c.loop-k.k c.index-kept-k.result
    (omega (arith, c.loop-k-test.true)) c.index-kept-k.is c.loop-k.invariant
    (λ same. let e = c.if-is.ensures.1 same in absurd (cc))

pub returns : goal.returns
returns c = λ j e.
    let kept = c.args.kept.now in
    let w = slice_get_within (terms_of kept) j (tree_of c.args.term.now) e in
    c.loop-k.invariant j (omega (arith, w, kept_length kept, c.loop-k-test.false)) e
