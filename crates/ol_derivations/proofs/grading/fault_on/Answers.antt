use Rattle.std.proofs.Common.{◌≡◌, ◌∙◌, subst}
use Rattle.ol_derivations.specs.declared.reading.Found.{Found}
use Rattle.ol_derivations.specs.Reads.{lack_words}
use Rattle.ol_derivations.specs.StudentsSoFar.{IsFound}
use Rattle.ol_derivations.proofs.Said.{said_on, lacks_on}
use Rattle.ol_derivations.proofs.grading.fault_on.Goals as goal

pub compared-requires-clause-got : goal.compared-requires-clause-got
compared-requires-clause-got c =
    let h = subst (λ (r : Found). IsFound c.args.bounds c.args.student.now.text.now c.args.input.now.text.now r) c.in-Tree.is
    c.in_ok-got.ensures in
    h.named

pub returns-in_ok-told-in-Tree : goal.returns-in_ok-told-in-Tree
returns-in_ok-told-in-Tree c =
    let h = subst (λ (r : Found). IsFound c.args.bounds c.args.student.now.text.now c.args.input.now.text.now r) c.in-Tree.is
    c.in_ok-got.ensures in
    said_on c.args.bounds c.args.student.now.text.now c.args.input.now.text.now c.args.wanted.now c.in-Tree.got c.args.k
    c.in_ok-told-in-Tree.told h c.in_ok-told-in-Tree.ensures

pub returns-in_ok-words-in-Without : goal.returns-in_ok-words-in-Without
returns-in_ok-words-in-Without c =
    let h = subst (λ (r : Found). IsFound c.args.bounds c.args.student.now.text.now c.args.input.now.text.now r) c.in-Without.is
    c.in_ok-got.ensures in
    let w : c.as_bytes.result.now ≡ lack_words c.in-Without.lack = c.as_bytes.ensures.value ∙ c.lack_words.ensures in
    lacks_on c.args.bounds c.args.student.now.text.now c.args.input.now.text.now c.args.wanted.now c.args.k c.in-Without.lack
    c.as_bytes.result.now c.in_ok-words-in-Without.words.items c.in_ok-words-in-Without.ensures w h
