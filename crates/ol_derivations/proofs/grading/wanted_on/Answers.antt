use Rattle.std.proofs.Common.{◌≡◌, ◌∙◌, codes, subst, sym}
use Rattle.ol_derivations.specs.declared.reading.Found.{Found}
use Rattle.ol_derivations.specs.Reads.{HasNoWholeTree, lack_words}
use Rattle.ol_derivations.specs.StudentsSoFar.{IsFound}
use Rattle.ol_derivations.proofs.Said.{lacks_so}
use Rattle.ol_derivations.proofs.Wholes.{clash}
use Rattle.ol_derivations.proofs.grading.wanted_on.Goals as goal

pub returns-then-is_whole : goal.returns-then-is_whole
returns-then-is_whole c =
    let h = subst (λ (r : Found). IsFound c.args.bounds c.args.solution.now.text.now c.args.input.now.text.now r) c.in-Tree.is
    c.in_ok-seen.ensures in
    (h, c.is_whole.ensures.0 c.if-is_whole.true)

pub returns-in_ok-holes-in-Tree : goal.returns-in_ok-holes-in-Tree
returns-in_ok-holes-in-Tree c =
    let h = subst (λ (r : Found). IsFound c.args.bounds c.args.solution.now.text.now c.args.input.now.text.now r) c.in-Tree.is
    c.in_ok-seen.ensures in (
      codes "holes are left",
      c.in_ok-holes-in-Tree.ensures,
      HasNoWholeTree.holes h (λ w. clash (sym c.if-is_whole.false ∙ c.is_whole.ensures.1 w)),
    )

pub returns-in_ok-words-in-Without : goal.returns-in_ok-words-in-Without
returns-in_ok-words-in-Without c =
    let h = subst (λ (r : Found). IsFound c.args.bounds c.args.solution.now.text.now c.args.input.now.text.now r) c.in-Without.is
    c.in_ok-seen.ensures in
    let w : c.as_bytes.result.now ≡ lack_words c.in-Without.lack = c.as_bytes.ensures.value ∙ c.lack_words.ensures in
    lacks_so c.args.bounds c.args.solution.now.text.now c.args.input.now.text.now c.in-Without.lack c.as_bytes.result.now
    c.in_ok-words-in-Without.words.items c.args.k c.in_ok-words-in-Without.ensures w h
