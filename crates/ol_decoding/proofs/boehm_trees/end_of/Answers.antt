use Rattle.std.proofs.Common.{◌≡◌, inl, inr, true, false, sym, ◌∙◌, arith}
use Rattle.ol_decoding.specs.ToldTrees.{all, lacking}
use Rattle.ol_decoding.proofs.boehm_trees.end_of.Goals as goal

pub returns-then-lacks_head : goal.returns-then-lacks_head
returns-then-lacks_head c = lacking (inl (c.lacks_head.ensures.0 c.if-lacks_head.true))

pub returns-then-len-heads : goal.returns-then-len-heads
returns-then-len-heads c = lacking (inr (omega (arith, c.if-len-heads.true, c.len.ensures)))

pub returns-else-len-heads : goal.returns-else-len-heads
returns-else-len-heads c = all (
  λ l. let z : true ≡ false = sym (c.lacks_head.ensures.1 l) ∙ c.if-lacks_head.false in absurd (cc),
  omega (arith, c.if-len-heads.false, c.len.ensures),
)
