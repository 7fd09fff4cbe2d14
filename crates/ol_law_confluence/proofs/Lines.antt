-- The line on which a tree is printed.
use Rattle.std.proofs.Common.{◌≡◌, ℕ, suc, List, [], ◌∷◌, ◌++◌, Bool, true, false, cond, nat_eq}
use Rattle.std.proofs.Common.{refl, sym, ap, ◌∙◌, subst, arith}
use Rattle.ol_parse.specs.Grammar.{Named}
use Rattle.ol_parse.specs.Texts.{IsLine, IsText}
use Rattle.ol_parse.specs.Parsed.{AreNames}
use Rattle.ol_readback.specs.Whole.{Part, preorder}
use Rattle.ol_readback.specs.Terms.{HasAllHeads}
use Rattle.ol_readback.specs.Texts.{rounds, text_of_tree}
use Rattle.ol_law_meaning.specs.Shows.{LacksHead}
use Rattle.ol_law_confluence.specs.PrintedLine.{TextIsOneLine, HolesAreNoText, QuestionIsLost}
use Rattle.ol_law_confluence.proofs.Counts.{times, times_append}
use Rattle.ol_law_confluence.proofs.Tokens.{text_is_even}
use Rattle.ol_law_confluence.proofs.Printed.{weighed, feed, hash, dot, question, slash, lead}
use Rattle.ol_law_confluence.proofs.Printed.{weight_none, weight_lost, weight_cut, all_heads, lacks_head}

pub line_of : (bs : List ℕ) → times 10 bs ≡ 0 → IsLine bs
line_of [] h = tt
line_of (b ∷ bs) h = go (nat_eq b 10) refl h (λ k. line_of bs k)
  where
    go : (x : Bool) → nat_eq b 10 ≡ x → cond x (suc (times 10 bs)) (times 10 bs) ≡ 0 →
        (times 10 bs ≡ 0 → IsLine bs) → IsLine (b ∷ bs)
    go true e k f = absurd (omega arith)
    go false e k f = (e, f k)

pub text_is_one_line : TextIsOneLine
text_is_one_line names ns text good i =
    line_of text
    (ap (λ (x : List ℕ). times 10 x) i.is
    ∙ weighed feed names good (rounds 0 i.tree) 0 i.tree
    ∙ weight_none i.tree)

module _ (names : List (List ℕ)) (good : AreNames names) (p : Part true) where
  no_holes : (t : Named) → IsText (text_of_tree names p) t → HasAllHeads (preorder p)
  no_holes t i =
      let h10 = weighed hash names good (rounds 0 p) 0 p ∙ weight_none p in
      let h206 = weighed lead names good (rounds 0 p) 0 p ∙ weight_none p in
      let h92 = weighed slash names good (rounds 0 p) 0 p in
      let h46 = weighed dot names good (rounds 0 p) 0 p ∙ weight_cut p in
      let h63 = weighed question names good (rounds 0 p) 0 p ∙ weight_lost p in
      let e = text_is_even (text_of_tree names p) t i h10 in
      let none = e.0 in
      let few = e.1 in
      all_heads p (sym h63 ∙ none) (omega arith)

  lost_there : (before after : List ℕ) → text_of_tree names p ≡ before ++ 63 ∷ after →
      LacksHead (preorder p)
  lost_there before after e =
      let h63 = weighed question names good (rounds 0 p) 0 p ∙ weight_lost p in
      let k = times_append 63 before (63 ∷ after) in
      let j = ap (λ (x : List ℕ). times 63 x) e in
      lacks_head p (omega arith)

pub holes_are_no_text : HolesAreNoText
holes_are_no_text names ns text good i t is =
    subst HasAllHeads i.listed
    (no_holes names good i.tree t (subst (λ (x : List ℕ). IsText x t) i.is is))

pub question_is_lost : QuestionIsLost
question_is_lost names ns text good i before after e =
    subst LacksHead i.listed (lost_there names good i.tree before after (sym i.is ∙ e))
