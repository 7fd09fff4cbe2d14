-- The laws of printed trees for all reductions of their source.
use Rattle.std.specs.Prelude.{◌≡◌, ℕ, ◌↔◌, Bool, true, List, [], ◌∷◌}
use Rattle.ol_beta.specs.Leftmost.{IsNormal}
use Rattle.ol_beta.specs.Verdicts.{IsVerdict}
use Rattle.ol_beta.specs.declared.certifying.Verdict.TheVariants.{Differs}
use Rattle.ol_readback.specs.Terms.{HasAllHeads, term_of}
use Rattle.ol_readback.specs.declared.answers.ReadNode.{ReadNode}
use Rattle.ol_readback.specs.declared.answers.ReadNode.TheVariants as node
use Rattle.ol_term.specs.Trees.{Tree}
use Rattle.ol_law_meaning.specs.Shows.{BetaReduces, LeftmostReduces, LacksHead}
use Rattle.ol_law_meaning.specs.Meaning.{SaysOf}
use Rattle.ol_law_confluence.specs.Reductions.{Convertible, HasNormalForm, HasHeadNormalForm}

-- The normal form of a term: each reduct of the term reduces to it, no other normal form is one of
-- its reducts, and leftmost reduction of each term that is convertible with it leads there.
pub record IsTheNormalForm (t v : Tree) : Type 0 where
  pub is_normal : IsNormal v
  pub every_reduct : (u : Tree) → BetaReduces t u → BetaReduces u v
  pub only : (u : Tree) → BetaReduces t u → IsNormal u → u ≡ v
  pub leftmost : (u : Tree) → Convertible t u → LeftmostReduces u v

-- What a printed tree says of all reductions of its source. Where each place has a head, the tree's
-- term is the normal form. Where lost_too is true and some place has no head, no term that is
-- convertible with the source has a normal form; and with such a place at the root the source has
-- no head normal form.
pub record SaysAlways {t : Tree} {lost_too : Bool} {ns : List ReadNode} (s : SaysOf t lost_too ns) :
    Type 0 where
  pub whole : HasAllHeads ns → IsTheNormalForm t (term_of s.tree)
  pub lost : lost_too ≡ true → LacksHead ns → (u : Tree) → Convertible t u → HasNormalForm u → ⊥
  pub lost_root : lost_too ≡ true → ns ≡ node.NoHead ∷ [] → HasHeadNormalForm t → ⊥

-- all this of each tree that says what head reduction and leftmost reduction come to
abbrev pub PrintedTreeSaysAlways : Type 0
PrintedTreeSaysAlways = (t : Tree) (lost_too : Bool) (ns : List ReadNode)
    (s : SaysOf t lost_too ns) → SaysAlways s

-- two terms whose trees have all heads are convertible exactly where the terms of the trees are one
abbrev pub WholeTreesDecide : Type 0
WholeTreesDecide = (t u : Tree) (b c : Bool) (ns ms : List ReadNode)
    (s : SaysOf t b ns) (r : SaysOf u c ms) → HasAllHeads ns → HasAllHeads ms →
    Convertible t u ↔ (term_of s.tree ≡ term_of r.tree)

-- leftmost reduction of a term and a tree that was printed of it never differ
abbrev pub VerdictNeverDiffers : Type 0
VerdictNeverDiffers = (t : Tree) (lost_too : Bool) (ns : List ReadNode) → SaysOf t lost_too ns →
    (most : ℕ) (road : List (List ℕ)) → IsVerdict t ns most (Differs road) → ⊥
