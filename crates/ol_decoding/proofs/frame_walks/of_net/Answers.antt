use Rattle.std.proofs.Common.{ℕ, List, ◌++◌, ap, ◌∙◌, subst}
use Rattle.std.specs.Prelude.{codes}
use Rattle.ol_equal.specs.Paths.{IsPathTo}
use Rattle.ol_decoding.specs.WalkAnswers.{no_place, place}
use Rattle.ol_decoding.proofs.frame_walks.of_net.Goals as goal

pub returns-in_default : goal.returns-in_default
returns-in_default c = (
  c.in_ok-tree.tree,
  c.in_ok-tree.ensures.tree,
  no_place (subst (λ (p : List ℕ). (k : ℕ) → IsPathTo c.in_ok-tree.tree k p → ⊥) c.deref.ensures.value
      c.in_default.ensures.none)
      (c.in_ok-put.ensures ∙ ap (λ (x : List ℕ). x ++ codes "no such place\n") c.new-text.ensures.items),
)

pub returns : goal.returns
returns c = let h = c.in_ok-put_head.ensures in (
  c.in_ok-tree.tree,
  c.in_ok-tree.ensures.tree,
  place c.in_ok-text.text.items h.0
      (subst (λ (p : List ℕ). IsPathTo c.in_ok-tree.tree c.in-Some.place p) c.deref.ensures.value c.in-Some.ensures.place)
      c.in_ok-text.ensures h.1 h.2,
)
