-- The head at a place of one of two trees, an underscore for each argument. The free name of port q is name q - 1 of a
-- list. In both trees a binder has the same letter where as many binders stand round it: one that is free in neither.
use Rattle.std.specs.Prelude.{◌≡◌, true, ℕ, zero, suc, ◌+◌, ◌-◌}
use Rattle.std.specs.Prelude.{List, [], ◌∷◌, ◌++◌, slice_index, slice_index_or, codes}
use Rattle.ol_term.specs.BinderNames.{binder_name}
use Rattle.ol_readback.specs.Texts.{abstractions, rounds}
use Rattle.ol_readback.specs.Whole.{Part, preorder}
use Rattle.ol_readback.specs.declared.answers.HeadVar.{HeadVar}
use Rattle.ol_readback.specs.declared.answers.HeadVar.TheVariants as var
use Rattle.ol_readback.specs.declared.answers.ReadNode.{ReadNode}
use Rattle.ol_readback.specs.declared.answers.ReadNode.TheVariants as node
use Rattle.ol_equal.specs.Comparing.{TreeWithNames, place_at}
use Rattle.ol_term.specs.NameLists.{with_names}

-- the free names of two trees, each once
abbrev pub all_names : TreeWithNames → List (List ℕ)
all_names names = with_names (with_names [] names.a) names.b

-- how many binders a place has
abbrev pub lams_of : ReadNode → ℕ
lams_of (node.Head l v k) = l
lams_of node.NoHead = 0
lams_of node.Cut = 0

-- for each argument a space and an underscore
abbrev pub underscores : ℕ → List ℕ
underscores zero = []
underscores (suc n) = 32 ∷ (95 ∷ underscores n)

-- a variable of a tree with these free names; no binder has one of all names
abbrev pub told_variable : (all names : List (List ℕ)) → List ℕ → HeadVar → List ℕ
told_variable all names rs (var.Bound i j) = binder_name all (slice_index rs i + (j - 1))
told_variable all names rs (var.Free q) = slice_index_or names (q - 1) []

-- what stands at place k, where so many binders stand round each place
abbrev pub head_text : (all names : List (List ℕ)) → List ℕ → (k : ℕ) → ReadNode → List ℕ
head_text all names rs k (node.Head l v n) =
    abstractions all (slice_index rs k) l ++ told_variable all names rs v ++ underscores n
head_text all names rs k node.NoHead = codes "?"
head_text all names rs k node.Cut = codes "..."

-- the text of place k of the tree with this list of places and these free names
pub record IsHeadText (all names : List (List ℕ)) (ns : List ReadNode) (k : ℕ) (text : List ℕ) : Type 0 where
  pub tree : Part true
  pub listed : preorder tree ≡ ns
  pub is : text ≡ head_text all names (rounds 0 tree) k (place_at ns k)
