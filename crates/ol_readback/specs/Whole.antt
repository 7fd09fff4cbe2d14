-- Whole lists of a tree's places: each head has as many subterms as arguments, and each bound head has its binder.
use Rattle.std.specs.Prelude.{◌≡◌, ℕ, suc, ◌+◌, ◌≤◌, ◌⊎◌, List, [], ◌∷◌, ◌++◌, length, Bool, true, false}
use Rattle.ol_readback.specs.declared.answers.HeadVar.{HeadVar}
use Rattle.ol_readback.specs.declared.answers.HeadVar.TheVariants as var
use Rattle.ol_readback.specs.declared.answers.ReadNode.{ReadNode}
use Rattle.ol_readback.specs.declared.answers.ReadNode.TheVariants as node

-- a tree, and a list of trees
pub data Part : Bool → Type 0 where
  -- abstractions, variable, arguments
  term : ℕ → HeadVar → Part false → Part true
  lost : Part true
  cut : Part true
  none : Part false
  more : Part true → Part false → Part false

-- how many trees there are
abbrev pub count : {b : Bool} → Part b → ℕ
count (term l v ts) = 1
count lost = 1
count cut = 1
count none = 0
count (more t ts) = suc (count ts)

-- the places, arguments from the first to the last
abbrev pub preorder : {b : Bool} → Part b → List ReadNode
preorder (term l v ts) = node.Head l v (count ts) ∷ preorder ts
preorder lost = node.NoHead ∷ []
preorder cut = node.Cut ∷ []
preorder none = []
preorder (more t ts) = preorder t ++ preorder ts

-- the variable is a free name, or a binder of one of these places, each given with its number of abstractions
abbrev pub IsInScope : List (ℕ × ℕ) → HeadVar → Type 0
IsInScope [] (var.Bound i j) = ⊥
IsInScope (s ∷ ss) (var.Bound i j) = ((s.0 ≡ i) × (1 ≤ j) × (j ≤ s.1)) ⊎ IsInScope ss (var.Bound i j)
IsInScope ss (var.Free q) = Unit {0}

-- each bound head of a part that begins at place i is a binder of its own place or of one round it
abbrev pub IsBound : {b : Bool} → List (ℕ × ℕ) → ℕ → Part b → Type 0
IsBound ss i (term l v ts) = IsInScope ((i, l) ∷ ss) v × IsBound ((i, l) ∷ ss) (suc i) ts
IsBound ss i lost = Unit {0}
IsBound ss i cut = Unit {0}
IsBound ss i none = Unit {0}
IsBound ss i (more t ts) = IsBound ss i t × IsBound ss (i + length (preorder t)) ts

-- the list is that of a whole tree
pub record IsWholeTree (ns : List ReadNode) : Type 0 where
  pub tree : Part true
  pub is_list : preorder tree ≡ ns
  pub bound : IsBound [] 0 tree
