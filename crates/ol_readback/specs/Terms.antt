-- The term that a tree without NoHead and Cut stands for, and what a printed text is read as.
use Rattle.std.specs.Prelude.{◌≡◌, ℕ, zero, suc, ◌+◌, ◌-◌, ◌==◌, Bool, true, false, if◌then◌else◌}
use Rattle.std.specs.Prelude.{List, [], ◌∷◌, length, IsSome}
use Rattle.ol_term.specs.Trees as tree
use Rattle.ol_term.specs.Trees.{Tree}
use Rattle.ol_parse.specs.Grammar.{Named}
use Rattle.ol_parse.specs.Texts.{IsText}
use Rattle.ol_term.specs.NameLists.{position_of}
use Rattle.ol_parse.specs.Numbered.{names_of, numbered}
use Rattle.ol_readback.specs.Whole.{Part, term, lost, cut, none, more, preorder}
use Rattle.ol_readback.specs.declared.answers.HeadVar.{HeadVar}
use Rattle.ol_readback.specs.declared.answers.HeadVar.TheVariants as var
use Rattle.ol_readback.specs.declared.answers.ReadNode.{ReadNode}
use Rattle.ol_readback.specs.declared.answers.ReadNode.TheVariants as node

-- no NoHead and no Cut
abbrev pub HasAllHeads : List ReadNode → Type 0
HasAllHeads [] = Unit {0}
HasAllHeads (node.Head l v k ∷ ns) = HasAllHeads ns
HasAllHeads (node.NoHead ∷ ns) = ⊥
HasAllHeads (node.Cut ∷ ns) = ⊥

-- so many abstractions of a term
abbrev pub abstracted : ℕ → Tree → Tree
abstracted zero t = t
abstracted (suc l) t = tree.lam (abstracted l t)

-- The number of binder j of place i, counted from the innermost as 0. These places stand round, the
-- nearest first, each with its number of abstractions, whose first is the outermost.
abbrev pub index_of : List (ℕ × ℕ) → ℕ → ℕ → ℕ
index_of [] i j = 0
index_of (s ∷ ss) i j = if s.0 == i then s.1 - j else s.1 + index_of ss i j

-- the free name of port q has number q - 1
abbrev pub variable_of : List (ℕ × ℕ) → HeadVar → Tree
variable_of ss (var.Bound i j) = tree.var (index_of ss i j)
variable_of ss (var.Free q) = tree.free (q - 1)

-- a tree stands for a term, and arguments for what applies a term to them
abbrev pub Meaning : Bool → Type 0
Meaning true = Tree
Meaning false = Tree → Tree

-- A part that begins at place i. NoHead and Cut stand for no term.
abbrev pub meaning : {b : Bool} → List (ℕ × ℕ) → ℕ → Part b → Meaning b
meaning ss i (term l v ts) = abstracted l (meaning ((i, l) ∷ ss) (suc i) ts (variable_of ((i, l) ∷ ss) v))
meaning ss i lost = tree.var 0
meaning ss i cut = tree.var 0
meaning ss i none = λ f. f
meaning ss i (more u us) = λ f. meaning ss (i + length (preorder u)) us (tree.app f (meaning ss i u))

-- the term of a whole tree
abbrev pub term_of : Part true → Tree
term_of t = meaning [] 0 t

abbrev pub IsNoLam : Tree → Type 0
IsNoLam (tree.var k) = Unit {0}
IsNoLam (tree.free k) = Unit {0}
IsNoLam (tree.lam t) = ⊥
IsNoLam (tree.app f a) = Unit {0}

-- no application has an abstraction as its function
abbrev pub NoRedex : Tree → Type 0
NoRedex (tree.var k) = Unit {0}
NoRedex (tree.free k) = Unit {0}
NoRedex (tree.lam t) = NoRedex t
NoRedex (tree.app f a) = IsNoLam f × NoRedex f × NoRedex a

-- each of these is one of the names
abbrev pub AreAmong : List (List ℕ) → List (List ℕ) → Type 0
AreAmong names [] = Unit {0}
AreAmong names (x ∷ xs) = IsSome (position_of x names) × AreAmong names xs

-- the bytes are a text of the grammar, its free names are among these, and by their places in this
-- list its term is this one
pub record IsReadAs (names : List (List ℕ)) (bytes : List ℕ) (t : Tree) : Type 0 where
  pub named : Named
  pub text : IsText bytes named
  pub free_names : AreAmong names (names_of named)
  pub is : numbered names [] named ≡ t

-- the text is read as the term of the tree with these places, and no redex is in it
abbrev pub IsReadBack : List (List ℕ) → List ReadNode → List ℕ → Type 0
IsReadBack names ns bytes = (t : Part true) → preorder t ≡ ns → IsReadAs names bytes (term_of t) × NoRedex (term_of t)
