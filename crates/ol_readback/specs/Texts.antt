-- The printed text of a tree. The free name of port q is name q - 1 of a list.
use Rattle.std.specs.Prelude.{◌≡◌, ℕ, zero, suc, ◌+◌, ◌-◌, ◌≤◌, Bool, true, false, if◌then◌else◌}
use Rattle.std.specs.Prelude.{List, [], ◌∷◌, ◌++◌, slice_index, slice_index_or}
use Rattle.ol_readback.specs.Whole.{Part, term, lost, cut, none, more, preorder}
use Rattle.ol_term.specs.BinderNames.{binder_name}
use Rattle.ol_readback.specs.declared.answers.HeadVar.{HeadVar}
use Rattle.ol_readback.specs.declared.answers.HeadVar.TheVariants as var
use Rattle.ol_readback.specs.declared.answers.ReadNode.{ReadNode}
use Rattle.ol_readback.specs.declared.answers.ReadNode.TheVariants as node

-- each free name in the tree is one of so many names
abbrev pub IsNamedVar : ℕ → HeadVar → Type 0
IsNamedVar count (var.Bound i j) = Unit {0}
IsNamedVar count (var.Free q) = (1 ≤ q) × (q ≤ count)

abbrev pub IsNamedNode : ℕ → ReadNode → Type 0
IsNamedNode count (node.Head l v k) = IsNamedVar count v
IsNamedNode count node.NoHead = Unit {0}
IsNamedNode count node.Cut = Unit {0}

abbrev pub AreNamed : ℕ → List ReadNode → Type 0
AreNamed count [] = Unit {0}
AreNamed count (n ∷ ns) = IsNamedNode count n × AreNamed count ns

-- how many binders stand round each place of a part, where t stand round the whole part
abbrev pub rounds : {b : Bool} → ℕ → Part b → List ℕ
rounds t (term l v ts) = t ∷ rounds (t + l) ts
rounds t lost = t ∷ []
rounds t cut = t ∷ []
rounds t none = []
rounds t (more u us) = rounds t u ++ rounds t us

-- the names of binders t to t + l - 1, a space before each
abbrev pub spaced : List (List ℕ) → ℕ → ℕ → List ℕ
spaced names t zero = []
spaced names t (suc l) = 32 ∷ (binder_name names t ++ spaced names (suc t) l)

-- `\`, the names with one space between two, `.` and a space; the first binder is the outermost
abbrev pub abstractions : List (List ℕ) → ℕ → ℕ → List ℕ
abstractions names t zero = []
abstractions names t (suc l) = 92 ∷ (binder_name names t ++ (spaced names (suc t) l ++ (46 ∷ (32 ∷ []))))

-- a variable, where so many binders stand round each place
abbrev pub variable : List (List ℕ) → List ℕ → HeadVar → List ℕ
variable names rs (var.Bound i j) = binder_name names (slice_index rs i + (j - 1))
variable names rs (var.Free q) = slice_index_or names (q - 1) []

-- no brackets are needed
abbrev pub is_bare : Part true → Bool
is_bare (term zero v none) = true
is_bare (term zero v (more u us)) = false
is_bare (term (suc l) v ts) = false
is_bare lost = true
is_bare cut = true

abbrev pub bracketed : Bool → List ℕ → List ℕ
bracketed bare text = if bare then text else 40 ∷ (text ++ 41 ∷ [])

-- A part with t binders round it. A space stands before each argument. `?` is no head, and `...` is cut.
abbrev pub part_text : {b : Bool} → List (List ℕ) → List ℕ → ℕ → Part b → List ℕ
part_text names rs t (term l v ts) = abstractions names t l ++ (variable names rs v ++ part_text names rs (t + l) ts)
part_text names rs t lost = 63 ∷ []
part_text names rs t cut = 46 ∷ (46 ∷ (46 ∷ []))
part_text names rs t none = []
part_text names rs t (more u us) = 32 ∷ (bracketed (is_bare u) (part_text names rs t u) ++ part_text names rs t us)

abbrev pub text_of_tree : List (List ℕ) → Part true → List ℕ
text_of_tree names t = part_text names (rounds 0 t) 0 t

-- the text of a whole list of places
pub record IsTextOf (names : List (List ℕ)) (ns : List ReadNode) (text : List ℕ) : Type 0 where
  pub tree : Part true
  pub listed : preorder tree ≡ ns
  pub is : text ≡ text_of_tree names tree
