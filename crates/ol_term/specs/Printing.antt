-- Private: what is still to be printed of a term.
use Rattle.std.specs.Prelude.{◌≡◌, ℕ, ◌+◌, ◌*◌, ◌<◌, ◌≤◌, Bool, true, false, if◌then◌else◌, List, [], ◌∷◌, ◌++◌, length}
use Rattle.ol_term.specs.Trees.{Tree, tree_of, is_below, is_named_below, depth, term_size}
use Rattle.ol_term.specs.Texts.{is_variable, in_brackets, term_text_under}
use Rattle.ol_term.specs.declared.printing.Todo.{Todo}
use Rattle.ol_term.specs.declared.printing.Todo.TheVariants as todo

abbrev pub left_bracket : Bool → List ℕ
left_bracket false = []
left_bracket true = 40 ∷ []

-- the right bracket, where there is a left one
abbrev pub closing : Bool → List Todo
closing false = []
closing true = todo.Close ∷ []

abbrev pub bracketed : Bool → List ℕ → List ℕ
bracketed bare text = if bare then text else in_brackets text

-- the text of one item
abbrev pub item_text : List (List ℕ) → Todo → List ℕ
item_text names (todo.Term t n b) = term_text_under names b n (tree_of t.now)
item_text names (todo.Argument t n) =
    32 ∷ bracketed (is_variable (tree_of t.now)) (term_text_under names false n (tree_of t.now))
item_text names todo.Close = 41 ∷ []

-- the text of all items, the last of which comes first
abbrev pub items_text : List (List ℕ) → List Todo → List ℕ
items_text names [] = []
items_text names (x ∷ xs) = items_text names xs ++ item_text names x

-- a tree that can be printed with n binders round it
pub record IsPrintable (count n : ℕ) (t : Tree) : Type 0 where
  pub bound : is_below n t ≡ true
  pub named : is_named_below count t ≡ true
  pub short : n + depth t ≤ 4294967295

abbrev pub IsItem : ℕ → Todo → Type 0
IsItem count (todo.Term t n b) = IsPrintable count n (tree_of t.now)
IsItem count (todo.Argument t n) = IsPrintable count n (tree_of t.now)
IsItem count todo.Close = Unit {0}

abbrev pub AreItems : ℕ → List Todo → Type 0
AreItems count [] = Unit {0}
AreItems count (x ∷ xs) = IsItem count x × AreItems count xs

-- how much is left to do
abbrev pub weight : Todo → ℕ
weight (todo.Term t n b) = 4 * term_size (tree_of t.now)
weight (todo.Argument t n) = 2 + 4 * term_size (tree_of t.now)
weight todo.Close = 1

abbrev pub weights : List Todo → ℕ
weights [] = 0
weights (x ∷ xs) = weight x + weights xs

-- Some text was printed, or a part of it, and the rest is among the items. Less is left to do than before, where the
-- text counts w.
pub record IsStep
    (names : List (List ℕ)) (x : List ℕ) (items : List Todo) (text : List ℕ) (w : ℕ)
    (x' : List ℕ) (items' : List Todo) : Type 0 where
  pub text_is : x' ++ items_text names items' ≡ x ++ (text ++ items_text names items)
  pub whole : AreItems (length names) items'
  pub less : weights items' < w + weights items

-- a tree was printed, or a part of it, with n binders round it
abbrev pub PrintsTree : List (List ℕ) → Bool → ℕ → Tree → List ℕ → List Todo → List ℕ → List Todo → Type 0
PrintsTree names body n t x items x' items' = IsStep names x items (term_text_under names body n t)
    (4 * term_size t) x' items'

-- an item was printed, or a part of it
abbrev pub Prints : List (List ℕ) → Todo → List ℕ → List Todo → List ℕ → List Todo → Type 0
Prints names item x items x' items' = IsStep names x items (item_text names item) (weight item) x' items'
