-- The word by which a part of a term is written that is the value of lets: the name of a let, or the names of several.
use Rattle.std.specs.Prelude.{ℕ, ◌+◌, ◌-◌, nat_lt, Bool, true, false, not, ◌&&◌, ◌||◌, if◌then◌else◌}
use Rattle.std.specs.Prelude.{List, [], ◌∷◌, ◌++◌, slice_get, Option, None, Some, unwrap_or}
use Rattle.std.specs.Str.{bytes_eq}
use Rattle.ol_term.specs.Trees as tree
use Rattle.ol_term.specs.Trees.{Tree}
use Rattle.ol_term.specs.BinderNames.{is_among}
use Rattle.ol_steps.specs.Binders.{Binders, leaf, lam, app, names_in_argument, names_in_body, names_in_function}
use Rattle.ol_steps.specs.Folded.{folded_at, is_same}
use Rattle.ol_steps.specs.Lets.{LetRow, names_of_lets, values_of_lets}

-- ---- the word of a part

-- whether binders have the same names
abbrev pub is_alike : Binders → Binders → Bool
is_alike leaf leaf = true
is_alike (lam x s) (lam y r) = bytes_eq x y && is_alike s r
is_alike (app r s) (app p q) = is_alike r p && is_alike s q
is_alike _ _ = false

-- whether a part is the value of a let and, if `kept`, its binders have the names of the value's
abbrev pub is_value_of : Bool → LetRow → Tree → Binders → Bool
is_value_of kept row t s = is_same row.value t && (not kept || is_alike row.binders s)

-- a name before others, with a bar between them
abbrev pub barred : List ℕ → List ℕ → List ℕ
barred x [] = x
barred x (b ∷ bs) = x ++ 124 ∷ b ∷ bs

-- the names of the lets whose value a part is, with bars between them
abbrev pub names_for : Bool → List LetRow → Tree → Binders → List ℕ
names_for kept [] t s = []
names_for kept (row ∷ rows) t s = if is_value_of kept row t s
    then barred row.name (names_for kept rows t s) else names_for kept rows t s

-- the first of two words that isn't empty
abbrev pub or_else : List ℕ → List ℕ → List ℕ
or_else [] w = w
or_else (b ∷ bs) w = b ∷ bs

-- the word of a part: the names of the lets whose value it is and whose binders have the names of the part's, or, if there
-- are none, the names of all lets whose value it is
abbrev pub word_for : List LetRow → Tree → Binders → List ℕ
word_for rows t s = or_else (names_for true rows t s) (names_for false rows t s)

-- ---- the words of lets

-- the words by which the values of lets may be written, each with its value
abbrev pub word_rows : (rows left : List LetRow) → List LetRow
word_rows rows [] = []
word_rows rows (row ∷ left) =
    record { name = names_for true rows row.value row.binders; value = row.value; binders = leaf }
    ∷ record { name = names_for false rows row.value row.binders; value = row.value; binders = leaf }
    ∷ word_rows rows left

-- those that are no names yet, each once
abbrev pub new_rows : List (List ℕ) → List LetRow → List LetRow
new_rows names [] = []
new_rows names (row ∷ rows) = if is_among names row.name then new_rows names rows
    else row ∷ new_rows (names ++ row.name ∷ []) rows

-- lets, and after them their words that are no names yet
abbrev pub with_words : List (List ℕ) → List LetRow → List LetRow
with_words names rows = rows ++ new_rows (names ++ names_of_lets rows) (word_rows rows rows)

-- ---- terms with words

-- The names that are printed. From one number on they stand for values: those of lets, and after them words of several.
pub record Glossary : Type 0 where
  pub names : List (List ℕ)
  pub first : ℕ
  pub rows : List LetRow
  pub lets : List LetRow

-- the number of the first row of this name and this value, where they are numbered from n on
abbrev pub row_at : ℕ → List LetRow → List ℕ → Tree → Option ℕ
row_at n [] x v = None
row_at n (row ∷ rows) x v = if bytes_eq row.name x && is_same row.value v then Some n else row_at (n + 1) rows x v

-- the number of the word of a part that is the value of this row, whose binders have these names
abbrev pub word_number : Glossary → ℕ → Option LetRow → Binders → ℕ
word_number g k None s = k
word_number g k (Some row) s = unwrap_or (row_at g.first g.rows (word_for g.lets row.value s) row.value) k

-- the number of the word of a part that has become free name k
abbrev pub written_number : Glossary → ℕ → Binders → ℕ
written_number g k s = if nat_lt k g.first then k else word_number g k (slice_get g.rows (k - g.first)) s

-- a folded tree, in which each part that has become a name is written by its word; these are the names that the binders
-- had before
abbrev pub worded : Glossary → Tree → Binders → Tree
worded g (tree.var k) s = tree.var k
worded g (tree.free k) s = tree.free (written_number g k s)
worded g (tree.lam t) s = tree.lam (worded g t (names_in_body s))
worded g (tree.app f a) s = tree.app (worded g f (names_in_function s)) (worded g a (names_in_argument s))

-- a tree that is folded, but for the redex at an address, with its words
abbrev pub worded_at : Glossary → Option (List ℕ) → Tree → Binders → Tree
worded_at g at t s = worded g (folded_at g.first (values_of_lets g.rows) at t) s
