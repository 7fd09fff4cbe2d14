-- Private: decoders, each of one encoding, and the text of what is told.
use Rattle.std.specs.Prelude.{ℕ, ◌+◌, ◌==◌, ◌&&◌, ◌||◌, Bool, true, false, if◌then◌else◌, List, [], ◌∷◌, ◌++◌}
use Rattle.std.specs.Prelude.{Option, Some, None, is_some, codes}
use Rattle.std.specs.Fmt.{decimal}
use Rattle.std.specs.Option.{option_map}
use Rattle.ol_term.specs.Trees.{Tree, var, lam, app, is_below}
use Rattle.ol_decoding.specs.Values.{Value}
use Rattle.ol_decoding.specs.Values as value
use Rattle.ol_decoding.specs.Told.{words_of, line, lines, within}

abbrev pub is_var : ℕ → Tree → Bool
is_var k (var j) = j == k
is_var k _ = false

abbrev pub boolean_at : ℕ → Option Bool
boolean_at k = if k == 0 then Some false else if k == 1 then Some true else None

abbrev pub boolean_of : Tree → Option Bool
boolean_of (lam (lam (var k))) = boolean_at k
boolean_of _ = None

abbrev pub next : Option ℕ → Option ℕ
next o = option_map (λ n. n + 1) o

-- how many times variable 1 is applied to variable 0
abbrev pub iterations : Tree → Option ℕ
iterations (var k) = if k == 0 then Some 0 else None
iterations (app f a) = if is_var 1 f then next (iterations a) else None
iterations _ = None

abbrev pub church_of : Tree → Option ℕ
church_of (lam (lam b)) = iterations b
church_of _ = None

-- what variable 1 puts in front of variable 0
abbrev pub items_of : Tree → Option (List Tree)
items_of (var k) = if k == 0 then Some [] else None
items_of (app (app c t) rest) =
    if is_var 1 c && is_below 0 t then option_map (λ ts. t ∷ ts) (items_of rest) else None
items_of _ = None

abbrev pub list_of : Tree → Option (List Tree)
list_of (lam (lam b)) = items_of b
list_of _ = None

abbrev pub pair_of : Tree → Option (Tree × Tree)
pair_of (lam (app (app f a) b)) =
    if is_var 0 f && (is_below 0 a && is_below 0 b) then Some (a, b) else None
pair_of _ = None

abbrev pub scott_of : Tree → Option ℕ
scott_of (lam (lam (var k))) = if k == 1 then Some 0 else None
scott_of (lam (lam (app f a))) = if is_var 0 f then next (scott_of a) else None
scott_of _ = None

-- a value, where there is one
abbrev pub of : {A : Type 0} → (A → Value) → Option A → List Value
of f None = []
of f (Some x) = f x ∷ []

-- the values that fit a term
abbrev pub values : Tree → List Value
values t = of value.boolean (boolean_of t) ++ (of value.church (church_of t) ++ (of value.list (list_of t)
    ++ (of (λ p. value.pair p.0 p.1) (pair_of t) ++ of value.scott (scott_of t))))

-- some value fits a term
abbrev pub some_found : Tree → Bool
some_found t = is_some (boolean_of t) || (is_some (church_of t) || (is_some (list_of t)
    || (is_some (pair_of t) || is_some (scott_of t))))

-- the line of a value, where there is one
abbrev pub truth_line : List ℕ → Option Bool → List ℕ
truth_line number None = []
truth_line number (Some b) = line number (words_of (value.boolean b))

abbrev pub count_line : List ℕ → List ℕ → Option ℕ → List ℕ
count_line number words None = []
count_line number words (Some n) = line number (words ++ decimal n)

abbrev pub pair_line : List ℕ → Bool → List ℕ
pair_line number true = line number (codes "pair")
pair_line number false = []

-- What is told of a term that has this number, or of the items of a list from item k on.
abbrev pub told : List ℕ → Option ℕ → Tree → List ℕ
told number None (lam (lam b)) = lines number (values (lam (lam b)))
    ++ (if is_some (items_of b) then told number (Some 1) b else [])
told number None (lam (app (app f a) b)) = lines number (values (lam (app (app f a) b)))
    ++ (if is_some (pair_of (lam (app (app f a) b))) then
    told (within number 1) None a ++ told (within number 2) None b else [])
told number None t = lines number (values t) ++ []
told number (Some k) (app (app c t) rest) = told (within number k) None t ++ told number (Some (k + 1)) rest
told number (Some k) t = []
