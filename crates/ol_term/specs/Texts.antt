-- The printed text of a term.
use Rattle.std.specs.Prelude.{ℕ, ◌+◌, ◌-◌, Bool, true, false, if◌then◌else◌, slice_index_or, List, [], ◌∷◌, ◌++◌}
use Rattle.ol_term.specs.Trees.{Tree, var, free, lam, app}
use Rattle.ol_term.specs.BinderNames.{binder_name}

-- Before a binder stands `\`, or a space where it is gathered with the binder round it.
abbrev pub before_binder : Bool → List ℕ
before_binder false = 92 ∷ []
before_binder true = 32 ∷ []

-- Before a term that is no abstraction stand `.` and a space, where it ends such binders.
abbrev pub before_body : Bool → List ℕ
before_body false = []
before_body true = 46 ∷ (32 ∷ [])

abbrev pub is_abstraction : Tree → Bool
is_abstraction (var k) = false
is_abstraction (free k) = false
is_abstraction (lam t) = true
is_abstraction (app f a) = false

abbrev pub is_variable : Tree → Bool
is_variable (var k) = true
is_variable (free k) = true
is_variable (lam t) = false
is_variable (app f a) = false

abbrev pub in_brackets : List ℕ → List ℕ
in_brackets text = 40 ∷ (text ++ 41 ∷ [])

-- A term with t binders round it, which is the body of the innermost one where `body` is true. A function that is an
-- abstraction and an argument that is no variable stand in brackets.
abbrev pub term_text_under : List (List ℕ) → Bool → ℕ → Tree → List ℕ
term_text_under names body t (var k) = before_body body ++ binder_name names (t - (k + 1))
term_text_under names body t (free k) = before_body body ++ slice_index_or names k []
term_text_under names body t (lam u) = before_binder body ++
    (binder_name names t ++ term_text_under names true (t + 1) u)
term_text_under names body t (app f a) =
    before_body body
    ++ ((if is_abstraction f then in_brackets (term_text_under names false t f) else term_text_under names false t f)
    ++ 32 ∷ (if is_variable a then term_text_under names false t a else in_brackets (term_text_under names false t a)))

-- a whole term, with no binder round it
abbrev pub text_of_term : List (List ℕ) → Tree → List ℕ
text_of_term names t = term_text_under names false 0 t
