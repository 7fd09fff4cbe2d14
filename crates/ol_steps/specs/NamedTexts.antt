-- The printed text of a term with names.
use Rattle.std.specs.Prelude.{ℕ, Bool, true, false, not, if◌then◌else◌, List, [], ◌∷◌, ◌++◌}
use Rattle.ol_term.specs.Texts.{before_binder, before_body}
use Rattle.ol_parse.specs.Grammar.{Named, var, lam, app}

abbrev pub is_abstraction : Named → Bool
is_abstraction (lam x t) = true
is_abstraction _ = false

abbrev pub is_name : Named → Bool
is_name (var x) = true
is_name _ = false

abbrev pub left_bracket : Bool → List ℕ
left_bracket needed = if needed then 40 ∷ [] else []

abbrev pub right_bracket : Bool → List ℕ
right_bracket needed = if needed then 41 ∷ [] else []

-- a text in brackets, where they are needed
abbrev pub bracketed : Bool → List ℕ → List ℕ
bracketed needed text = left_bracket needed ++ (text ++ right_bracket needed)

-- A term, which is the body of a binder just before it where `body` is true. Binders are gathered after one `\`. A
-- function that is an abstraction and an argument that is no name stand in brackets.
abbrev pub named_text : Bool → Named → List ℕ
named_text body (var x) = before_body body ++ x
named_text body (lam x t) = before_binder body ++ (x ++ named_text true t)
named_text body (app f a) = before_body body
    ++ (bracketed (is_abstraction f) (named_text false f) ++ (32 ∷ bracketed (not (is_name a)) (named_text false a)))
