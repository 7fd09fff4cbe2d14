-- Where the text of a subterm stands in the text of its term, and the carets under it.
use Rattle.std.specs.Prelude.{ℕ, ◌==◌, Bool, true, false, not, if◌then◌else◌, List, ◌∷◌, ◌++◌, length, replicate, codes}
use Rattle.ol_term.specs.Texts.{before_binder, before_body}
use Rattle.ol_parse.specs.Grammar.{Named, lam, app}
use Rattle.ol_steps.specs.NamedTexts.{is_abstraction, is_name, left_bracket, bracketed, named_text}

-- The subterm at an address. Of its moves, 0 leads into the body of an abstraction, 1 into the function of an
-- application, and 2 into its argument.
abbrev pub part : Named → List ℕ → Named
part (lam x t) (m ∷ at) = part t at
part (app f a) (m ∷ at) = if m == 1 then part f at else part a at
part t at = t

-- a term with another one in place of the subterm at an address
abbrev pub replaced : Named → List ℕ → Named → Named
replaced (lam x t) (m ∷ at) u = lam x (replaced t at u)
replaced (app f a) (m ∷ at) u = if m == 1 then app (replaced f at u) a else app f (replaced a at u)
replaced t at u = u

-- what is printed before an application at an address
abbrev pub text_before : Bool → Named → List ℕ → List ℕ
text_before body (lam x t) (m ∷ at) = before_binder body ++ (x ++ text_before true t at)
text_before body (app f a) (m ∷ at) = before_body body
    ++ (if m == 1 then left_bracket (is_abstraction f) ++ text_before false f at
    else bracketed (is_abstraction f) (named_text false f)
    ++ (32 ∷ (left_bracket (not (is_name a)) ++ text_before false a at)))
text_before body t at = before_body body

-- the line below a term's line: a space for each byte before the subterm, and a caret for each byte of its text
abbrev pub mark_line : Named → List ℕ → List ℕ
mark_line t at = replicate (length (text_before false t at)) 32
    ++ replicate (length (named_text false (part t at))) 94 ++ codes "\n"
