-- What holds of texts of terms with names, and of carets.
use Rattle.std.specs.Prelude.{◌≡◌, ℕ, false, List, [], ◌∷◌, ◌++◌, length, replicate, codes}
use Rattle.ol_term.specs.Trees.{Tree}
use Rattle.ol_term.specs.Texts.{text_of_term}
use Rattle.ol_parse.specs.Grammar.{Named, lam, app}
use Rattle.ol_steps.specs.NamedTexts.{named_text}
use Rattle.ol_steps.specs.Marks.{part, replaced, mark_line}
use Rattle.ol_steps.specs.Lettered.{lettered}

-- a tree with the names that it is printed with has its printed text
abbrev pub LetteredIsText : Type 0
LetteredIsText = (names : List (List ℕ)) (t : Tree) → named_text false (lettered names 0 t) ≡ text_of_term names t

-- An address leads to an application.
pub data LeadsToApplication : Named → List ℕ → Type 0 where
  here : {f a : Named} → LeadsToApplication (app f a) []
  into_body : {x : List ℕ} {t : Named} {at : List ℕ} → LeadsToApplication t at → LeadsToApplication (lam x t) (0 ∷ at)
  into_function : {f a : Named} {at : List ℕ} → LeadsToApplication f at → LeadsToApplication (app f a) (1 ∷ at)
  into_argument : {f a : Named} {at : List ℕ} → LeadsToApplication a at → LeadsToApplication (app f a) (2 ∷ at)

-- Whatever application stands at an address, its text stands in the term's text behind the same bytes and before the
-- same bytes. The line below has a space for each byte before it, and a caret for each byte of the text of what is at
-- the address, brackets round it left out.
pub record IsMarked (t : Named) (at : List ℕ) : Type 0 where
  pub before : List ℕ
  pub after : List ℕ
  pub each : (f a : Named) → named_text false (replaced t at (app f a)) ≡ before ++ (named_text false (app f a) ++ after)
  pub itself : named_text false t ≡ before ++ (named_text false (part t at) ++ after)
  pub carets : mark_line t at
      ≡ replicate (length before) 32 ++ replicate (length (named_text false (part t at))) 94 ++ codes "\n"

abbrev pub MarkIsUnder : Type 0
MarkIsUnder = (t : Named) (at : List ℕ) → LeadsToApplication t at → IsMarked t at
