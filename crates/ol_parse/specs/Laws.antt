-- What holds of texts.
use Rattle.std.specs.Prelude.{◌≡◌, ◌≤◌, ◌+◌, List, ℕ, length}
use Rattle.ol_parse.specs.Grammar.{Named, var, lam, app}
use Rattle.ol_parse.specs.Texts.{IsText, IsDeadPlace}

-- a text has one term
abbrev pub OneTerm : Type 0
OneTerm = (bytes : List ℕ) (t u : Named) → IsText bytes t → IsText bytes u → t ≡ u

-- bytes have at most one dead place
abbrev pub OneDeadPlace : Type 0
OneDeadPlace = (bytes : List ℕ) (m n : ℕ) → IsDeadPlace bytes m → IsDeadPlace bytes n → m ≡ n

-- how many variables occur
abbrev pub leaves : Named → ℕ
leaves (var x) = 1
leaves (lam x t) = leaves t
leaves (app f t) = leaves f + leaves t

-- a term has no more variables than its text has bytes
abbrev pub FewLeaves : Type 0
FewLeaves = (bytes : List ℕ) (t : Named) → IsText bytes t → leaves t ≤ length bytes
