-- The lines of a walk: values and contexts as docs/learn/BY_HAND.md writes them, and crossings.
use Rattle.std.specs.Prelude.{◌≡◌, ◌≢◌, ℕ, suc, List, [], ◌∷◌, ◌++◌, length, codes}
use Rattle.std.specs.Fmt.{decimal}
use Rattle.ol_net.specs.declared.parts.Kind.{Kind}
use Rattle.ol_net.specs.declared.parts.Port.TheVariants.{Free, Of}
use Rattle.ol_net.specs.PartTexts.{kind_text, index_text, port_text}
use Rattle.ol_context.specs.Contexts.{Level, empty, o, star, pair, Context, levels}

-- `empty`, `o.v`, `*.v` or `<v,w>`
abbrev pub level_text : Level → List ℕ
level_text empty = codes "empty"
level_text (o v) = codes "o." ++ level_text v
level_text (star v) = codes "*." ++ level_text v
level_text (pair v w) = codes "<" ++ (level_text v ++ (codes "," ++ (level_text w ++ codes ">")))

-- levels behind others
abbrev pub later_levels : List Level → List ℕ
later_levels [] = []
later_levels (v ∷ vs) = codes ", " ++ (level_text v ++ later_levels vs)

-- levels with a comma and a space between two, and `empty` where there are none
abbrev pub levels_text : List Level → List ℕ
levels_text [] = codes "empty"
levels_text (v ∷ vs) = level_text v ++ later_levels vs

-- The text of a context: its levels up to the last that isn't empty.
pub record IsWritten (c : Context) (text : List ℕ) : Type 0 where
  pub written : List Level
  pub is : c ≡ levels written
  pub full : (k : ℕ) → suc k ≡ length written → c k ≢ empty
  pub text_is : text ≡ levels_text written

-- the port that is entered, and kind and index of its node
abbrev pub entered_text : ℕ → ℕ → Kind → ℕ → List ℕ
entered_text x s k i = port_text (Of (record { 0 = x }) s)
    ++ (codes " " ++ (kind_text k ++ (codes " " ++ (index_text k i ++ codes " "))))

-- a crossing, with the port by which the node is left and the text of the context after it
abbrev pub crossing_line : ℕ → ℕ → Kind → ℕ → ℕ → List ℕ → List ℕ
crossing_line x s k i t context = entered_text x s k i
    ++ (port_text (Of (record { 0 = x }) t) ++ (codes " " ++ (context ++ codes "\n")))

-- a crossing that is not defined
abbrev pub barred_line : ℕ → ℕ → Kind → ℕ → List ℕ
barred_line x s k i = entered_text x s k i ++ codes "undefined\n"

-- the end of a walk at a free port
abbrev pub gone_line : ℕ → List ℕ
gone_line q = codes "out " ++ (port_text (Free q) ++ codes "\n")

-- crossings are left that have no lines
abbrev pub more_line : List ℕ
more_line = codes "...\n"

-- a question: for how many abstractions it asks, its port and the text of its context
abbrev pub question_line : ℕ → ℕ → List ℕ → List ℕ
question_line n p context = codes "asked " ++ (decimal n
    ++ (codes " " ++ (port_text (Free p) ++ (codes " " ++ (context ++ codes "\n")))))
