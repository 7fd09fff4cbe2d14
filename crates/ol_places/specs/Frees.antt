-- The free names of a text, each with its line and its column.
use Rattle.std.specs.Prelude.{◌≡◌, ℕ, ◌+◌, ◌≤◌, ◌==◌, Bool, if◌then◌else◌, List, [], ◌∷◌, ◌++◌, codes}
use Rattle.std.specs.Fmt.{decimal}
use Rattle.ol_limits.specs.Limits.{most_depth}
use Rattle.ol_term.specs.Trees.{Tree, depth}
use Rattle.ol_parse.specs.Grammar.{Named, Token}
use Rattle.ol_parse.specs.Texts.{Spells, spells_none, spells_one, IsText, IsRefusedAt}
use Rattle.ol_parse.specs.Parsed.{IsFileOf, IsTooDeep}
use Rattle.ol_subjects.specs.Limited.{depth_words}
use Rattle.ol_subjects.specs.declared.answers.End.{End}
use Rattle.ol_subjects.specs.declared.answers.End.TheVariants.{Yes, Refused}
use Rattle.ol_places.specs.declared.columns.Place.{Place}
use Rattle.ol_places.specs.Occurrences.{free_in_term}

-- where a text begins
abbrev pub first_place : Place
first_place = record { line = 1; column = 1 }

-- the place behind a byte: behind a line feed the next line begins, and each other byte is one column
abbrev pub behind : Place → ℕ → Place
behind p b = record {
  line = if b == 10 then p.line + 1 else p.line;
  column = if b == 10 then 1 else p.column + 1;
}

-- the place behind some bytes
abbrev pub behind_all : Place → List ℕ → Place
behind_all p [] = p
behind_all p (b ∷ bs) = behind_all (behind p b) bs

-- the line of a free name
abbrev pub name_line : List ℕ → Place → List ℕ
name_line x p = x ++ codes " line " ++ decimal p.line ++ codes " column " ++ decimal p.column ++ codes "\n"

abbrev pub line_if : Bool → List ℕ → Place → List ℕ
line_if free x p = if free then name_line x p else []

-- the lines of those tokens of a text that are free names; the text begins at a place
abbrev pub lines_of : Place → {after : Bool} {tokens : List Token} {bytes : List ℕ} → Spells after tokens bytes →
    List Bool → List ℕ
lines_of p (spells_none gap) frees = []
lines_of p (spells_one gap apart token rest) [] = []
lines_of p (spells_one {g = g} {a = a} gap apart token rest) (free ∷ frees) =
    let here = behind_all p g in
    line_if free a here ++ lines_of (behind_all here a) rest frees

-- the lines of the free names of a text, in the order of the text
abbrev pub free_lines : {bytes : List ℕ} {t : Named} → IsText bytes t → List ℕ
free_lines text = lines_of first_place text.spelled (free_in_term [] text.term)

-- however the bytes are read as a term, these are the lines of its free names
abbrev pub AreFreeLines : List ℕ → List ℕ → Type 0
AreFreeLines bytes lines = (t : Named) (text : IsText bytes t) → lines ≡ free_lines text

-- a closed term has no free name
abbrev pub or_closed : List ℕ → List ℕ
or_closed [] = codes "closed\n"
or_closed (b ∷ bs) = b ∷ bs

-- The answer to which names stand free in a text, and where. A text is refused if it isn't in the grammar, or if its term
-- is too deep for `ol`.
pub data IsFree (bytes : List ℕ) : List ℕ → End → Type 0 where
  syntax_at : {at : ℕ} → IsRefusedAt bytes at →
      IsFree bytes (codes "syntax at byte " ++ decimal at ++ codes "\n") Refused
  deep : {d : ℕ} → IsTooDeep bytes d → IsFree bytes (depth_words ++ codes "\n") Refused
  told : {t : Tree} {names : List (List ℕ)} {lines : List ℕ} → IsFileOf bytes t names → depth t ≤ most_depth →
      AreFreeLines bytes lines → IsFree bytes (or_closed lines) Yes

-- bytes have one answer
abbrev pub OneAnswer : Type 0
OneAnswer = (bytes text other : List ℕ) (e f : End) → IsFree bytes text e → IsFree bytes other f → (text ≡ other) × (e ≡ f)
