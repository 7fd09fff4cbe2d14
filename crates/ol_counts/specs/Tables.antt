-- The text of a table.
use Rattle.std.specs.Prelude.{ℕ, ◌-◌, Bool, true, false, if◌then◌else◌, List, [], ◌∷◌, ◌++◌, length, take, codes, Option, None, Some}
use Rattle.std.specs.Fmt.{decimal}
use Rattle.std.specs.List.{flat_map, list_all, list_any}
use Rattle.ol_rules.specs.declared.journal.Counts.{Counts}
use Rattle.ol_counts.specs.Sums.{interactions}
use Rattle.ol_subjects.specs.declared.answers.End.{End}
use Rattle.ol_subjects.specs.declared.answers.End.TheVariants.{Yes, No}
use Rattle.ol_counts.specs.declared.tables.Column.{Column}
use Rattle.ol_counts.specs.declared.tables.Row.{Row}
use Rattle.ol_counts.specs.declared.tables.Row.TheVariants as row
use Rattle.ol_counts.specs.declared.tallies.Readback.{Readback}
use Rattle.ol_counts.specs.declared.tallies.Numbers.{Numbers}
use Rattle.ol_counts.specs.declared.tallies.Numbers.TheVariants.{Net, Steps, Nothing}
use Rattle.ol_counts.specs.Ways.{is_of_net, title}

-- ---- the numbers

abbrev pub places_in : Option Readback → Option ℕ
places_in (Some read) = Some read.places
places_in None = None

abbrev pub crossings_in : Option Readback → Option ℕ
crossings_in (Some read) = Some read.crossings
crossings_in None = None

-- the number that a reduction of a net has in a row, if it is known
abbrev pub in_row : Row → Counts → (stuck : ℕ) → Option Readback → Option ℕ
in_row row.Beta c stuck read = Some c.beta
in_row row.Fan c stuck read = Some c.fan
in_row row.Croissant c stuck read = Some c.croissant
in_row row.Bracket c stuck read = Some c.bracket
in_row row.CrossFan c stuck read = Some c.cross_fan
in_row row.CrossCroissant c stuck read = Some c.cross_croissant
in_row row.CrossBracket c stuck read = Some c.cross_bracket
in_row row.Erase c stuck read = Some c.erase
in_row row.Interactions c stuck read = Some (interactions c)
in_row row.Stuck c stuck read = Some stuck
in_row row.Places c stuck read = places_in read
in_row row.Crossings c stuck read = crossings_in read

-- beta steps alone
abbrev pub steps_in : Row → ℕ → Option ℕ
steps_in row.Beta n = Some n
steps_in _ n = None

-- the number of a row, if there is any
abbrev pub number_in : Row → Numbers → Option ℕ
number_in r (Net counts stuck read) = in_row r counts stuck read
number_in r (Steps n) = steps_in r n
number_in r Nothing = None

-- ---- the text

-- what follows the numbers of a way: a plus if it was cut
abbrev pub sign : (ended : Bool) → List ℕ
sign true = []
sign false = codes "+"

-- a number with its sign, or a hyphen if there is none
abbrev pub digits : Option ℕ → (ended : Bool) → List ℕ
digits (Some n) ended = decimal n ++ sign ended
digits None ended = codes "-"

-- a text at the right end of twelve columns
abbrev pub at_right : List ℕ → List ℕ
at_right text = take (12 - length text) (codes "            ") ++ text

abbrev pub head : Column → List ℕ
head c = at_right (title c.way)

-- what a column has in a row
abbrev pub cell : Row → Column → List ℕ
cell r c = at_right (digits (number_in r c.tally.numbers) c.tally.ended)

abbrev pub row_name : Row → List ℕ
row_name row.Beta = codes "beta            "
row_name row.Fan = codes "fan             "
row_name row.Croissant = codes "croissant       "
row_name row.Bracket = codes "bracket         "
row_name row.CrossFan = codes "cross-fan       "
row_name row.CrossCroissant = codes "cross-croissant "
row_name row.CrossBracket = codes "cross-bracket   "
row_name row.Erase = codes "erase           "
row_name row.Interactions = codes "interactions    "
row_name row.Stuck = codes "stuck           "
row_name row.Places = codes "places          "
row_name row.Crossings = codes "crossings       "

abbrev pub row_text : List Column → Row → List ℕ
row_text columns r = row_name r ++ flat_map (cell r) columns ++ codes "\n"

-- the rows that only runs of a net have
abbrev pub net_rows : List Row
net_rows = row.Fan ∷ row.Croissant ∷ row.Bracket ∷ row.CrossFan ∷ row.CrossCroissant
    ∷ row.CrossBracket ∷ row.Erase ∷ row.Interactions ∷ row.Stuck ∷ row.Places
    ∷ row.Crossings ∷ []

-- a run of a net is shown
abbrev pub has_net : List Column → Bool
has_net columns = list_any (λ c. is_of_net c.way) columns

abbrev pub table_text : List Column → List ℕ
table_text columns =
    codes "                " ++ flat_map head columns ++ codes "\n"
    ++ row_text columns row.Beta
    ++ (if has_net columns then flat_map (row_text columns) net_rows else [])

-- ---- the end

abbrev pub have_ended : List Column → Bool
have_ended columns = list_all (λ c. c.tally.ended) columns

-- Yes if all have ended
abbrev pub end_of : List Column → End
end_of columns = if have_ended columns then Yes else No
