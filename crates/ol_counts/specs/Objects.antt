-- The columns as a JSON object: a member for each way that is shown.
use Rattle.std.specs.Prelude.{ℕ, Bool, true, false, List, [], ◌∷◌, ◌++◌, codes, Option, Some, None}
use Rattle.std.specs.Fmt.{decimal}
use Rattle.std.specs.List.{flat_map}
use Rattle.ol_rules.specs.declared.journal.Counts.{Counts}
use Rattle.ol_subjects.specs.declared.layouts.Layout.{Layout}
use Rattle.ol_subjects.specs.declared.layouts.Layout.TheVariants.{Lines, Object}
use Rattle.ol_counts.specs.declared.tables.Column.{Column}
use Rattle.ol_counts.specs.declared.tables.Row.{Row}
use Rattle.ol_counts.specs.declared.tables.Row.TheVariants as row
use Rattle.ol_counts.specs.declared.tallies.Readback.{Readback}
use Rattle.ol_counts.specs.declared.tallies.Numbers.{Numbers}
use Rattle.ol_counts.specs.declared.tallies.Numbers.TheVariants.{Net, Steps, Nothing}
use Rattle.ol_counts.specs.Tables.{in_row, net_rows, table_text}
use Rattle.ol_counts.specs.Ways.{title}

-- a row's name as that of a member
abbrev pub key : Row → List ℕ
key row.Beta = codes "\"beta\":"
key row.Fan = codes "\"fan\":"
key row.Croissant = codes "\"croissant\":"
key row.Bracket = codes "\"bracket\":"
key row.CrossFan = codes "\"cross-fan\":"
key row.CrossCroissant = codes "\"cross-croissant\":"
key row.CrossBracket = codes "\"cross-bracket\":"
key row.Erase = codes "\"erase\":"
key row.Interactions = codes "\"interactions\":"
key row.Stuck = codes "\"stuck\":"
key row.Places = codes "\"places\":"
key row.Crossings = codes "\"crossings\":"

-- a row with its number
abbrev pub number_member : Row → ℕ → List ℕ
number_member r n = key r ++ decimal n

-- the same after a comma, or nothing if there is no number
abbrev pub known_member : Row → Option ℕ → List ℕ
known_member r (Some n) = codes "," ++ number_member r n
known_member r None = []

-- the rows that only runs of a net have
abbrev pub net_member : Counts → (stuck : ℕ) → Option Readback → Row → List ℕ
net_member counts stuck read r = known_member r (in_row r counts stuck read)

abbrev pub net_members : Counts → (stuck : ℕ) → Option Readback → List ℕ
net_members counts stuck read = flat_map (net_member counts stuck read) net_rows

-- whether a way has ended, as the last member of its object
abbrev pub ended_member : Bool → List ℕ
ended_member true = codes ",\"ended\":true}"
ended_member false = codes ",\"ended\":false}"

-- the numbers of a way, and whether it has ended; null if the table has hyphens alone
abbrev pub tally_object : Numbers → (ended : Bool) → List ℕ
tally_object (Net counts stuck read) ended =
    codes "{" ++ number_member row.Beta counts.beta ++ net_members counts stuck read ++ ended_member ended
tally_object (Steps n) ended = codes "{" ++ number_member row.Beta n ++ ended_member ended
tally_object Nothing ended = codes "null"

-- a way with what it comes to
abbrev pub column_member : Column → List ℕ
column_member c = codes "\"" ++ title c.way ++ codes "\":" ++ tally_object c.tally.numbers c.tally.ended

-- the ways, with this before the first, and a comma between each two
abbrev pub members_after : List ℕ → List Column → List ℕ
members_after before [] = []
members_after before (c ∷ cs) = before ++ column_member c ++ members_after (codes ",") cs

abbrev pub object_text : List Column → List ℕ
object_text columns = codes "{\"columns\":{" ++ members_after [] columns ++ codes "}}\n"

-- the text in this layout
abbrev pub text_in : Layout → List Column → List ℕ
text_in Lines columns = table_text columns
text_in Object columns = object_text columns
