-- Ways of reducing a term, and which of them are shown.
use Rattle.std.specs.Prelude.{ℕ, Bool, true, false, List, [], ◌∷◌, codes}
use Rattle.std.specs.List.{filter}
use Rattle.ol_counts.specs.declared.ways.Columns.{Columns}
use Rattle.ol_counts.specs.declared.ways.Way.{Way}
use Rattle.ol_counts.specs.declared.ways.Way.TheVariants.{Run, Demand, Leftmost, Applicative, Need, Families}

-- all ways, in the order of their columns
abbrev pub all_ways : List Way
all_ways = Run ∷ Demand ∷ Leftmost ∷ Applicative ∷ Need ∷ Families ∷ []

-- whether a way has a column
abbrev pub is_shown : Columns → Way → Bool
is_shown columns Run = columns.run
is_shown columns Demand = columns.demand
is_shown columns Leftmost = columns.leftmost
is_shown columns Applicative = columns.applicative
is_shown columns Need = columns.need
is_shown columns Families = columns.families

-- the ways that are shown
abbrev pub shown : Columns → List Way
shown columns = filter (is_shown columns) all_ways

-- whether a way rewrites a net
abbrev pub is_of_net : Way → Bool
is_of_net Run = true
is_of_net Demand = true
is_of_net Leftmost = false
is_of_net Applicative = false
is_of_net Need = false
is_of_net Families = false

abbrev pub title : Way → List ℕ
title Run = codes "run"
title Demand = codes "demand"
title Leftmost = codes "leftmost"
title Applicative = codes "applicative"
title Need = codes "need"
title Families = codes "families"
