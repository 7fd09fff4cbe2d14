-- Private: the view of all seats while the table is made.
use Rattle.std.specs.Prelude.{◌≡◌, ℕ, ◌<◌, ◌≤◌, List, []}
use Rattle.atomic_table.specs.Table.{opening}
use Rattle.ol_wire.specs.declared.layout.Parts.{Parts}
use Rattle.ol_wire.specs.declared.plan.Plan.{Plan}
use Rattle.ol_wire.specs.declared.view.View.{View}
use Rattle.ol_wire.specs.Views.{fresh}
use Rattle.ol_net.specs.Graph.{Graph}
use Rattle.ol_wire.specs.Credit.{IsRuled}

-- a view that has done nothing, of a seat that holds all
abbrev pub opener : Plan → View
opener p = fresh p.parts p.start.value p.seats p.seats

-- the words of a net with these parts meet the rule, whatever number of seats up to 64 is made over them
abbrev pub Opens : Graph → Parts → List ℕ → Type 0
Opens net z words = (p : Plan) → p.parts ≡ z → p.start.value ≡ net → 0 < p.seats → p.seats ≤ 64
    → IsRuled p (opening words [] (opener p))
