-- Private: views of seats that hold nothing.
use Rattle.std.specs.Prelude.{◌≡◌, []}
use Rattle.ol_wire.specs.declared.view.View.{View}

-- it holds no pair, no word and no link, and owes nothing
abbrev pub IsIdle : View → Type 0
IsIdle v = (v.taken ≡ []) × (v.due ≡ []) × (v.pending ≡ []) × (v.owed ≡ 0)
