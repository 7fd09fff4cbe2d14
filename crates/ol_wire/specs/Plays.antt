-- What each kind of step tells: of the step, the seat before, the word found and the seat after.
use Rattle.std.specs.Prelude.{ℕ, suc, ◌+◌, ◌-◌, ◌*◌, ◌/◌, ◌%◌, nat_eq, nat_lt, if◌then◌else◌, [], ◌∷◌, ◌++◌, ◌&&◌, ◌||◌}
use Rattle.ol_wire.specs.declared.layout.Parts.{Parts}
use Rattle.ol_wire.specs.declared.view.View.{View}
use Rattle.ol_wire.specs.Layout.{block, start_cell}
use Rattle.ol_wire.specs.Events.{Event, event_of}

-- the number of the cell with that left word
abbrev pub cell_at : Parts → ℕ → ℕ
cell_at z w =
    if nat_lt w (block z 0) then (w - start_cell z 0) / 2
    else z.cells + 4 * ((w - block z 0) / 22) + ((w - block z 0) % 22 - 14) / 2

-- one cell more, where the seat holds all seats and the cell is the next to be swept
abbrev pub swept_on : View → ℕ → ℕ
swept_on v c = if nat_eq v.holds v.seats && nat_eq c v.swept then suc v.swept else v.swept

-- the event of the pair in hand, which the view claimed last
abbrev pub event_in : View → Event
event_in v = event_of v.last.0 v.last.1

-- what one seat holds and has done goes to another
abbrev pub joined : View → View → View
joined v w = record v {
  claimed = v.claimed ++ w.claimed;
  published = v.published ++ w.published;
  made = v.made ++ w.made;
  over = v.over || w.over;
  holds = v.holds + w.holds;
  dead = v.dead ++ w.dead;
  swept = 0;
  owed = v.owed + w.owed;
  settled = v.settled || w.settled;
  looked = v.looked ++ w.looked;
}

-- a look at the live word, which read n
abbrev pub live_read : View → ℕ → View
live_read v n = record v { looked = v.looked ++ n ∷ []; settled = v.settled || nat_eq n 0 }
