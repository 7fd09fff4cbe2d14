-- Views that have done nothing, and what one of them is.
use Rattle.std.specs.Prelude.{◌≡◌, ℕ, [], false, if◌then◌else◌}
use Rattle.ol_net.specs.Graph.{Graph}
use Rattle.ol_wire.specs.declared.layout.Parts.{Parts}
use Rattle.ol_wire.specs.declared.view.View.{View}

abbrev pub fresh : Parts → Graph → ℕ → ℕ → View
fresh z net seats holds = record {
  claimed = [];
  published = [];
  made = [];
  last = (0, 0);
  cell = 0;
  over = false;
  holds = holds;
  taken = [];
  known = [];
  due = [];
  pending = [];
  dead = [];
  swept = 0;
  owed = 0;
  settled = false;
  looked = [];
  parts = z;
  seats = seats;
  start = net;
}

-- there is nothing in it: its seat was joined to another
abbrev pub IsSpentView : View → Type 0
IsSpentView v = v ≡ fresh v.parts v.start v.seats 0

-- the seats of a view that has read a ticket at or above the fuel
abbrev pub past_fuel : View → ℕ
past_fuel v = if v.over then v.holds else 0
