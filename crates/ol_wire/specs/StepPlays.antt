-- Private: what each step on a word tells the seat that makes it.
use Rattle.std.specs.Prelude.{◌≡◌, ◌≢◌, ℕ, suc, ◌+◌, ◌-◌, ◌<◌, ◌≤◌, nat_eq, if◌then◌else◌, List, []}
use Rattle.std.specs.Prelude.{◌∷◌, ◌++◌, Bool, true, false, Option, Some, None, ◌⊎◌}
use Rattle.atomic_table.specs.Table.{Me, Step}
use Rattle.ol_law_edges.specs.Edges.{IsIn}
use Rattle.ol_net.specs.declared.parts.Rule.{Rule}
use Rattle.ol_net.specs.Parts.{arity}
use Rattle.ol_wire.specs.declared.layout.Parts.{Parts}
use Rattle.ol_wire.specs.declared.plan.Plan.{Plan}
use Rattle.ol_wire.specs.declared.view.Link.{Link}
use Rattle.ol_wire.specs.declared.view.View.{View}
use Rattle.ol_wire.specs.References.{IsNodeRef, IsWireRef, kind_in, index_in, place_in, node_ref}
use Rattle.ol_wire.specs.Layout.{block, table_size}
use Rattle.ol_wire.specs.Events.{rule_between, entry_of}
use Rattle.ol_wire.specs.Blocks.{block_words}
use Rattle.ol_wire.specs.LinkLists.{to_write, links_of, joins_in}
use Rattle.ol_wire.specs.Rule.{KnowsPlan}
use Rattle.ol_wire.specs.Credit.{active_in}
use Rattle.ol_wire.specs.Moments.{Moment, MomentEmpty}
use Rattle.ol_wire.specs.Views.{fresh}
use Rattle.ol_wire.specs.Plays.{cell_at, event_in, swept_on}

abbrev pub Seated : Type 0
Seated = Me (Unit {0}) View

abbrev pub Play : Type 1
Play = Step (Unit {0}) → Seated → ℕ → Seated → Type 0

abbrev pub is_stuck : Option Rule → Option Rule → Bool
is_stuck None None = true
is_stuck f g = false

abbrev pub rest : {A : Type 0} → List A → List A
rest [] = []
rest (x ∷ xs) = xs

-- a claim of the cell with left word w, where x stood
abbrev pub missing : View → ℕ → View
missing v w = record v {
  claimed = v.claimed ++ cell_at v.parts w ∷ [];
  last = (0, 0);
  cell = cell_at v.parts w;
  swept = swept_on v (cell_at v.parts w);
}

abbrev pub holding : View → ℕ → ℕ → View
holding v w x = record v {
  claimed = v.claimed ++ cell_at v.parts w ∷ [];
  last = (x, 0);
  cell = cell_at v.parts w;
  taken = (w, x) ∷ v.taken;
}

-- a look at the right word of the cell that was claimed, and at a field
abbrev pub paired : View → ℕ → ℕ → View
paired v w y = record v { last = (v.last.0, y); known = (w, y) ∷ v.known }

abbrev pub knowing : View → ℕ → ℕ → View
knowing v w y = record v { known = (w, y) ∷ v.known }

-- what stands in a word that a view knows
abbrev pub known_at : List (ℕ × ℕ) → ℕ → ℕ
known_at [] w = 0
known_at (k ∷ ks) w = if nat_eq k.0 w then k.1 else known_at ks w

-- the left word of the cell whose pair is in hand
abbrev pub cell_in_hand : List (ℕ × ℕ) → ℕ
cell_in_hand [] = 0
cell_in_hand (x ∷ xs) = x.0

-- The seat has claimed the pair of the cell with left word w, has looked at its right word and at
-- the fields of its two nodes, and the pair is active: this is what it needs before it draws a
-- ticket.
pub record IsLookedUp (v : View) (w : ℕ) : Type 0 where
  pub held : 0 < v.holds
  pub under : v.over ≡ false
  pub taken : v.taken ≡ (w, v.last.0) ∷ []
  pub nothing_due : v.due ≡ []
  pub nothing_pending : v.pending ≡ []
  pub right : IsIn (suc w, v.last.1) v.known
  pub rule : rule_between (event_in v).f (event_in v).g ≡ Some (event_in v).rule
  -- the links that the ticket will leave are owed
  pub owed : v.owed ≡ joins_in (event_in v)
  pub f_fields : (s : ℕ) → s < arity (kind_in (event_in v).f)
      → IsIn (place_in (event_in v).f + s, known_at v.known (place_in (event_in v).f + s)) v.known
  pub g_fields : (s : ℕ) → s < arity (kind_in (event_in v).g)
      → IsIn (place_in (event_in v).g + s, known_at v.known (place_in (event_in v).g + s)) v.known

-- n pairs more are owed, or n fewer
abbrev pub owing : View → ℕ → View
owing v n = record v { owed = v.owed + n }

abbrev pub repaid : View → ℕ → View
repaid v n = record v { owed = v.owed - n }

-- a ticket below the fuel
abbrev pub ticketed : View → ℕ → View
ticketed v t = record v {
  taken = rest v.taken;
  known = [];
  swept = swept_on v (cell_at v.parts (cell_in_hand v.taken));
  owed = suc v.owed;
  made = v.made ++ (t, entry_of v.parts (event_in v)) ∷ [];
  due = to_write (block v.parts t) (block_words v.parts (event_in v) t);
  pending = links_of v.parts (event_in v) t (λ s. known_at v.known (place_in (event_in v).f + s))
      (λ s. known_at v.known (place_in (event_in v).g + s));
}

-- and one at or above it
abbrev pub late : View → View
late v = record v { over = true }

abbrev pub wrote : View → View
wrote v = record v { due = rest v.due }

-- the pair in hand is put back: it is stuck, or the fuel is used up
abbrev pub returned : View → View
returned v = record v {
  taken = rest v.taken;
  known = [];
  swept = if is_stuck (rule_between v.last.0 v.last.1)
      (rule_between v.last.1 v.last.0) then swept_on v (cell_at v.parts (cell_in_hand v.taken)) else v.swept;
}

-- An exchange with the word of a wire or of a free port for the first pending link: the word was
-- empty, or c stood in word w, where b was put in.
abbrev pub linked : View → View
linked v = record v { pending = rest v.pending }

abbrev pub relinked : List Link → ℕ → ℕ → List Link
relinked [] b c = []
relinked (l ∷ ls) b c = record l { one = b; two = c } ∷ ls

abbrev pub moved : View → ℕ → ℕ → ℕ → View
moved v w b c = record v { pending = relinked v.pending b c; dead = v.dead ++ w ∷ [] }

-- whether the pair of the first link is active, as a number
abbrev pub first_active : List Link → ℕ
first_active [] = 0
first_active (l ∷ ls) = active_in l.one l.two

-- the left word of the cell of the first pending link is written, after its right word; where its
-- pair is active it isn't owed any more
abbrev pub publishing : View → ℕ → View
publishing v w = record v {
  pending = rest v.pending;
  known = [];
  published = v.published ++ cell_at v.parts w ∷ [];
  owed = v.owed - first_active v.pending;
}

-- one seat is cut off
abbrev pub one_seat : View → View
one_seat v = fresh v.parts v.start v.seats 1

abbrev pub fewer : View → View
fewer v = record v { holds = v.holds - 1 }

-- a reference of a node whose fields are words of the table
abbrev pub IsNodeOf : Parts → ℕ → Type 0
IsNodeOf z r = IsNodeRef r × (r ≡ node_ref (kind_in r) (index_in r) (place_in r)) × (index_in r ≤ 1000000 + z.fuel)
    × (0 < place_in r) × (place_in r + 1 < table_size z)

-- a reference of a node, or one of a wire or a free port by a word of the table
abbrev pub IsRefOf : Parts → ℕ → Type 0
IsRefOf z r = IsNodeOf z r ⊎ (IsWireRef r × (0 < place_in r) × (place_in r < table_size z))

-- The cell was empty, at a moment, or a node of its pair stood there. A step can't read the plan,
-- so that the moment is told for each plan that the view knows, and there is one.
abbrev pub claims : Play
claims s m r n = (n.1 ≡ m.1) × (r ≡ 0 →
    (n.0 ≡ missing m.0 s.word) × ((p : Plan) → KnowsPlan p m.0 → MomentEmpty p s.word n.0))
    × (r ≢ 0 → (n.0 ≡ holding m.0 s.word r) × IsNodeOf m.0.parts r)

-- of the right word of the cell whose pair is in hand
abbrev pub reads_right : Play
reads_right s m r n = (n.1 ≡ m.1) × (s.word ≡ suc (cell_in_hand m.0.taken)) × (n.0 ≡ paired m.0 s.word r)
    × IsNodeOf m.0.parts r

-- of a field of one of the two nodes of the claimed pair
abbrev pub reads_reference : Play
reads_reference s m r n = (n.1 ≡ m.1) × (n.0 ≡ knowing m.0 s.word r) × IsRefOf m.0.parts r

abbrev pub draws : Play
draws s m r n = (n.1 ≡ m.1) × (r < m.0.parts.fuel →
    (n.0 ≡ ticketed m.0 r) × ((p : Plan) → KnowsPlan p m.0 → Moment p n.0)) × (m.0.parts.fuel ≤ r → n.0 ≡ late m.0)

-- the operand is added to the live word, or taken from it
abbrev pub owes : Play
owes s m r n = (n.1 ≡ m.1) × (n.0 ≡ owing m.0 s.first)

abbrev pub repays : Play
repays s m r n = (n.1 ≡ m.1) × (n.0 ≡ repaid m.0 s.first)

abbrev pub writes : Play
writes s m r n = (n.1 ≡ m.1) × (n.0 ≡ wrote m.0)
