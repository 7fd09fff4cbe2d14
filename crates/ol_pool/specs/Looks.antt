-- What contracts see of the parts of a pool, and what one look at a part tells.
use Rattle.std.specs.Prelude.{◌≡◌, ◌≢◌, ℕ, ◌+◌, ◌-◌, ◌^◌, ◌<◌, ◌≤◌, ◌⊎◌, List, [], ◌∷◌, ◌++◌, slice_index_or}
use Rattle.ol_pool.specs.declared.looks.Seen.{Seen}
use Rattle.ol_pool.specs.declared.looks.Seen.TheVariants.{Cell, Empty, Again}

-- the cells that came from a part, and how often it answered that it is empty, and that it be looked at again
pub record Part : Type 0 where
  pub given : List ℕ
  pub empties : ℕ
  pub agains : ℕ

-- a part that was never looked at
abbrev pub new_part : Part
new_part = record { given = []; empties = 0; agains = 0 }

-- the part of a number, of a list of parts
abbrev pub part_at : List Part → ℕ → Part
part_at parts p = slice_index_or parts p new_part

-- its two counts are of 64 bits
abbrev pub HasCounts : Part → Type 0
HasCounts part = (part.empties < 2 ^ 64) × (part.agains < 2 ^ 64)

-- a count of 64 bits rose, or stands at its last value, which is 2 ^ 64 - 1
abbrev pub Rose : ℕ → ℕ → Type 0
Rose old new = (old < new) ⊎ ((2 ^ 64 - 1 ≤ old) × (old ≤ new))

-- a count of 64 bits rose by two at the least, or stands at its last value
abbrev pub RoseTwice : ℕ → ℕ → Type 0
RoseTwice old new = (old + 2 ≤ new) ⊎ ((2 ^ 64 - 1 ≤ new) × (old ≤ new))

-- a count of 64 bits rose by one, or stays at its last value
abbrev pub CountsOne : ℕ → ℕ → Type 0
CountsOne old new = (new ≡ old + 1) ⊎ ((2 ^ 64 - 1 ≤ old) × (new ≡ old))

-- what one look tells of the part that it looked at; all else of it stays
abbrev pub Tells : Seen → Part → Part → Type 0
Tells (Cell cell) old new = new ≡ record old { given = old.given ++ cell ∷ [] }
Tells Empty old new = (new ≡ record old { empties = new.empties }) × Rose old.empties new.empties
Tells Again old new = (new ≡ record old { agains = new.agains }) × Rose old.agains new.agains

-- no count of the part fell
abbrev pub NoFall : Part → Part → Type 0
NoFall old new = (old.empties ≤ new.empties) × (old.agains ≤ new.agains)

-- the part gave no cell, and no count fell
abbrev pub GaveNone : Part → Part → Type 0
GaveNone old new = (new.given ≡ old.given) × NoFall old new

-- the part gave no cell, and answered that it is empty, or twice that it be looked at again, as its counts show
abbrev pub Missed : Part → Part → Type 0
Missed old new = GaveNone old new × (Rose old.empties new.empties ⊎ RoseTwice old.agains new.agains)

-- the part gave this cell
abbrev pub Gave : ℕ → Part → Part → Type 0
Gave cell old new = (new.given ≡ old.given ++ cell ∷ []) × NoFall old new

-- each of so many parts was missed
abbrev pub EachMissed : ℕ → (ℕ → Part) → (ℕ → Part) → Type 0
EachMissed parts old new = (p : ℕ) → p < parts → Missed (old p) (new p)

-- one of so many parts gave this cell, and no other part gave any
abbrev pub OneGave : ℕ → (ℕ → Part) → (ℕ → Part) → ℕ → Type 0
OneGave parts old new cell =
    (p : ℕ) × (p < parts) × Gave cell (old p) (new p) × ((q : ℕ) → q ≢ p → GaveNone (old q) (new q))

-- in the order own, own + 1, .. and on from 0, the part q comes before the part p: own ≤ q < p, or p < own ≤ q, or
-- q < p < own
abbrev pub ComesBefore : ℕ → ℕ → ℕ → Type 0
ComesBefore own q p = ((own ≤ q) × (q < p)) ⊎ ((p < own) × (own ≤ q)) ⊎ ((q < p) × (p < own))

-- one of so many parts gave this cell, and each part before it in the order from `own` on was missed
abbrev pub FirstGave : ℕ → ℕ → (ℕ → Part) → (ℕ → Part) → ℕ → Type 0
FirstGave own parts old new cell =
    (p : ℕ) × (p < parts) × Gave cell (old p) (new p)
    × ((q : ℕ) → q < parts → ComesBefore own q p → Missed (old q) (new q))
