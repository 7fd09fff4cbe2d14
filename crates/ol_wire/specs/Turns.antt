-- What a turn answers, by its cause, and what it leaves in the seat's view.
use Rattle.std.specs.Prelude.{◌≡◌, ◌≢◌, ℕ, ◌+◌, ◌*◌, ◌/◌, ◌%◌, ◌^◌, ◌==◌, ◌<◌, if◌then◌else◌, Bool}
use Rattle.std.specs.Prelude.{◌↔◌, List, [], ◌∷◌, ◌++◌, true, false}
use Rattle.ol_net.specs.declared.parts.Rule.{Rule}
use Rattle.ol_rules.specs.Listed.{each}
use Rattle.ol_wire.specs.declared.layout.Parts.{Parts}
use Rattle.ol_wire.specs.declared.plan.Plan.{Plan}
use Rattle.ol_wire.specs.declared.view.View.{View}
use Rattle.ol_wire.specs.declared.turn.Turn.{Turn}
use Rattle.ol_wire.specs.declared.turn.Turn.TheVariants.{Rewrote, Gone, Stuck, Spent}
use Rattle.ol_wire.specs.Events.{entry_of}
use Rattle.ol_wire.specs.Layout.{left_word}
use Rattle.ol_wire.specs.LinkLists.{joins_in, link_of, links_of}
use Rattle.ol_wire.specs.Moments.{Moment, MomentEmpty, MomentHolding}
use Rattle.ol_wire.specs.Plays.{cell_at, event_in, swept_on, live_read}
use Rattle.ol_wire.specs.Hands.{claiming, missed, IsStuckLast, IsActiveLast}

-- a look at the live word read n, and was asked whether that is 0
abbrev pub HasListened : View → ℕ → Bool → View → Type 0
HasListened v n quiet after = (after ≡ live_read v n) × ((quiet ≡ true) ↔ (n ≡ 0))

-- the turn read a pair, and the pair has a rule
abbrev pub FoundActive : View → Type 0
FoundActive n = (n.last.0 ≢ 0) × IsActiveLast n

-- and there was fuel, or none
abbrev pub FoundFuel : View → Type 0
FoundFuel n = FoundActive n × (n.over ≡ false)

abbrev pub FoundNoFuel : View → Type 0
FoundNoFuel n = FoundActive n × (n.over ≡ true)

-- it read a pair, and the pair has no rule
abbrev pub FoundStuck : View → Type 0
FoundStuck n = (n.last.0 ≢ 0) × IsStuckLast n

-- the cause of each answer, by the view after
abbrev pub HasCause : Turn → View → Type 0
HasCause Gone n = n.last.0 ≡ 0
HasCause Stuck n = FoundStuck n
HasCause Spent n = FoundNoFuel n
HasCause (Rewrote t r b m) n = FoundFuel n

abbrev pub IsRewrote : Turn → Type 0
IsRewrote (Rewrote t r b m) = Unit {0}
IsRewrote other = ⊥

-- of the four cells from `first` on, those whose bit is set in the mask
abbrev pub masked : ℕ → ℕ → List ℕ
masked first mask = each 4 (λ j. if mask / 2 ^ j % 2 == 1 then (first + j) ∷ [] else [])

-- The pair has become ticket t, and each link that it left is made: those of two nodes stand in the cells of the mask.
pub record TurnRewrites (z : Parts) (v : View) (c t : ℕ) (r : Rule) (b m : ℕ) (n : View) : Type 0 where
  pub ticket : t < z.fuel
  pub rule : r ≡ (event_in n).rule
  pub first : b ≡ z.cells + 4 * t
  pub mask : m < 16
  pub dead : (ws : List ℕ) × (n.dead ≡ v.dead ++ ws)
  pub view : n ≡ record (claiming v c n.last) {
    swept = swept_on v c;
    known = n.known;
    dead = n.dead;
    made = v.made ++ (t, entry_of z (event_in n)) ∷ [];
    published = v.published ++ masked b m;
  }

-- What the turn leaves. After Stuck and Spent the pair is in its cell again.
abbrev pub Leaves : Parts → View → ℕ → Turn → View → Type 0
Leaves z v c Gone n = n ≡ missed v c
Leaves z v c Stuck n = n ≡ record (claiming v c n.last) { known = []; swept = swept_on v c }
Leaves z v c Spent n = n ≡ record (claiming v c n.last) { known = []; over = true }
Leaves z v c (Rewrote t r b m) n = TurnRewrites z v c t r b m n

-- The turn's answer and a moment of it: the cell was empty, or it held the pair that the view says was claimed.
abbrev pub IsMomentOf : Plan → ℕ → Turn → View → Type 0
IsMomentOf p c Gone n = MomentEmpty p (left_word p.parts c) n
IsMomentOf p c Stuck n = MomentHolding p (left_word p.parts c) n
IsMomentOf p c Spent n = MomentHolding p (left_word p.parts c) n
IsMomentOf p c (Rewrote t r b m) n = Unit {0}

-- Which cell is which join's. Once the ticket was drawn the seat had a link to make for each join,
-- by what the fields of the two nodes held; the cell of the link of join j is that of number b + j.
-- Bit j of the mask is set exactly where this link ended with two nodes face to face, and the pair
-- was published in this cell.
pub record LinksJoins (p : Plan) (v : View) (t b m : ℕ) (n : View) : Type 0 where
  pub of_f : ℕ → ℕ
  pub of_g : ℕ → ℕ
  pub drawn : View
  pub moment : Moment p drawn
  pub links : drawn.pending ≡ links_of p.parts (event_in n) t of_f of_g
  pub cells : (j : ℕ) → j < joins_in (event_in n) →
      cell_at p.parts (link_of p.parts (event_in n) t of_f of_g j).cell ≡ b + j
  pub bits : m < 2 ^ joins_in (event_in n)
  pub published : n.published ≡ v.published ++ masked b m

abbrev pub HasLinked : Plan → View → Turn → View → Type 0
HasLinked p v (Rewrote t r b m) n = LinksJoins p v t b m n
HasLinked p v other n = Unit {0}
