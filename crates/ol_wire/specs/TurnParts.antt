-- Private: what the parts of a turn ask and leave: the claim with the ticket, and the links.
use Rattle.std.specs.Prelude.{◌≡◌, ℕ, suc, ◌+◌, ◌*◌, ◌^◌, ◌<◌, List, [], ◌++◌, true, false, Some}
use Rattle.std.specs.Prelude.{slice_index, MatchOption, Option}
use Rattle.ol_wire.specs.declared.layout.Parts.{Parts}
use Rattle.ol_wire.specs.declared.view.View.{View}
use Rattle.ol_wire.specs.declared.begun.Begun.{Begun}
use Rattle.ol_wire.specs.declared.begun.Copies.{Copies}
use Rattle.ol_wire.specs.declared.turn.Turn.{Turn}
use Rattle.ol_rules.specs.declared.journal.NodeName.TheVariants.{Born}
use Rattle.ol_rules.specs.Rewriting.{is_meeting, index_after}
use Rattle.ol_wire.specs.References.{kind_in, index_in, node_ref}
use Rattle.ol_wire.specs.Layout.{left_word, born_cell, place_of}
use Rattle.ol_wire.specs.Events.{rule_between}
use Rattle.ol_wire.specs.Blocks.{copies_of_f}
use Rattle.ol_wire.specs.LinkLists.{links_of, link_of, joins_in}
use Rattle.ol_wire.specs.Plays.{event_in}
use Rattle.ol_wire.specs.StepPlays.{IsNodeOf}
use Rattle.ol_wire.specs.Rewrites.{event_for}
use Rattle.ol_wire.specs.InHand as hands
use Rattle.ol_wire.specs.InHand.{in_hand, AreRefs}
use Rattle.ol_wire.specs.declared.rewrite.Rewrite.{Rewrite}
use Rattle.ol_wire.specs.Stand.{TableState}
use Rattle.ol_wire.specs.Links.{link_between}
use Rattle.ol_wire.specs.Turns.{FoundActive, HasCause, Leaves, masked}

-- The first part of a turn that rewrites: the pair has become a ticket, and its links are pending.
pub record TurnBegins (z : Parts) (v : View) (c : ℕ) (b : Begun) (n : View) : Type 0 where
  pub cause : FoundActive n × (n.over ≡ false)
  pub ticket : b.ticket < z.fuel
  pub event : event_for b.rewrite ≡ event_in n
  pub nodes : IsNodeOf z b.rewrite.f × IsNodeOf z b.rewrite.g
  pub fields : AreRefs z b.rewrite.f b.of_f × AreRefs z b.rewrite.g b.of_g
  pub rewrote : hands.Rewrote (in_hand v (left_word z c) c n.last) b.ticket b.of_f b.of_g n

-- The links of the rewrite are pending, all of them.
pub record IsBegun (z : Parts) (v : View) (b : Begun) : Type 0 where
  pub due : v.due ≡ []
  pub pending : v.pending ≡ links_of z (event_for b.rewrite) b.ticket (λ s. slice_index b.of_f s)
      (λ s. slice_index b.of_g s)
  pub owed : v.owed ≡ suc (joins_in (event_for b.rewrite))
  pub ticket : b.ticket < z.fuel
  pub rule : rule_between b.rewrite.f b.rewrite.g ≡ Some b.rewrite.rule
  pub nodes : IsNodeOf z b.rewrite.f × IsNodeOf z b.rewrite.g
  pub fields : AreRefs z b.rewrite.f b.of_f × AreRefs z b.rewrite.g b.of_g

-- They are made, and nothing is owed.
pub record AreLinked (z : Parts) (v : View) (b : Begun) (m : ℕ) (n : View) : Type 0 where
  pub mask : m < 16
  pub joins : m < 2 ^ joins_in (event_for b.rewrite)
  pub dead : (ws : List ℕ) × (n.dead ≡ v.dead ++ ws)
  pub view : n ≡ record v {
    pending = [];
    known = n.known;
    published = v.published ++ masked (z.cells + 4 * b.ticket) m;
    dead = n.dead;
    owed = 0;
  }

-- the first part of a turn on cell c has begun a rewrite, or the turn has ended
abbrev pub HasBegun : TableState → View → ℕ → View → Begun → Type 0
HasBegun b v c n begun = TurnBegins b.plan.parts v c begun n

abbrev pub HasEnded : TableState → View → ℕ → View → Turn → Type 0
HasEnded b v c n t = HasCause t n × Leaves b.plan.parts v c t n

-- the rewrite is that of the pair in hand, which has a rule
abbrev pub IsRewriteInHand : View → Rewrite → Type 0
IsRewriteInHand v w = (event_for w ≡ event_in v) × (rule_between w.f w.g ≡ Some w.rule)

-- the fuel was used up, and the links are owed, or the rewrite has a ticket and its words are written
abbrev pub HasBegunOrLate : TableState → View → Rewrite → Option Begun → View → Type 0
HasBegunOrLate b v w found n = MatchOption found
    (n ≡ record v { known = n.known; over = true; owed = joins_in (event_for w) })
    (λ (x : Begun). (x.ticket < b.plan.parts.fuel) × (x.rewrite ≡ w) × hands.Rewrote v x.ticket x.of_f x.of_g n)

-- what was read of the fields of the two nodes
abbrev pub HasFieldsOf : Parts → Rewrite → Begun → Type 0
HasFieldsOf z w b = AreRefs z w.f b.of_f × AreRefs z w.g b.of_g

-- The copies that a rewrite which is no meeting makes: how many of f, and the references that copies
-- of f and of g have at place 0 of the block.
pub record AreCopiesOf (z : Parts) (b : Begun) (k : Copies) : Type 0 where
  pub crosses : is_meeting b.rewrite.rule ≡ false
  pub of_f : k.of_f ≡ copies_of_f (event_for b.rewrite)
  pub f : k.f ≡ node_ref (kind_in b.rewrite.f) (index_in b.rewrite.f) (place_of z (Born b.ticket 0))
  pub g : k.g ≡ node_ref (kind_in b.rewrite.g) (index_after b.rewrite.rule (index_in b.rewrite.g))
      (place_of z (Born b.ticket 0))
  pub small : (k.f < 4611686018427387904) × (k.g < 4611686018427387904)

-- a meeting makes none
abbrev pub HasCopies : Parts → Begun → Option Copies → Type 0
HasCopies z b copies = MatchOption copies (is_meeting b.rewrite.rule ≡ true) (AreCopiesOf z b)

-- these are the two ends of join j
abbrev pub AreEndsOf : Parts → Begun → ℕ → ℕ × ℕ → Type 0
AreEndsOf z b j ends = link_between (born_cell z b.ticket j) ends.0 ends.1
    ≡ link_of z (event_for b.rewrite) b.ticket (λ s. slice_index b.of_f s) (λ s. slice_index b.of_g s) j
