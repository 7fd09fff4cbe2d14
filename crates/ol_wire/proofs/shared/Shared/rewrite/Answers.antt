-- A rewriting that has begun is one, and what is in hand stays so after a look.
use Rattle.std.proofs.Common.{◌≡◌, ◌+◌, ℕ, Option, Some, None, IfSome, List, get_or, refl, sym, ap, ◌∙◌, subst, arith}
use Rattle.ol_wire.specs.declared.layout.Parts.{Parts}
use Rattle.ol_wire.specs.declared.view.View.{View}
use Rattle.ol_wire.specs.declared.begun.Begun.{Begun}
use Rattle.ol_wire.specs.declared.rewrite.Rewrite.{Rewrite}
use Rattle.ol_wire.specs.Layout.{block}
use Rattle.ol_net.specs.Parts.{arity}
use Rattle.ol_wire.specs.References.{kind_in, place_in}
use Rattle.ol_wire.specs.Blocks.{block_words}
use Rattle.ol_wire.specs.StepPlays.{IsNodeOf, IsLookedUp, late, ticketed}
use Rattle.ol_wire.specs.Stand.{IsUnder}
use Rattle.ol_wire.specs.InHand.{IsInHand, IsOfPair, AreFields, fields_known, looked_at}
use Rattle.ol_wire.specs.Hands.{IsActiveLast}
use Rattle.ol_wire.specs.LinkLists.{joins_in, to_write}
use Rattle.ol_wire.specs.Events.{Event, rule_between}
use Rattle.ol_wire.specs.Plays.{event_in}
use Rattle.ol_wire.specs.Rewrites.{event_for}
use Rattle.ol_wire.specs.Moments.{WasPending}
use Rattle.ol_wire.specs.TurnParts.{HasBegunOrLate, HasFieldsOf}
use Rattle.ol_wire.proofs.Ticket.Refs.{joins_few}
use Rattle.ol_wire.proofs.Steps.Hold.{of_pair, node_in_hand, seen, still_in_hand, owing_in_hand, owed_after, late_told}
use Rattle.ol_wire.proofs.Steps.Hold.{looked_up, looked_twice, rewritten, due_of_ticket}
use Rattle.ol_law_edges.proofs.Lists.{in_right}
use Rattle.ol_wire.proofs.shared.Shared.rewrite.Goals as goal

never : (b : Begun) → ◌≡◌ {A = Option Begun} (Some b) None → ⊥
never b e = cc

looked_in_hand : (v : View) (w n : ℕ) (a : List ℕ) → IsInHand v w → IsInHand (looked_at v n a) w
looked_in_hand v w n a hand = record {
  taken = hand.taken;
  right = in_right _ (fields_known (arity (kind_in n)) (place_in n) a) v.known hand.right;
  nodes = hand.nodes;
}

-- the words that are due once the ticket is drawn
drawn_due : (z : Parts) (v u w : View) (r : Rewrite) (ks : List (ℕ × ℕ)) (n t : ℕ) →
    w ≡ record v { known = ks; owed = n } → u ≡ ticketed w t → event_for r ≡ event_in v → v.parts ≡ z →
    u.due ≡ to_write (block z t) (block_words z (event_for r) t)
drawn_due z v u w r ks n t e f is at =
    ap (λ (x : View). x.due) (f ∙ ap (λ (x : View). ticketed x t) e) ∙ due_of_ticket v r ks t is
    ∙ ap (λ (y : Parts). to_write (block y t) (block_words y (event_for r) t)) at

pub look_at-of_f-requires-clause-token : goal.look_at-of_f-requires-clause-token
look_at-of_f-requires-clause-token c = c.requires.token

pub look_at-of_f-requires-clause-pair : goal.look_at-of_f-requires-clause-pair
look_at-of_f-requires-clause-pair c = c.requires.pair

pub look_at-of_g-requires-clause-token : goal.look_at-of_g-requires-clause-token
look_at-of_g-requires-clause-token c = (
  c.look_at-of_f.ensures.token.0 ∙ c.requires.token.0,
  subst (λ (u : View). IsUnder c.args.self.now.plan u) (sym c.look_at-of_f.ensures.view) c.requires.token.1,
)

pub look_at-of_g-requires-clause-pair : goal.look_at-of_g-requires-clause-pair
look_at-of_g-requires-clause-pair c = (
  c.requires.pair.0,
  subst (λ (u : View). IsInHand u c.requires.pair.0) (sym c.look_at-of_f.ensures.view)
      (looked_in_hand c.args.token.now.me.0 c.requires.pair.0 c.args.rewrite.f c.look_at-of_f.result c.requires.pair.1),
)

pub owe-requires-clause-token : goal.owe-requires-clause-token
owe-requires-clause-token c =
    let p = c.args.self.now.plan in
    let u = subst (λ (u : View). IsUnder p u) (sym c.look_at-of_f.ensures.view) c.requires.token.1 in (
      c.look_at-of_g.ensures.token.0 ∙ c.look_at-of_f.ensures.token.0 ∙ c.requires.token.0,
      subst (λ (u : View). IsUnder p u) (sym c.look_at-of_g.ensures.view) u,
    )

pub draw-requires-clause-token : goal.draw-requires-clause-token
draw-requires-clause-token c =
    let p = c.args.self.now.plan in
    let u = subst (λ (u : View). IsUnder p u) (sym c.look_at-of_f.ensures.view) c.requires.token.1 in
    let w = subst (λ (u : View). IsUnder p u) (sym c.look_at-of_g.ensures.view) u in (
      c.owe.ensures.token.0 ∙ c.look_at-of_g.ensures.token.0 ∙ c.look_at-of_f.ensures.token.0
          ∙ c.requires.token.0,
      subst (λ (u : View). IsUnder p u) (sym c.owe.ensures.view) w,
    )

pub write_block-requires-clause-token : goal.write_block-requires-clause-token
write_block-requires-clause-token c =
    let p = c.args.self.now.plan in
    let u = subst (λ (u : View). IsUnder p u) (sym c.look_at-of_f.ensures.view) c.requires.token.1 in
    let w = subst (λ (u : View). IsUnder p u) (sym c.look_at-of_g.ensures.view) u in
    let x = subst (λ (u : View). IsUnder p u) (sym c.owe.ensures.view) w in (
      c.draw.ensures.token.0 ∙ c.owe.ensures.token.0 ∙ c.look_at-of_g.ensures.token.0
          ∙ c.look_at-of_f.ensures.token.0 ∙ c.requires.token.0,
      subst (λ (u : View). IsUnder p u) (sym c.in_ok-ticket.ensures.view.1) x,
    )

pub write_block-requires-clause-ticket : goal.write_block-requires-clause-ticket
write_block-requires-clause-ticket c = c.in_ok-ticket.ensures.view.0

pub write_block-requires-clause-nodes : goal.write_block-requires-clause-nodes
write_block-requires-clause-nodes c =
    let v : View = c.args.token.now.me.0 in
    let sides = of_pair v c.args.rewrite c.requires.rule.0 in
    let node = λ (n : ℕ) (o : IsOfPair v n).
    subst (λ (z : Parts). IsNodeOf z n) c.requires.token.1.0
    (node_in_hand v c.requires.pair.0 n c.requires.pair.1 o) in
    (node c.args.rewrite.f sides.0, node c.args.rewrite.g sides.1)

pub write_block-requires-clause-due : goal.write_block-requires-clause-due
write_block-requires-clause-due c =
    let v : View = c.args.token.now.me.0 in
    let r = c.args.rewrite in
    let ks = seen v r c.look_at-of_f.result c.look_at-of_g.result in
    let e = looked_twice v c.look_at-of_f.new.token.me.0 c.look_at-of_g.new.token.me.0 r
    c.look_at-of_f.result c.look_at-of_g.result c.look_at-of_f.ensures.view c.look_at-of_g.ensures.view in
    let owed = owed_after v c.look_at-of_g.new.token.me.0 c.owe.new.token.me.0 ks c.joins.result
    c.requires.free.3 e c.owe.ensures.view in
    drawn_due c.args.self.now.plan.parts v c.draw.new.token.me.0 c.owe.new.token.me.0 r ks
    c.joins.result c.in_ok-ticket.ticket owed c.in_ok-ticket.ensures.view.1 c.requires.rule.0
    c.requires.token.1.0

pub returns-in_err-ticket-clause-token : goal.returns-in_err-ticket-clause-token
returns-in_err-ticket-clause-token c = (
  c.draw.ensures.token.0 ∙ c.owe.ensures.token.0 ∙ c.look_at-of_g.ensures.token.0 ∙ c.look_at-of_f.ensures.token.0,
  c.draw.ensures.token.1 ∙ c.owe.ensures.token.1 ∙ c.look_at-of_g.ensures.token.1 ∙ c.look_at-of_f.ensures.token.1,
)

pub returns-in_err-ticket-clause-refs : goal.returns-in_err-ticket-clause-refs
returns-in_err-ticket-clause-refs c =
    subst (λ (o : Option Begun). IfSome o (HasFieldsOf c.args.self.now.plan.parts c.args.rewrite))
    (sym c.from_residual.ensures) tt

pub returns-in_err-ticket-clause-drawn : goal.returns-in_err-ticket-clause-drawn
returns-in_err-ticket-clause-drawn c =
    subst (λ (o : Option Begun). IfSome o (λ _. WasPending c.args.self.now.plan c.draw.new.token.me.0))
    (sym c.from_residual.ensures) tt

pub returns-clause-token : goal.returns-clause-token
returns-clause-token c = (
  c.write_block.ensures.token.0 ∙ c.draw.ensures.token.0 ∙ c.owe.ensures.token.0
      ∙ c.look_at-of_g.ensures.token.0 ∙ c.look_at-of_f.ensures.token.0,
  c.write_block.ensures.token.1 ∙ c.draw.ensures.token.1 ∙ c.owe.ensures.token.1
      ∙ c.look_at-of_g.ensures.token.1 ∙ c.look_at-of_f.ensures.token.1,
)

pub returns-clause-refs : goal.returns-clause-refs
returns-clause-refs c = (c.look_at-of_f.ensures.refs, c.look_at-of_g.ensures.refs)

pub returns-clause-drawn : goal.returns-clause-drawn
returns-clause-drawn c = (
  c.draw.new.token.me.0,
  c.in_ok-ticket.ensures.moment,
  sym (ap (λ (u : View). u.pending) c.write_block.ensures.view),
)

pub returns-clause-hand : goal.returns-clause-hand
returns-clause-hand c = λ e. absurd (never _ e)

pub look_at-of_f-requires-clause-node : goal.look_at-of_f-requires-clause-node
look_at-of_f-requires-clause-node c = (of_pair c.args.token.now.me.0 c.args.rewrite c.requires.rule.0).0

pub look_at-of_g-requires-clause-node : goal.look_at-of_g-requires-clause-node
look_at-of_g-requires-clause-node c =
    let v : View = c.args.token.now.me.0 in
    let last : v.last ≡ c.look_at-of_f.new.token.me.0.last = sym
    (ap (λ (u : View). u.last) c.look_at-of_f.ensures.view) in
    subst (λ (pair : ℕ × ℕ). IsOfPair (record v { last = pair }) c.args.rewrite.g) last
    (of_pair v c.args.rewrite c.requires.rule.0).1

pub owe-requires-clause-pair : goal.owe-requires-clause-pair
owe-requires-clause-pair c =
    let v : View = c.args.token.now.me.0 in
    let r = c.args.rewrite in
    let e = looked_twice v c.look_at-of_f.new.token.me.0 c.look_at-of_g.new.token.me.0 r
    c.look_at-of_f.result c.look_at-of_g.result c.look_at-of_f.ensures.view c.look_at-of_g.ensures.view in (
      c.requires.pair.0,
      subst (λ (u : View). IsInHand u c.requires.pair.0) (sym e)
          (owing_in_hand v c.requires.pair.0 r c.look_at-of_f.result c.look_at-of_g.result c.requires.pair.1),
    )

pub owe-requires-clause-active : goal.owe-requires-clause-active
owe-requires-clause-active c =
    let v : View = c.args.token.now.me.0 in
    let r = c.args.rewrite in
    let e = looked_twice v c.look_at-of_f.new.token.me.0 c.look_at-of_g.new.token.me.0 r
    c.look_at-of_f.result c.look_at-of_g.result c.look_at-of_f.ensures.view c.look_at-of_g.ensures.view in
    let active : IsActiveLast v = subst (λ (x : Event).
    rule_between x.f x.g ≡ Some x.rule) c.requires.rule.0 c.requires.rule.1 in
    subst (λ (u : View). IsActiveLast u) (sym e) active

pub owe-requires-clause-links : goal.owe-requires-clause-links
owe-requires-clause-links c = omega (arith, c.joins.ensures, joins_few (event_for c.args.rewrite))

pub owe-requires-clause-nothing : goal.owe-requires-clause-nothing
owe-requires-clause-nothing c =
    let v : View = c.args.token.now.me.0 in
    let r = c.args.rewrite in
    let e = looked_twice v c.look_at-of_f.new.token.me.0 c.look_at-of_g.new.token.me.0 r
    c.look_at-of_f.result c.look_at-of_g.result c.look_at-of_f.ensures.view c.look_at-of_g.ensures.view in
    (ap (λ (u : View). u.owed) e ∙ c.requires.free.3, ap (λ (u : View). u.pending) e ∙ c.requires.free.1)

pub draw-requires-clause-pair : goal.draw-requires-clause-pair
draw-requires-clause-pair c =
    let v : View = c.args.token.now.me.0 in
    let r = c.args.rewrite in
    let e = looked_twice v c.look_at-of_f.new.token.me.0 c.look_at-of_g.new.token.me.0 r
    c.look_at-of_f.result c.look_at-of_g.result c.look_at-of_f.ensures.view c.look_at-of_g.ensures.view in
    let owed = owed_after v c.look_at-of_g.new.token.me.0 c.owe.new.token.me.0
    (seen v r c.look_at-of_f.result c.look_at-of_g.result) c.joins.result c.requires.free.3 e c.owe.ensures.view in (
      c.requires.pair.0,
      subst (λ (u : View). IsLookedUp u c.requires.pair.0) (sym owed)
          (looked_up v c.requires.pair.0 r c.look_at-of_f.result c.look_at-of_g.result c.joins.result
          c.requires.token.1.2 c.joins.ensures c.requires.pair.1 c.requires.free.0 c.requires.free.1
          c.requires.free.2 c.requires.rule.0 c.requires.rule.1),
    )

pub returns-clause-view : goal.returns-clause-view
returns-clause-view c =
    let v : View = c.args.token.now.me.0 in
    let r = c.args.rewrite in
    let v1 : View = c.look_at-of_f.new.token.me.0 in
    let v2 : View = c.look_at-of_g.new.token.me.0 in
    let v3 : View = c.owe.new.token.me.0 in
    let of_f = c.look_at-of_f.result in
    let of_g = c.look_at-of_g.result in
    let e = looked_twice v v1 v2 r of_f of_g c.look_at-of_f.ensures.view c.look_at-of_g.ensures.view in
    let f_known : AreFields v2.known r.f of_f = λ s lt.
    c.look_at-of_g.ensures.keeps (place_in r.f + s) (get_or of_f s 0) (c.look_at-of_f.ensures.found s lt) in
    let ks : v2.known ≡ seen v r of_f of_g = ap (λ (u : View). u.known) e in
    let count : c.joins.result ≡ joins_in (event_in v) = c.joins.ensures ∙ ap joins_in c.requires.rule.0 in
    let owed : v3 ≡ record v { known = seen v r of_f of_g; owed = joins_in (event_in v) } =
    owed_after v v2 v3 (seen v r of_f of_g) c.joins.result c.requires.free.3 e c.owe.ensures.view
    ∙ ap (λ (n : ℕ). record v { known = seen v r of_f of_g; owed = n }) count in (
      c.in_ok-ticket.ensures.view.0,
      refl,
      rewritten v v3 c.draw.new.token.me.0 c.write_block.new.token.me.0 c.requires.pair.0
          c.in_ok-ticket.ticket r (seen v r of_f of_g) of_f of_g c.requires.pair.1 c.requires.free.0
          c.requires.rule.0 c.requires.rule.1
          (subst (λ (l : List (ℕ × ℕ)). AreFields l r.f of_f) ks f_known)
          (subst (λ (l : List (ℕ × ℕ)). AreFields l r.g of_g) ks c.look_at-of_g.ensures.found)
          owed c.in_ok-ticket.ensures.view.1 c.write_block.ensures.view,
    )

pub returns-in_err-ticket-clause-view : goal.returns-in_err-ticket-clause-view
returns-in_err-ticket-clause-view c =
    let v : View = c.args.token.now.me.0 in
    let r = c.args.rewrite in
    let e = looked_twice v c.look_at-of_f.new.token.me.0 c.look_at-of_g.new.token.me.0 r
    c.look_at-of_f.result c.look_at-of_g.result c.look_at-of_f.ensures.view c.look_at-of_g.ensures.view in
    let ks = seen v r c.look_at-of_f.result c.look_at-of_g.result in
    let owed : c.owe.new.token.me.0 ≡ record v { known = ks; owed = joins_in (event_for r) } =
    owed_after v c.look_at-of_g.new.token.me.0 c.owe.new.token.me.0 ks c.joins.result
    c.requires.free.3 e c.owe.ensures.view ∙ ap (λ (n : ℕ). record v { known = ks; owed = n }) c.joins.ensures in
    subst (λ o. HasBegunOrLate c.args.self.now v r o c.draw.new.token.me.0)
    (sym c.from_residual.ensures) (late_told v c.owe.new.token.me.0 c.draw.new.token.me.0 ks
    (joins_in (event_for r)) owed c.in_err-ticket.ensures.view)

pub returns-in_err-ticket-clause-hand : goal.returns-in_err-ticket-clause-hand
returns-in_err-ticket-clause-hand c =
    let v : View = c.args.token.now.me.0 in
    let r = c.args.rewrite in
    let of_f = c.look_at-of_f.result in
    let of_g = c.look_at-of_g.result in
    let e = looked_twice v c.look_at-of_f.new.token.me.0 c.look_at-of_g.new.token.me.0 r of_f of_g
    c.look_at-of_f.ensures.view c.look_at-of_g.ensures.view in
    let owed = owed_after v c.look_at-of_g.new.token.me.0 c.owe.new.token.me.0
    (seen v r of_f of_g) c.joins.result c.requires.free.3 e c.owe.ensures.view in
    λ none_drawn w hand. subst (λ (u : View). IsInHand u w)
    (sym (c.in_err-ticket.ensures.view ∙ ap late owed)) (still_in_hand v w r of_f of_g c.joins.result hand)
