use Rattle.std.proofs.Common.{◌≡◌, ℕ, List, [], ◌∷◌, refl, sym, ap, ◌∙◌, subst}
use Rattle.ol_wire.specs.declared.layout.Parts.{Parts}
use Rattle.ol_wire.specs.declared.turn.Turn.{Turn}
use Rattle.ol_wire.specs.declared.turn.Turn.TheVariants.{Rewrote, Spent}
use Rattle.ol_wire.specs.declared.view.View.{View}
use Rattle.ol_pool.specs.Pools.{HandState}
use Rattle.ol_reduce.specs.Offered.{HasOffered}
use Rattle.ol_reduce.proofs.Offering.{offered_none, published_of, published_by, nothing}
use Rattle.ol_reduce.proofs.Turns.{cause_of}
use Rattle.ol_reduce.proofs.working.turn_on.Goals as goal

pub returns-in-Spent-clause-turned : goal.returns-in-Spent-clause-turned
returns-in-Spent-clause-turned g c =
    let z : Parts = c.args.shared.now.plan.parts in
    let v : View = c.args.own.now.seat.view in
    let n : View = c.turn-turn.new.seat.view in
    let e = c.turn-turn.ensures in
    record {
      seat = e.seat;
      number = refl;
      holds = e.others;
      claimed = e.claimed;
      cells = [];
      published = published_by z v c.args.cell Spent n c.in-Spent.ensures.view;
      offered = subst (λ cell. HasOffered c.args.own.now.hand (cell ∷ []) c.offer.new.hand)
          (sym (ap (λ (u : View). u.cell) c.in-Spent.ensures.view)) c.offer.ensures;
    }

pub returns-in-Rewrote-clause-no : goal.returns-in-Rewrote-clause-no
returns-in-Rewrote-clause-no g c = λ _.
    let n : View = c.turn-turn.new.seat.view in
    let t : Turn = c.turn-turn.result in
    let e = c.turn-turn.ensures in
    let r = c.in-Rewrote in (
      t,
      record {
        within = c.requires.cell;
        cause = cause_of t n e.gone.0 e.stuck.0 e.spent.0
            e.rewrote.0;
        leaves = e.view;
      },
      (λ q. let bad : Rewrote r.ticket r.rule r.first_cell r.mask ≡ Spent = sym r.is ∙ q in absurd (cc)),
    )

pub returns-in_default-clause-turned : goal.returns-in_default-clause-turned
returns-in_default-clause-turned g c =
    let z : Parts = c.args.shared.now.plan.parts in
    let v : View = c.args.own.now.seat.view in
    let n : View = c.turn-turn.new.seat.view in
    let t : Turn = c.turn-turn.result in
    let e = c.turn-turn.ensures in
    let hand : HandState = c.args.own.now.hand in
    record {
      seat = e.seat;
      number = refl;
      holds = e.others;
      claimed = e.claimed;
      cells = published_of t;
      published = published_by z v c.args.cell t n e.view;
      offered = subst (λ (l : List ℕ). HasOffered hand l hand)
          (sym (nothing t c.in_default.not-Spent c.in_default.not-Rewrote)) (offered_none hand);
    }
