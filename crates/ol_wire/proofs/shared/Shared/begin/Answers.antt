use Rattle.std.proofs.Common.{◌≡◌, suc, ◌∷◌, ℕ, true, refl, sym, ap, ◌∙◌, subst}
use Rattle.ol_wire.specs.declared.view.View.{View}
use Rattle.ol_wire.specs.Layout.{left_word}
use Rattle.ol_wire.specs.InHand.{in_hand, IsInHand}
use Rattle.ol_wire.proofs.Steps.Hold.{hand_of}
use Rattle.ol_wire.specs.LinkLists.{joins_in}
use Rattle.ol_wire.specs.Rewrites.{event_for}
use Rattle.ol_wire.specs.StepPlays.{repaid}
use Rattle.ol_wire.proofs.Steps.Turn.{stuck_after, spent_after, begun_after, hand_repaid, back_repaid}
use Rattle.ol_wire.proofs.shared.Shared.begin.Goals as goal

pub rewrite-requires-clause-pair : goal.rewrite-requires-clause-pair
rewrite-requires-clause-pair c =
    let z = c.args.self.now.plan.parts in
    let v : View = c.args.token.now.me.0 in (
      left_word z c.args.cell,
      hand_of z v c.take.new.token.me.0
          (left_word z c.args.cell) c.args.cell
          (c.in-Some.left, c.in-Some.right) c.requires.token.1.0 c.in-Some.ensures.view.1
          c.in-Some.ensures.nodes.0 c.in-Some.ensures.nodes.1,
    )

pub put_back-requires-in_default-rewrite-clause-pair : goal.put_back-requires-in_default-rewrite-clause-pair
put_back-requires-in_default-rewrite-clause-pair c =
    let z = c.args.self.now.plan.parts in
    let v : View = c.args.token.now.me.0 in
    let hand = hand_of z v c.take.new.token.me.0 (left_word z c.args.cell) c.args.cell
    (c.in-Some.left, c.in-Some.right) c.requires.token.1.0 c.in-Some.ensures.view.1
    c.in-Some.ensures.nodes.0 c.in-Some.ensures.nodes.1 in
    let h = c.in_default-rewrite.ensures.hand refl (left_word z c.args.cell) hand in
    subst (λ (u : View). IsInHand u (left_word z c.args.cell)) (sym c.repay.ensures.view)
    (record { taken = h.taken; right = h.right; nodes = h.nodes })

pub returns-in_default-rewrite_of-clause-ended : goal.returns-in_default-rewrite_of-clause-ended
returns-in_default-rewrite_of-clause-ended c =
    let z = c.args.self.now.plan.parts in
    let v : View = c.args.token.now.me.0 in
    let pair : ℕ × ℕ = (c.in-Some.left, c.in-Some.right) in
    stuck_after z v c.take.new.token.me.0 c.put_back.new.token.me.0 c.args.cell pair
    ((suc (left_word z c.args.cell), c.in-Some.right) ∷ v.known) v.over c.requires.token.1.0
    c.requires.cell c.requires.idle c.in-Some.ensures.view.1 c.put_back.ensures.view
    c.in-Some.ensures.view.0 refl c.in_default-rewrite_of.ensures.0 c.in_default-rewrite_of.ensures.1

pub returns-then-over-clause-ended : goal.returns-then-over-clause-ended
returns-then-over-clause-ended c =
    let z = c.args.self.now.plan.parts in
    let v : View = c.args.token.now.me.0 in
    let pair : ℕ × ℕ = (c.in-Some.left, c.in-Some.right) in
    let t : View = c.take.new.token.me.0 in
    let n : View = c.put_back-then-over.new.token.me.0 in
    let over : v.over ≡ true = c.requires.over ∙ c.if-over.true in
    spent_after z v t n c.args.cell pair
    ((suc (left_word z c.args.cell), c.in-Some.right) ∷ v.known) v.over c.requires.token.1.0
    c.requires.cell c.requires.idle c.in-Some.ensures.view.1 c.put_back-then-over.ensures.view
    c.in-Some.ensures.view.0 c.in-Some-rewrite_of.rewrite
    c.in-Some-rewrite_of.ensures.0 c.in-Some-rewrite_of.ensures.1 over

pub returns-in_default-rewrite-clause-ended : goal.returns-in_default-rewrite-clause-ended
returns-in_default-rewrite-clause-ended c =
    let z = c.args.self.now.plan.parts in
    let v : View = c.args.token.now.me.0 in
    let pair : ℕ × ℕ = (c.in-Some.left, c.in-Some.right) in
    let t : View = c.rewrite.new.token.me.0 in
    let back : View = c.repay.new.token.me.0 in
    let n : View = c.put_back-in_default-rewrite.new.token.me.0 in
    let joins = joins_in (event_for c.in-Some-rewrite_of.rewrite) in
    let hand : t ≡ record (in_hand v (left_word z c.args.cell) c.args.cell pair) {
      known = t.known;
      over = true;
      owed = joins;
    } =
    c.in_default-rewrite.ensures.view ∙ ap
    (λ (u : View). record u { known = t.known; over = true; owed = joins }) c.in-Some.ensures.view.1 in
    let repays : back ≡ repaid t joins = c.repay.ensures.view ∙ ap (λ (q : ℕ). repaid t q) c.joins.ensures in
    spent_after z v (record t { owed = v.owed }) n c.args.cell pair t.known true
    c.requires.token.1.0 c.requires.cell c.requires.idle
    (hand_repaid z v t back n c.args.cell joins pair t.known c.requires.idle hand repays
    c.put_back-in_default-rewrite.ensures.view)
    (back_repaid z v t back n c.args.cell joins pair t.known c.requires.idle hand repays
    c.put_back-in_default-rewrite.ensures.view)
    c.in-Some.ensures.view.0 c.in-Some-rewrite_of.rewrite c.in-Some-rewrite_of.ensures.0
    c.in-Some-rewrite_of.ensures.1 refl

pub returns-clause-begun : goal.returns-clause-begun
returns-clause-begun c =
    let z = c.args.self.now.plan.parts in
    let v : View = c.args.token.now.me.0 in
    let pair : ℕ × ℕ = (c.in-Some.left, c.in-Some.right) in
    let done = c.in-Some-rewrite.ensures in
    begun_after z v c.take.new.token.me.0 c.rewrite.new.token.me.0 c.args.cell pair
    c.in-Some-rewrite_of.rewrite c.in-Some-rewrite.begun c.in-Some.ensures.view.1 done.view.1
    done.view.2 c.in-Some-rewrite_of.ensures.0 c.in-Some-rewrite_of.ensures.1
    c.in-Some.ensures.view.0 (c.requires.over
    ∙ c.if-over.false) done.view.0 c.in-Some.ensures.nodes.0 c.in-Some.ensures.nodes.1 done.refs.0 done.refs.1
