use Rattle.std.proofs.Common.{ℕ, ◌+◌, ◌<◌, refl, sym, subst, arith}
use Rattle.std.specs.BTreeSet.{BTreeSet}
use Rattle.ol_net.specs.Nets.{slot, Linked}
use Rattle.ol_net.specs.Numbered.{net_of}
use Rattle.ol_rules.specs.Waiting.{AreAdded, IsBeside}
use Rattle.ol_rules.proofs.Waiting.{none_added, one_added, next_beside, same_added, few_slots}
use Rattle.ol_rules.proofs.awaiting.await_beside.Goals.{in-Some+in-Ok, in_default}
use Rattle.ol_rules.proofs.awaiting.await_beside.Goals as goal

pub loop-slot-init : goal.loop-slot-init
loop-slot-init c = (omega arith, none_added _ c.args.waiting.now (λ x h. let b = h.1 in omega arith))

pub loop-slot-preserved : goal.loop-slot-preserved
loop-slot-preserved c =
    let n = c.loop-slot.slot in
    let some = c.loop-slot.invariant.0 in
    let g = c.args.net.now in
    let all : BTreeSet ℕ → Type 0 = λ w. AreAdded (λ (x : ℕ).
    (s : ℕ) × (s + 1 < n + 1) × Linked (net_of g) (slot x 0) (slot c.args.at.0 (s + 1))) c.args.waiting.now w in
    let on : (w : BTreeSet ℕ) →
    AreAdded (λ (x : ℕ). Linked (net_of g) (slot x 0) (slot c.args.at.0 n)) c.loop-slot.waiting w → all w =
    λ w h. next_beside g c.args.at.0 n c.args.waiting.now c.loop-slot.waiting w some c.loop-slot.invariant.1 h in (
      omega arith,
      elim c.match-node_at.branch [
        | in-Some+in-Ok w ↦ subst all (sym w.waiting-is)
            (on w.insert.new.self (one_added _ c.loop-slot.waiting w.insert.new.self w.in-Some.node.0
            w.in-Ok.ensures.updates ((w.in-Some.ensures w.in-Some.node.0).1 refl) (λ x h. (w.in-Some.ensures x).0 h)))
        | in_default w ↦ subst all (sym w.waiting-is)
            (on c.loop-slot.waiting (none_added _ c.loop-slot.waiting (λ x h. w.in_default.ensures x h)))
      ],
    )

pub returns : goal.returns
returns c = same_added (λ (x : ℕ). (s : ℕ) × (s + 1 < c.loop-slot.slot)
    × Linked (net_of c.args.net.now) (slot x 0) (slot c.args.at.0 (s + 1)))
    (IsBeside c.args.net.now c.args.at.0) c.args.waiting.now c.loop-slot.waiting c.loop-slot.invariant.1
    (λ x h. (h.0, h.2)) (λ x h. (
      h.0,
      let e = c.loop-slot-test.false in
          let b = few_slots c.args.net.now c.is_net.ensures.net (slot x 0) c.args.at.0 (h.0 + 1) h.1 in omega arith,
      h.1,
    ))
