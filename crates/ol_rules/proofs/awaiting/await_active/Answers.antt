use Rattle.std.proofs.Common.{ℕ, ◌≡◌, ◌+◌, ◌<◌, refl, sym, subst, arith}
use Rattle.std.specs.BTreeSet.{BTreeSet}
use Rattle.ol_rules.specs.Waiting.{AreAdded, IsActiveIn}
use Rattle.ol_rules.proofs.Waiting.{none_added, one_added, next_added, same_added}
use Rattle.ol_rules.proofs.awaiting.await_active.Goals.{in-Active+in-Ok, in_default}
use Rattle.ol_rules.proofs.awaiting.await_active.Goals as goal

pub loop-n-init : goal.loop-n-init
loop-n-init c = (omega arith, none_added _ c.args.waiting.now (λ x h. let b = h.0 in let a = h.1.0 in omega arith))

pub loop-n-preserved : goal.loop-n-preserved
loop-n-preserved c =
    let n = c.loop-n.n in
    let from = c.loop-n.invariant.0 in
    let to = c.loop-n-test.true in
    let A : ℕ → Type 0 = λ x. IsActiveIn c.args.net.now c.args.from c.args.to x in
    let all : BTreeSet ℕ → Type 0 = λ w. AreAdded (λ (x : ℕ). (x < n + 1) × A x) c.args.waiting.now w in
    let on : (w : BTreeSet ℕ) → AreAdded (λ (x : ℕ). (x ≡ n) × A x) c.loop-n.waiting w → all w =
    λ w h. next_added A c.args.waiting.now c.loop-n.waiting w n c.loop-n.invariant.1 h in (
      omega arith,
      elim c.match-facing.branch [
        | in-Active+in-Ok w ↦ subst all (sym w.waiting-is)
            (on w.insert.new.self (one_added _ c.loop-n.waiting w.insert.new.self n w.in-Ok.ensures.updates (
              refl,
              (
                omega arith,
                omega arith,
                (
                  w.in-Active.field-0,
                  (c.facing.ensures.active w.in-Active.field-0).0 w.in-Active.is,
                ),
              ),
            ) (λ x h. h.0)))
        | in_default w ↦ subst all (sym w.waiting-is)
            (on c.loop-n.waiting (none_added _ c.loop-n.waiting (λ x h.
            let a : A n = subst A h.0 h.1 in
            w.in_default.not-Active a.2.0 ((c.facing.ensures.active a.2.0).1 a.2.1))))
      ],
    )

pub returns : goal.returns
returns c = same_added (λ (x : ℕ). (x < c.loop-n.n) × IsActiveIn c.args.net.now c.args.from c.args.to x)
    (IsActiveIn c.args.net.now c.args.from c.args.to) c.args.waiting.now c.loop-n.waiting c.loop-n.invariant.1
    (λ x h. h.1) (λ x h. (let e = c.loop-n-test.false in let b = h.1 in omega arith, h))
