use Rattle.std.proofs.Common.{refl}
use Rattle.std.proofs.lemmas.Result.{IfOk-weaker}
use Rattle.ol_cli.proofs.top.answer_job.Goals as goal

pub answer_run-requires-clause-known : goal.answer_run-requires-clause-known
answer_run-requires-clause-known g c = λ κs alive.
    rw c.as_str.ensures (c.requires.known 0 c.in-Run.name (rw c.in-Run.is refl))

pub returns-in-Run-clause-comes : goal.returns-in-Run-clause-comes
returns-in-Run-clause-comes g c = λ files of.
    let n = c.of-numbers.ensures in
    rw c.in-Run.is (rw (n.translation, n.workers, n.fuel, n.heads, c.as_str.ensures) at (c.answer_run.ensures.comes files of))

pub answer_walk-requires : goal.answer_walk-requires
answer_walk-requires g c = record {
  known = rw c.as_str-in-Walk.ensures (c.requires.known 0 c.in-Walk.name (rw c.in-Walk.is refl));
}

pub returns-in-Walk-clause-comes : goal.returns-in-Walk-clause-comes
returns-in-Walk-clause-comes g c = λ files of.
    rw c.in-Walk.is (rw (c.of.ensures.most, c.as_str-in-Walk.ensures) at (c.answer_walk.ensures.comes files of))

pub answer_view-requires : goal.answer_view-requires
answer_view-requires g c = record {
  known = rw c.as_str-in-View.ensures (c.requires.known 0 c.in-View.name (rw c.in-View.is refl));
}

pub returns-in-View-clause-comes : goal.returns-in-View-clause-comes
returns-in-View-clause-comes g c = λ files of.
    rw c.in-View.is (rw (c.of-in-View.ensures.most, c.as_str-in-View.ensures) at (c.answer_view.ensures.comes files of))

pub answer_trace-requires-clause-known : goal.answer_trace-requires-clause-known
answer_trace-requires-clause-known g c = λ κs alive.
    rw c.as_str-in-Trace.ensures (c.requires.known 0 c.in-Trace.name (rw c.in-Trace.is refl))

pub returns-in-Trace-clause-comes : goal.returns-in-Trace-clause-comes
returns-in-Trace-clause-comes g c = λ files of.
    rw c.in-Trace.is (rw (c.of-in-Trace.ensures.count, c.of-in-Trace-2.ensures.most, c.as_str-in-Trace.ensures) at
    (c.answer_trace.ensures.comes files of))

pub answer_demand-requires : goal.answer_demand-requires
answer_demand-requires g c = record {
  known = rw c.as_str-in-Demand.ensures (c.requires.known 0 c.in-Demand.name (rw c.in-Demand.is refl));
}

pub returns-in-Demand-clause-comes : goal.returns-in-Demand-clause-comes
returns-in-Demand-clause-comes g c = λ files of.
    rw c.in-Demand.is (rw (c.of-in-Demand.ensures.most, c.of-in-Demand-2.ensures.most, c.as_str-in-Demand.ensures) at
    (c.answer_demand.ensures.comes files of))

pub answer_certify-requires-clause-known : goal.answer_certify-requires-clause-known
answer_certify-requires-clause-known g c = λ κs alive.
    rw c.as_str-in-Certify.ensures (c.requires.known 0 c.in-Certify.name (rw c.in-Certify.is refl))

pub returns-in-Certify-clause-comes : goal.returns-in-Certify-clause-comes
returns-in-Certify-clause-comes g c = λ files of.
    let n = c.of-numbers-in-Certify.ensures in
    rw c.in-Certify.is (rw (n.translation, n.workers, n.fuel, n.heads, c.as_str-in-Certify.ensures) at
    (c.answer_certify.ensures.comes files of))

pub answer_check-requires-clause-term : goal.answer_check-requires-clause-term
answer_check-requires-clause-term g c = rw c.as_str-in-Check.ensures
    (c.requires.known 0 c.in-Check.term (rw c.in-Check.is refl))

pub answer_check-requires-clause-journal : goal.answer_check-requires-clause-journal
answer_check-requires-clause-journal g c = rw c.as_str-in-Check-2.ensures
    (c.requires.known 1 c.in-Check.journal (rw c.in-Check.is refl))

pub returns-in-Check-clause-comes : goal.returns-in-Check-clause-comes
returns-in-Check-clause-comes g c = λ files of.
    rw c.in-Check.is (rw (c.as_str-in-Check.ensures, c.as_str-in-Check-2.ensures) at
    (c.answer_check.ensures.comes files of))

pub returns-in-Check-clause-first_alone : goal.returns-in-Check-clause-first_alone
returns-in-Check-clause-first_alone g c = λ files of refused.
    c.answer_check.ensures.first_alone files of (rw c.as_str-in-Check.ensures (rw c.in-Check.is at refused))

pub returns-in-Gen-clause-comes : goal.returns-in-Gen-clause-comes
returns-in-Gen-clause-comes g c = λ files of.
    rw c.in-Gen.is (IfOk-weaker c.answer_gen.result _ _ (λ a h. h _ refl) c.answer_gen.ensures.comes)

pub answer_net_of_term-requires : goal.answer_net_of_term-requires
answer_net_of_term-requires g c = record {
  known = rw c.as_str-then-from_term.ensures
      (c.requires.known 0 c.in-Net.name (rw c.in-Net.is refl));
}

pub returns-then-from_term-clause-comes : goal.returns-then-from_term-clause-comes
returns-then-from_term-clause-comes g c = λ files of.
    rw (c.in-Net.is, c.if-from_term.true)
    (IfOk-weaker c.answer_net_of_term.result _ _ (λ a h. h c.in-Net.workers c.in-Net.fuel)
    (rw c.as_str-then-from_term.ensures at (c.answer_net_of_term.ensures.comes files of)))

pub answer_net-requires-clause-known : goal.answer_net-requires-clause-known
answer_net-requires-clause-known g c = λ κs alive.
    rw c.as_str-in-Net.ensures (c.requires.known 0 c.in-Net.name (rw c.in-Net.is refl))

pub returns-else-from_term-clause-comes : goal.returns-else-from_term-clause-comes
returns-else-from_term-clause-comes g c = λ files of.
    rw (c.in-Net.is, c.if-from_term.false)
    (IfOk-weaker c.answer_net.result _ _ (λ a h. h c.in-Net.translation)
    (rw (c.of-in-Net.ensures.count, c.of-in-Net-2.ensures.most, c.as_str-in-Net.ensures) at (c.answer_net.ensures.comes files of)))

pub answer_equal-requires-clause-first : goal.answer_equal-requires-clause-first
answer_equal-requires-clause-first g c = λ κs alive.
    rw c.as_str-first.ensures (c.requires.known 0 c.in-Equal.first (rw c.in-Equal.is refl))

pub answer_equal-requires-clause-second : goal.answer_equal-requires-clause-second
answer_equal-requires-clause-second g c = λ κs alive.
    rw c.as_str-second.ensures (c.requires.known 1 c.in-Equal.second (rw c.in-Equal.is refl))

pub returns-in-Equal-clause-comes : goal.returns-in-Equal-clause-comes
returns-in-Equal-clause-comes g c = λ files of.
    let n = c.of-numbers-in-Equal.ensures in
    rw c.in-Equal.is (rw (
      n.translation,
      n.workers,
      n.fuel,
      n.heads,
      c.as_str-first.ensures,
      c.as_str-second.ensures,
    ) at (c.answer_equal.ensures.comes files of))

pub returns-in-Equal-clause-first_alone : goal.returns-in-Equal-clause-first_alone
returns-in-Equal-clause-first_alone g c = λ files of refused.
    let n = c.of-numbers-in-Equal.ensures in
    c.answer_equal.ensures.first_alone files of
    (rw (n.translation, n.fuel, n.heads, c.as_str-first.ensures) (rw c.in-Equal.is at refused))
