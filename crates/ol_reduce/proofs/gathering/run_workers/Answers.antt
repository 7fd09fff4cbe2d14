-- The workers that were lent to the threads are those that come back.
use Rattle.std.proofs.Common.{◌≡◌, ◌++◌, All, ap, arith, length, sym, subst, take, drop, ◌∙◌}
use Rattle.std.proofs.Math.Seq.{take-append_seam}
use Rattle.ol_reduce.specs.Works.{IsEnded, IsPadded}
use Rattle.ol_reduce.proofs.gathering.run_workers.Goals as goal

pub gather-seat-requires-clause-workers : goal.gather-seat-requires-clause-workers
gather-seat-requires-clause-workers g c =
    let back = c.run.new.workers in
    let rest = drop (length back) c.in_ok-hired.hired.items in
    let all : length back ≡ c.in_ok-hired.hired.len = omega (arith, c.run.ensures.length, c.as_mut_slice.ensures.len) in
    let same : take c.in_ok-hired.hired.len (back ++ rest) ≡ back =
    ap (λ n. take n (back ++ rest)) (sym all) ∙ take-append_seam back rest in
    subst (All (IsPadded (IsEnded c.in_ok-shared.shared))) (sym same) c.run.ensures.ended
