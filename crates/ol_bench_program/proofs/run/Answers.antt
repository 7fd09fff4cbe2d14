-- The contract of the call that `main` makes: that of `bench`, over adapters of which no call was made before.
use Rattle.std.proofs.Common.{None, Some, subst, sym}
use Rattle.ol_io.specs.Readings.{AreOfSince}
use Rattle.ol_bench.specs.Commands.{IsCause, ReadsNoFurther}
use Rattle.ol_bench_program.proofs.Passing.{first_answered}
use Rattle.ol_bench_program.proofs.run.Goals as goal

pub returns : goal.returns
returns g c =
    let none = c.new-src.ensures.readings in
    let read = c.bench-status.new.src.log.passed.readings in
    record {
      answered = λ files of.
          first_answered (λ faults. IsCause c.args.asked.now files faults c.bench-status.new.src.faults)
          c.bench-status.result c.new-src.result.faults c.new-out.result.faults c.bench-status.new.out.faults
          c.new-errors.result.faults c.bench-status.new.errors.faults (Some c.new-out.result.log.passed.taken)
          (Some c.bench-status.new.out.log.passed.taken) (Some c.new-errors.result.log.passed.taken)
          (Some c.bench-status.new.errors.log.passed.taken) c.new-src.ensures.faults c.new-out.ensures.faults
          c.new-errors.ensures.faults c.new-out.ensures.taken c.new-errors.ensures.taken
          (c.bench-status.ensures.answered files (subst (λ old. AreOfSince files old read) (sym none) of));
      no_further = subst (λ old. ReadsNoFurther c.args.asked.now old read) none c.bench-status.ensures.no_further;
      told = (λ _. λ _. None, subst (λ old. AreOfSince (λ _. λ _. None) old read) none c.bench-status.ensures.told);
    }
