use Rattle.std.proofs.Common.{IfOk, sym, subst}
use Rattle.ol_bench.specs.Commands.{IsCause, ReadsNoFurther}
use Rattle.ol_bench.proofs.top.answer.Goals as goal

pub returns-in-One-clause-caused : goal.returns-in-One-clause-caused
returns-in-One-clause-caused g c = λ files of.
    subst (λ asked. IfOk c.of_one.result (λ a. IsCause asked files (g.S.Source.faults c.args.src.now)
    (g.S.Source.faults c.of_one.new.src) a.text.items a.end)) (sym c.in-One.is) (c.of_one.ensures.caused files of)

pub returns-in-Two-clause-caused : goal.returns-in-Two-clause-caused
returns-in-Two-clause-caused g c = λ files of.
    subst (λ asked. IfOk c.of_two.result (λ a. IsCause asked files (g.S.Source.faults c.args.src.now)
    (g.S.Source.faults c.of_two.new.src) a.text.items a.end)) (sym c.in-Two.is) (c.of_two.ensures.caused files of)

pub returns-in-Walk-clause-caused : goal.returns-in-Walk-clause-caused
returns-in-Walk-clause-caused g c = λ files of.
    subst (λ asked. IfOk c.of_walk.result (λ a. IsCause asked files (g.S.Source.faults c.args.src.now)
    (g.S.Source.faults c.of_walk.new.src) a.text.items a.end)) (sym c.in-Walk.is) (c.of_walk.ensures.caused files of)

pub returns-in-Grade-clause-caused : goal.returns-in-Grade-clause-caused
returns-in-Grade-clause-caused g c = λ files of.
    subst (λ asked. IfOk c.of_grade.result (λ a. IsCause asked files (g.S.Source.faults c.args.src.now)
    (g.S.Source.faults c.of_grade.new.src) a.text.items a.end)) (sym c.in-Grade.is)
    (rw c.deref.ensures.value at (c.of_grade.ensures.caused files of))

pub returns-in-One-clause-no_further : goal.returns-in-One-clause-no_further
returns-in-One-clause-no_further g c =
    subst (λ asked. ReadsNoFurther asked (g.S.Source.readings c.args.src.now)
    (g.S.Source.readings c.of_one.new.src)) (sym c.in-One.is) tt

pub returns-in-Two-clause-no_further : goal.returns-in-Two-clause-no_further
returns-in-Two-clause-no_further g c =
    subst (λ asked. ReadsNoFurther asked (g.S.Source.readings c.args.src.now)
    (g.S.Source.readings c.of_two.new.src)) (sym c.in-Two.is) c.of_two.ensures.no_further

pub returns-in-Walk-clause-no_further : goal.returns-in-Walk-clause-no_further
returns-in-Walk-clause-no_further g c =
    subst (λ asked. ReadsNoFurther asked (g.S.Source.readings c.args.src.now)
    (g.S.Source.readings c.of_walk.new.src)) (sym c.in-Walk.is) tt

pub returns-in-Grade-clause-no_further : goal.returns-in-Grade-clause-no_further
returns-in-Grade-clause-no_further g c =
    subst (λ asked. ReadsNoFurther asked (g.S.Source.readings c.args.src.now)
    (g.S.Source.readings c.of_grade.new.src)) (sym c.in-Grade.is) tt
