-- Small terms, so that it can be seen what the rules and the machine count.
use Rattle.std.specs.Prelude.{◌≡◌, Some}
use Rattle.ol_counts.specs.Machines.{need_count}
use Rattle.ol_term.specs.Trees.{Tree, var, free, lam, app}
use Rattle.ol_law_meaning.specs.Examples.{identity}
use Rattle.ol_counts.specs.NeedRules.{ReducesByNeed}

-- (\x. x x) ((\y. y) (\y. y)): leftmost reduction reduces the argument twice, in 4 steps
abbrev pub shared : Tree
shared = app (lam (app (var 0) (var 0))) (app identity identity)

-- (\f. f a (f b)) (\x. (\w. w) (\y. y) x): what stands below \x is reduced twice, of 5 families
abbrev pub inner_twice : Tree
inner_twice =
    app (lam (app (app (var 0) (free 0)) (app (var 0) (free 1))))
    (lam (app (app identity identity) (var 0)))

abbrev pub SmallCounts : Type 0
SmallCounts = (need_count shared 100 ≡ Some 3) × (need_count inner_twice 100 ≡ Some 7)

abbrev pub SmallForms : Type 0
SmallForms = ReducesByNeed shared identity 3 × ReducesByNeed inner_twice (app (free 0) (free 1)) 7
