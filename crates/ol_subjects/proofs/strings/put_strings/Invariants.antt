use Rattle.std.proofs.Common.{◌≡◌, ◌++◌, [], map, drop}
use Rattle.ol_subjects.specs.Strings.{strings_after}
use Rattle.ol_subjects.proofs.strings.put_strings.Given as goal

-- with the strings of the lines that are left it is the whole
abbrev pub invariant-loop-k : goal.invariant-loop-k
invariant-loop-k l = l.text.items ++ strings_after l.before (map (λ x. x.now) (drop l.k l.lines))
    ≡ l.fn.text.items ++ strings_after [] (map (λ x. x.now) l.lines)
