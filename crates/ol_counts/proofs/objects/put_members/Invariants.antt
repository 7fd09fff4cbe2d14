use Rattle.std.proofs.Common.{◌≡◌, ◌++◌, [], drop}
use Rattle.ol_counts.specs.Objects.{members_after}
use Rattle.ol_counts.proofs.objects.put_members.Given as goal

-- with the members of the columns that are left it is the whole
abbrev pub invariant-loop-column : goal.invariant-loop-column
invariant-loop-column l = l.text.items ++ members_after l.before (drop l.column-index l.columns)
    ≡ l.fn.text.items ++ members_after [] l.columns
