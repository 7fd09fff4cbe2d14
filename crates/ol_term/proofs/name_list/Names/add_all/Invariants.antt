use Rattle.std.proofs.Common.{◌≡◌, take}
use Rattle.ol_term.specs.NameLists.{with_names}
use Rattle.ol_term.proofs.name_list.Names.add_all.Given as goal

abbrev pub invariant-loop-k : goal.invariant-loop-k
invariant-loop-k l = l.self ≡ with_names l.fn.self (take l.k l.names)
