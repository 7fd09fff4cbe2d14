use Rattle.std.proofs.Common.{◌≡◌, ◌++◌}
use Rattle.std.specs.Prelude.{string_bytes}
use Rattle.ol_explain.specs.NamedTexts.{named_nodes}
use Rattle.ol_explain.specs.Besides.{beside_words}
use Rattle.ol_orders.specs.Replays.{names_of}
use Rattle.ol_explain.proofs.naming.put_nodes.Given as goal

abbrev pub invariant-loop-n : goal.invariant-loop-n
invariant-loop-n l = string_bytes l.text
    ≡ string_bytes l.fn.text ++ named_nodes (names_of l.replay) (beside_words l.beside l.replay) l.replay.net l.n
