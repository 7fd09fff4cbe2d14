use Rattle.std.proofs.Common.{◌≡◌, ◌++◌}
use Rattle.std.specs.Prelude.{string_bytes}
use Rattle.ol_explain.specs.NamedTexts.{named_partners}
use Rattle.ol_explain.specs.Besides.{beside_words}
use Rattle.ol_orders.specs.Replays.{names_of}
use Rattle.ol_explain.proofs.naming.put_node.Given as goal

-- the slots so far have their partners
abbrev pub invariant-loop-slot : goal.invariant-loop-slot
invariant-loop-slot l = string_bytes l.text
    ≡ string_bytes l.initial.text ++ named_partners (names_of l.replay) (beside_words l.beside l.replay) l.replay.net l.node.0 l.slot
