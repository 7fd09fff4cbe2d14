use Rattle.std.proofs.Common.{◌≡◌, ◌<◌, length, subst, slice_index}
use Rattle.core.specs.Mem.Slots.{slots_items}
use Rattle.ol_wire.specs.Closed.{ClosedTable}
use Rattle.ol_wire.proofs.Closing.Table.{got}
use Rattle.ol_wire.proofs.closed.Words.word.Goals as goal

pub returns-then-at-size : goal.returns-then-at-size
returns-then-at-size c = subst (λ (w : ClosedTable). (c.args.at < length w.words)
    × (c.word.result ≡ slice_index w.words c.args.at)) c.self.view_is
    (got (slots_items c.self.inside.closed.words) c.args.at c.word.result c.word.ensures)
