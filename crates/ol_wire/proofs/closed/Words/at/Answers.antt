use Rattle.std.proofs.Common.{ap, ◌∙◌, slice_index}
use Rattle.core.specs.Mem.Slots.{slots_items}
use Rattle.ol_wire.specs.Closed.{ClosedTable}
use Rattle.ol_wire.proofs.Closing.Table.{got}
use Rattle.ol_wire.proofs.closed.Words.at.Goals as goal

pub returns : goal.returns
returns c = (got (slots_items c.self.inside.closed.words) c.args.at c.word.result c.word.ensures).1
    ∙ ap (λ (w : ClosedTable). slice_index w.words c.args.at) c.self.view_is
