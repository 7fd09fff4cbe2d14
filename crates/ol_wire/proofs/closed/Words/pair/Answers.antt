use Rattle.std.proofs.Common.{◌≡◌, ◌+◌, sym, ap, ◌∙◌, slice_index}
use Rattle.ol_wire.specs.declared.layout.Parts.{Parts}
use Rattle.ol_wire.specs.Layout.{block}
use Rattle.ol_wire.specs.Closed.{ClosedTable}
use Rattle.ol_wire.proofs.closed.Words.pair.Goals as goal

pub returns : goal.returns
returns c =
    let w : ClosedTable = c.args.self.now in
    let z : Parts = w.plan.parts in
    let parts : c.self.inside.parts ≡ z = sym c.self.invariant.1
    ∙ ap (λ (w : ClosedTable). w.plan.parts) c.self.view_is in
    let start : c.block-start.result ≡ block z c.args.k = c.block-start.ensures ∙ ap (λ z. block z c.args.k) parts in
    let one : c.at.result ≡ slice_index w.words (block z c.args.k) = c.at.ensures ∙ ap (slice_index w.words) start in
    let two : c.at-2.result ≡ slice_index w.words (block z c.args.k + 1) = c.at-2.ensures
    ∙ ap (λ n. slice_index w.words (n + 1)) start in
    ap (λ x. (x, c.at-2.result)) one ∙ ap (λ x. (slice_index w.words (block z c.args.k), x)) two
