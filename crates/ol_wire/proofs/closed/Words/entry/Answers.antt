use Rattle.std.proofs.Common.{◌≡◌, ℕ, ◌<◌, ◌+◌, sym, ap, ◌∙◌, subst, arith, slice_index}
use Rattle.ol_wire.specs.declared.layout.Parts.{Parts}
use Rattle.ol_wire.specs.References.{place_in}
use Rattle.ol_wire.specs.Layout.{block}
use Rattle.ol_wire.specs.Events.{event_of, entry_of}
use Rattle.ol_wire.specs.Closed.{ClosedTable}
use Rattle.ol_wire.specs.ClosedRule.{IsClosed}
use Rattle.ol_wire.proofs.Closing.Table.{place_small}
use Rattle.ol_wire.proofs.closed.Words.entry.Goals as goal

pub entry-requires-clause-places : goal.entry-requires-clause-places
entry-requires-clause-places c =
    let w : ClosedTable = c.args.self.now in
    let closed : IsClosed w = subst IsClosed c.self.view_is c.self.invariant.5 in
    let small : (n x : ℕ) → 1 < n → x ≡ slice_index w.words n →
    place_in x < 4294967296 = λ n x lt e.
    subst (λ x. place_in x < 4294967296) (sym e) (place_small w closed n lt) in (
      small (block w.plan.parts c.args.k) c.args.pair.0 (omega arith)
          (ap (λ p. p.0) c.requires.pair),
      small (block w.plan.parts c.args.k + 1) c.args.pair.1
          (omega arith) (ap (λ p. p.1) c.requires.pair),
    )

pub returns : goal.returns
returns c =
    let w : ClosedTable = c.args.self.now in
    let z : Parts = w.plan.parts in
    let parts : c.self.inside.parts ≡ z = sym c.self.invariant.1
    ∙ ap (λ (w : ClosedTable). w.plan.parts) c.self.view_is in
    c.entry.ensures ∙ ap (λ z. entry_of z (event_of c.args.pair.0 c.args.pair.1)) parts
    ∙ ap (λ p. entry_of z (event_of p.0 p.1)) c.requires.pair
