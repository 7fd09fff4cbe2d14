use Rattle.std.proofs.Common.{◌≡◌, ℕ, ◌<◌, ◌+◌, Some, sym, ap, ◌∙◌, subst, arith, slice_index}
use Rattle.ol_rules.specs.declared.journal.Entry.{Entry}
use Rattle.ol_wire.specs.declared.layout.Parts.{Parts}
use Rattle.ol_wire.specs.References.{place_in}
use Rattle.ol_wire.specs.Layout.{block}
use Rattle.ol_wire.specs.Events.{event_of, entry_of}
use Rattle.ol_wire.specs.Closed.{ClosedTable}
use Rattle.ol_wire.specs.ClosedRule.{IsClosed}
use Rattle.ol_wire.proofs.Closing.Table.{place_small, entry_at, no_entry}
use Rattle.ol_wire.proofs.closed.Words.journal.Goals as goal

pub returns-then-k-events : goal.returns-then-k-events
returns-then-k-events c = sym (no_entry c.args.self.now.plan.parts c.args.self.now.words c.args.k
    (omega (arith, c.events.ensures)))

pub entry-requires-clause-places : goal.entry-requires-clause-places
entry-requires-clause-places c =
    let w : ClosedTable = c.args.self.now in
    let closed : IsClosed w = subst IsClosed c.self.view_is c.self.invariant.5 in
    let small : (n x : ℕ) → 1 < n → x ≡ slice_index w.words n →
    place_in x < 4294967296 = λ n x lt e.
    subst (λ x. place_in x < 4294967296) (sym e) (place_small w closed n lt) in (
      small c.block-start.result c.at-first.result
          (omega (arith, c.block-start.ensures)) c.at-first.ensures,
      small (c.block-start.result + 1) c.at-second.result (omega arith) c.at-second.ensures,
    )

pub returns : goal.returns
returns c =
    let w : ClosedTable = c.args.self.now in
    let z : Parts = w.plan.parts in
    let parts : c.self.inside.parts ≡ z = sym c.self.invariant.1
    ∙ ap (λ (w : ClosedTable). w.plan.parts) c.self.view_is in
    let start : c.block-start.result ≡ block z c.args.k = c.block-start.ensures ∙ ap (λ z. block z c.args.k) parts in
    let one : c.at-first.result ≡ slice_index w.words (block z c.args.k) = c.at-first.ensures
    ∙ ap (slice_index w.words) start in
    let two : c.at-second.result ≡ slice_index w.words (block z c.args.k + 1) = c.at-second.ensures
    ∙ ap (λ n. slice_index w.words (n + 1)) start in
    let entry : c.entry.result ≡ entry_of z
    (event_of (slice_index w.words (block z c.args.k)) (slice_index w.words (block z c.args.k + 1))) =
    c.entry.ensures ∙ ap (λ z. entry_of z (event_of c.at-first.result c.at-second.result)) parts
    ∙ ap (λ x. entry_of z (event_of x c.at-second.result)) one
    ∙ ap (λ x. entry_of z (event_of (slice_index w.words (block z c.args.k)) x)) two in
    ap (λ (e : Entry). Some e) entry ∙ sym (entry_at z w.words c.args.k (omega (arith, c.events.ensures)))
