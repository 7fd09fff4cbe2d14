use Rattle.std.proofs.Common.{◌≡◌, ℕ, ◌+◌, ◌*◌, ◌<◌, length, Some, sym, ap, ◌∙◌, subst, arith}
use Rattle.std.proofs.lemmas.List.{take_all}
use Rattle.ol_rules.specs.Counting.{counts_of}
use Rattle.ol_rules.proofs.EntryCounts.{more_counted, have_room}
use Rattle.ol_wire.specs.Closed.{events_drawn, journal_drawn, pair_at}
use Rattle.ol_reduce.specs.Left.{AreMarked, births_before}
use Rattle.ol_reduce.proofs.Births.{pair_read, as_many, births_told, births_more, journal_long, entry_got, entry_read}
use Rattle.ol_reduce.proofs.Numbering.{more_marked, marked_told}
use Rattle.ol_reduce.proofs.live.Tally.of.Goals as goal

pub entry-entry-requires-clause-pair : goal.entry-entry-requires-clause-pair
entry-entry-requires-clause-pair c = pair_read c.args.words.now c.args.pairs.now.items c.loop-ticket.ticket
    c.index-pair.result.now c.requires.pairs
    (omega (arith, c.loop-ticket-test.true, c.events-events.ensures)) c.index-pair.ensures

pub index-pair-requires : goal.index-pair-requires
index-pair-requires c = omega (
  arith,
  c.loop-ticket-test.true,
  c.events-events.ensures,
  as_many c.args.words.now c.args.pairs.now.items c.requires.pairs,
  c.args.pairs.now.ok,
)

pub counted-counts-requires : goal.counted-counts-requires
counted-counts-requires c = have_room (journal_drawn c.args.words.now) c.loop-ticket.ticket c.loop-ticket.counts
    (omega (
      arith,
      c.loop-ticket-test.true,
      c.events-events.ensures,
      journal_long c.args.words.now,
    )) c.loop-ticket.invariant.2
    (omega (arith, c.loop-ticket-test.true, c.events-events.type_inv))

pub loop-ticket-preserved : goal.loop-ticket-preserved
loop-ticket-preserved c =
    let w = c.args.words.now in
    let t = c.loop-ticket.ticket in
    let e = c.entry-entry.result in
    let lt : t < events_drawn w = omega (arith, c.loop-ticket-test.true, c.events-events.ensures) in
    let pair : c.index-pair.result.now ≡ pair_at w.plan.parts w.words t = pair_read w c.args.pairs.now.items t
    c.index-pair.result.now c.requires.pairs lt c.index-pair.ensures in (
      more_marked w t c.loop-ticket.marks.items c.mark.new.marks.items c.mark-in-loop-ticket.new.marks.items e
          c.loop-ticket.invariant.0 (entry_got w t e c.entry-entry.ensures lt)
          (c.mark-in-loop-ticket.ensures.long ∙ c.mark.ensures.long)
          (marked_told w c.parts-parts.result c.events-events.result c.loop-ticket.marks.items
          c.mark.new.marks.items e.first c.parts-parts.ensures c.events-events.ensures c.mark.ensures.marked)
          (marked_told w c.parts-parts.result c.events-events.result c.mark.new.marks.items
          c.mark-in-loop-ticket.new.marks.items e.second c.parts-parts.ensures c.events-events.ensures c.mark-in-loop-ticket.ensures.marked),
      births_more w t c.births.result c.loop-ticket.made.items c.put.new.numbers.items
          c.loop-ticket.invariant.1
          (c.births.ensures ∙ births_told w t e c.index-pair.result.now c.entry-entry.ensures pair) c.in_ok-put.ensures,
      c.counted-counts.ensures ∙ more_counted (journal_drawn w) t e c.loop-ticket.counts
          (omega (arith, lt, journal_long w)) (entry_read w t e c.entry-entry.ensures lt)
          c.loop-ticket.invariant.2,
    )

pub returns : goal.returns
returns c =
    let w = c.args.words.now in
    let i = c.loop-ticket.invariant in
    let all : c.loop-ticket.ticket ≡ events_drawn w = omega (
      arith,
      c.loop-ticket-test.false,
      c.loop-ticket.auto.ticket-end,
      c.events-events.ensures,
    ) in record {
      marks = subst (λ t. AreMarked w t c.loop-ticket.marks.items) all i.0;
      births = i.1 ∙ ap (births_before w) all;
      counts = i.2 ∙ ap counts_of (take_all c.loop-ticket.ticket (journal_drawn w)
          (omega (arith, all, journal_long w)));
    }
