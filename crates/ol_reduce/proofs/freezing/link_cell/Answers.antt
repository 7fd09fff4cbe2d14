use Rattle.std.proofs.Common.{◌≡◌, ◌<◌, slice_index, ap, ◌∙◌, arith}
use Rattle.ol_wire.specs.declared.layout.Parts.{Parts}
use Rattle.ol_wire.specs.Layout.{left_word, cells_of}
use Rattle.ol_reduce.proofs.Arriving.{cell_left, cell_right, cell_empty, cell_partly, cell_listed}
use Rattle.ol_wire.proofs.InWords.Places.{part_cell}
use Rattle.ol_reduce.proofs.Rounds.{place_read}
use Rattle.ol_reduce.proofs.freezing.link_cell.Goals as goal

pub returns-then-left-eq0-clause-after : goal.returns-then-left-eq0-clause-after
returns-then-left-eq0-clause-after c =
    let here : c.index-cell.result.now ≡ slice_index c.args.cells.now.items c.args.k = place_read
    c.args.cells.now.items c.args.k c.index-cell.result.now c.requires.k c.index-cell.ensures in
    let low : c.index-cell.result.now < cells_of c.args.words.now.plan.parts = omega
    (arith, here, c.requires.cells c.args.k c.requires.k) in (
      c.requires.before.0,
      cell_empty c.args.words.now c.args.live.now.places.items c.args.live.now.numbers.items
          c.requires.live c.stands.ensures.stands c.index-cell.result.now c.left_word-at.result low
          (c.left_word-at.ensures ∙ ap (λ (z : Parts).
          left_word z c.index-cell.result.now) c.parts.ensures) c.args.cells.now.items c.args.k
          here c.args.draft.now.partners.items c.word_at-left.result c.word_at-left.ensures
          c.if-left-eq0.true c.requires.before.1,
    )

pub arrive-one-requires-clause-node : goal.arrive-one-requires-clause-node
arrive-one-requires-clause-node c =
    let here : c.index-cell.result.now ≡ slice_index c.args.cells.now.items c.args.k = place_read
    c.args.cells.now.items c.args.k c.index-cell.result.now c.requires.k c.index-cell.ensures in
    let low : c.index-cell.result.now < cells_of c.args.words.now.plan.parts = omega
    (arith, here, c.requires.cells c.args.k c.requires.k) in
    cell_left c.args.words.now c.args.live.now.places.items c.args.live.now.numbers.items
    c.requires.live c.stands.ensures.stands c.index-cell.result.now c.left_word-at.result low
    (c.left_word-at.ensures ∙ ap (λ (z : Parts).
    left_word z c.index-cell.result.now) c.parts.ensures) c.word_at-left.result
    c.word_at-left.ensures c.if-left-eq0.false

pub arrive-other-requires-clause-node : goal.arrive-other-requires-clause-node
arrive-other-requires-clause-node c =
    let here : c.index-cell.result.now ≡ slice_index c.args.cells.now.items c.args.k = place_read
    c.args.cells.now.items c.args.k c.index-cell.result.now c.requires.k c.index-cell.ensures in
    let low : c.index-cell.result.now < cells_of c.args.words.now.plan.parts = omega
    (arith, here, c.requires.cells c.args.k c.requires.k) in
    cell_right c.args.words.now c.args.live.now.places.items c.args.live.now.numbers.items
    c.requires.live c.stands.ensures.stands c.index-cell.result.now c.left_word-at.result low
    (c.left_word-at.ensures ∙ ap (λ (z : Parts).
    left_word z c.index-cell.result.now) c.parts.ensures) c.word_at-left.result
    c.word_at-right.result c.word_at-left.ensures c.if-left-eq0.false c.word_at-right.ensures

pub returns-clause-after : goal.returns-clause-after
returns-clause-after c =
    let here : c.index-cell.result.now ≡ slice_index c.args.cells.now.items c.args.k = place_read
    c.args.cells.now.items c.args.k c.index-cell.result.now c.requires.k c.index-cell.ensures in
    let low : c.index-cell.result.now < cells_of c.args.words.now.plan.parts = omega
    (arith, here, c.requires.cells c.args.k c.requires.k) in
    let is = c.left_word-at.ensures ∙ ap (λ (z : Parts). left_word z c.index-cell.result.now) c.parts.ensures in (
      cell_partly c.args.words.now c.args.live.now.places.items c.args.live.now.numbers.items
          c.requires.live c.stands.ensures.stands c.index-cell.result.now c.left_word-at.result low
          is c.args.cells.now.items c.args.k here
          c.word_at-left.result c.word_at-right.result c.word_at-left.ensures c.if-left-eq0.false
          c.word_at-right.ensures
          c.arrive-one.new.draft.kinds.items c.arrive-other.new.draft.kinds.items
          c.link.new.self.kinds.items c.args.draft.now.partners.items
          c.arrive-one.new.draft.partners.items c.arrive-other.new.draft.partners.items
          c.link.new.self.partners.items
          c.arrive-one.result c.arrive-other.result c.requires.before.1
          c.arrive-one.ensures.partners c.arrive-one.ensures.within c.arrive-one.ensures.site
          c.arrive-other.ensures.partners c.arrive-other.ensures.within c.arrive-other.ensures.after
          c.arrive-other.ensures.site c.arrive-other.ensures.keeps c.link.ensures.kinds c.link.ensures.partners,
      cell_listed c.args.words.now c.args.live.now.places.items c.args.live.now.numbers.items
          c.requires.live c.stands.ensures.stands c.index-cell.result.now c.left_word-at.result low
          is c.args.cells.now.items c.args.k here
          c.word_at-left.result c.word_at-right.result c.word_at-left.ensures c.if-left-eq0.false
          c.word_at-right.ensures
          c.arrive-one.new.draft.kinds.items c.arrive-other.new.draft.kinds.items
          c.link.new.self.kinds.items c.args.draft.now.partners.items
          c.arrive-one.new.draft.partners.items c.arrive-other.new.draft.partners.items
          c.link.new.self.partners.items
          c.arrive-one.result c.arrive-other.result c.requires.before.1
          c.arrive-one.ensures.partners c.arrive-one.ensures.within c.arrive-one.ensures.site
          c.arrive-other.ensures.partners c.arrive-other.ensures.within c.arrive-other.ensures.after
          c.arrive-other.ensures.site c.arrive-other.ensures.keeps c.link.ensures.kinds c.link.ensures.partners,
    )

pub word_at-left-requires : goal.word_at-left-requires
word_at-left-requires c =
    let here : c.index-cell.result.now ≡ slice_index c.args.cells.now.items c.args.k = place_read
    c.args.cells.now.items c.args.k c.index-cell.result.now c.requires.k c.index-cell.ensures in
    let low : c.index-cell.result.now < cells_of c.args.words.now.plan.parts = omega
    (arith, here, c.requires.cells c.args.k c.requires.k) in
    let is : c.left_word-at.result ≡ left_word c.args.words.now.plan.parts
    c.index-cell.result.now = c.left_word-at.ensures
    ∙ ap (λ (z : Parts). left_word z c.index-cell.result.now) c.parts.ensures in
    omega (
      arith,
      is,
      (part_cell c.args.words.now.plan.parts c.index-cell.result.now low).2,
      c.stands.ensures.stands.2.wide,
    )

pub word_at-right-requires : goal.word_at-right-requires
word_at-right-requires c =
    let here : c.index-cell.result.now ≡ slice_index c.args.cells.now.items c.args.k = place_read
    c.args.cells.now.items c.args.k c.index-cell.result.now c.requires.k c.index-cell.ensures in
    let low : c.index-cell.result.now < cells_of c.args.words.now.plan.parts = omega
    (arith, here, c.requires.cells c.args.k c.requires.k) in
    let is : c.left_word-at.result ≡ left_word c.args.words.now.plan.parts
    c.index-cell.result.now = c.left_word-at.ensures
    ∙ ap (λ (z : Parts). left_word z c.index-cell.result.now) c.parts.ensures in
    omega (
      arith,
      is,
      (part_cell c.args.words.now.plan.parts c.index-cell.result.now low).2,
      c.stands.ensures.stands.2.wide,
    )
