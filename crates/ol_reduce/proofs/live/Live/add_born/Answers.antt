use Rattle.std.proofs.Common.{◌≡◌, suc, ◌+◌, ◌*◌, false, nat_lt, get_or, ap, ◌∙◌, subst, arith}
use Rattle.std.proofs.lemmas.Bool.Decides.{nat_tests}
use Rattle.ol_wire.specs.declared.layout.Parts.{Parts}
use Rattle.ol_rules.specs.declared.journal.NodeName.TheVariants.{Born}
use Rattle.ol_wire.specs.Layout.{block}
use Rattle.ol_reduce.specs.Left.{AreLeft, births_at}
use Rattle.ol_reduce.proofs.Births.{births_read, births_long}
use Rattle.ol_reduce.proofs.Numbering.{by_mark, by_births, name_of_born}
use Rattle.ol_reduce.proofs.live.Live.add_born.Goals as goal
use Rattle.ol_reduce.proofs.live.Live.add_born.Goals.{then-place-births, else-place-births}

pub index-births-requires : goal.index-births-requires
index-births-requires c = omega (
  arith,
  c.requires.drawn.1,
  births_long c.args.words.now c.args.tally.now.births.items c.requires.tally.births,
)

pub loop-place-init : goal.loop-place-init
loop-place-init c =
    let e : c.args.words.now.plan.parts.nodes + 4 * c.args.ticket ≡ c.args.words.now.plan.parts.nodes + 4 * c.args.ticket + 0 = omega arith in
    subst (λ n. AreLeft c.args.words.now n c.args.self.now.places.items
    c.args.self.now.numbers.items) e c.requires.before

pub loop-place-preserved : goal.loop-place-preserved
loop-place-preserved c =
    let z = c.args.words.now.plan.parts in
    let n = z.nodes + 4 * c.args.ticket + c.loop-place.place in
    let e : suc n ≡ z.nodes + 4 * c.args.ticket + (c.loop-place.place + 1) = omega arith in
    let at : c.block.result + 2 + 2 * c.loop-place.place ≡ block z
    c.args.ticket + 2 + 2 * c.loop-place.place = ap (λ b. b + 2 + 2 * c.loop-place.place)
    (c.block.ensures ∙ ap (λ (z : Parts). block z c.args.ticket) c.parts-parts.ensures) in
    let born : c.index-births.result.now ≡ births_at c.args.words.now c.args.ticket = births_read c.args.words.now
    c.args.tally.now.births.items c.args.ticket c.index-births.result.now c.requires.tally.births c.requires.drawn.1
    c.index-births.ensures in
    let here : c.parts-parts.result.nodes + 4 * c.args.ticket + c.loop-place.place ≡ n = ap
    (λ (z : Parts). z.nodes + 4 * c.args.ticket + c.loop-place.place) c.parts-parts.ensures in
    subst (λ n. AreLeft c.args.words.now n c.add.new.self.places.items c.add.new.self.numbers.items)
    e (elim c.if-place-births.branch [
      | then-place-births w ↦
          by_mark c.args.words.now c.args.tally.now.marks.items c.requires.tally.marks n
          (omega (arith, c.loop-place-test.true, c.requires.drawn.1))
          (Born c.args.ticket c.loop-place.place)
          (name_of_born z c.args.ticket c.loop-place.place c.loop-place-test.true)
          c.loop-place.self.places.items c.loop-place.self.numbers.items c.add.new.self.places.items
          c.add.new.self.numbers.items c.loop-place.invariant
          (c.block.result + 2 + 2 * c.loop-place.place) at c.if-place-births.is_left
          c.in_ok-add.ensures.places (c.parts-parts.result.nodes + 4 * c.args.ticket + c.loop-place.place) here c.in_ok-add.ensures.numbers w.index.result.now (w.index.ensures ∙ ap (λ (z : Parts). get_or c.args.tally.now.marks.items (z.nodes + 4 * c.args.ticket + c.loop-place.place) w.index.result.now) c.parts-parts.ensures) w.is_left-is (c.requires.drawn.1, omega (arith, w.if-place-births.true, born))
      | else-place-births w ↦
          by_births c.args.words.now c.args.tally.now.marks.items c.requires.tally.marks n
          (omega (arith, c.loop-place-test.true, c.requires.drawn.1))
          (Born c.args.ticket c.loop-place.place)
          (name_of_born z c.args.ticket c.loop-place.place c.loop-place-test.true)
          c.loop-place.self.places.items c.loop-place.self.numbers.items c.add.new.self.places.items
          c.add.new.self.numbers.items c.loop-place.invariant
          (c.block.result + 2 + 2 * c.loop-place.place) at c.if-place-births.is_left
          c.in_ok-add.ensures.places (c.parts-parts.result.nodes + 4 * c.args.ticket + c.loop-place.place) here c.in_ok-add.ensures.numbers (w.is_left-is ∙ (let f : nat_lt c.loop-place.place c.index-births.result.now ≡ false = grind (arith, nat_tests, w.if-place-births.false) in f))
          (λ h. omega (arith, h.1, w.if-place-births.false, born))
    ])

pub returns : goal.returns
returns c =
    let e : c.args.words.now.plan.parts.nodes + 4 * c.args.ticket + c.loop-place.place ≡ c.args.words.now.plan.parts.nodes + 4 * (c.args.ticket + 1) = omega (arith, c.loop-place-test.false, c.loop-place.auto.place-end) in
    subst (λ n. AreLeft c.args.words.now n c.loop-place.self.places.items
    c.loop-place.self.numbers.items) e c.loop-place.invariant
