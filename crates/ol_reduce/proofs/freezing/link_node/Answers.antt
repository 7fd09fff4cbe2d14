use Rattle.std.proofs.Common.{◌+◌, refl, ◌∙◌, arith}
use Rattle.ol_reduce.proofs.Rounds.{slot_word_at, slot_within, slot_below, past_slot, keeps_all, place_read}
use Rattle.ol_reduce.proofs.freezing.link_node.Goals as goal

pub link_one-requires-clause-at : goal.link_one-requires-clause-at
link_one-requires-clause-at c =
    slot_within c.args.words.now c.args.live.now.places.items c.args.live.now.numbers.items
    c.requires.live c.stands.ensures.stands c.args.node 0 c.index-at.result.now c.requires.node
    (omega arith) (omega (
      arith,
      place_read c.args.live.now.places.items c.args.node
          c.index-at.result.now c.requires.node c.index-at.ensures,
    ))

pub link_one-requires-clause-word : goal.link_one-requires-clause-word
link_one-requires-clause-word c =
    slot_word_at c.args.words.now c.args.live.now.places.items c.args.live.now.numbers.items
    c.requires.live c.stands.ensures.stands c.args.node 0 c.place_of-one.result
    c.index-at.result.now c.requires.node (omega arith)
    (omega (arith, c.place_of-one.ensures, c.requires.free))
    (omega (
      arith,
      place_read c.args.live.now.places.items c.args.node c.index-at.result.now
          c.requires.node c.index-at.ensures,
    ))

pub link_one-requires-clause-before : goal.link_one-requires-clause-before
link_one-requires-clause-before c = (
  c.requires.before.0,
  past_slot c.args.words.now c.args.live.now.places.items
      c.args.live.now.numbers.items c.requires.live c.stands.ensures.stands
      c.args.draft.now.partners.items c.args.met.now.items c.args.node _ c.place_of-one.result
      refl (omega (arith, c.place_of-one.ensures, c.requires.free)) c.requires.before.1,
)

pub overflow_add-at : goal.overflow_add-at
overflow_add-at c =
    let h = slot_below c.args.words.now c.args.live.now.places.items c.args.live.now.numbers.items
    c.requires.live c.stands.ensures.stands c.args.node 1
    (c.index-at.result.now + 1) c.requires.node (omega arith)
    (omega (
      arith,
      place_read c.args.live.now.places.items c.args.node c.index-at.result.now
          c.requires.node c.index-at.ensures,
    )) in record { fits = omega (arith, h) }

pub link_one-requires-2-clause-at : goal.link_one-requires-2-clause-at
link_one-requires-2-clause-at c =
    slot_within c.args.words.now c.args.live.now.places.items c.args.live.now.numbers.items
    c.requires.live c.stands.ensures.stands c.args.node 1
    (c.index-at.result.now + 1) c.requires.node (omega arith)
    (omega (
      arith,
      place_read c.args.live.now.places.items c.args.node c.index-at.result.now
          c.requires.node c.index-at.ensures,
    ))

pub link_one-requires-2-clause-word : goal.link_one-requires-2-clause-word
link_one-requires-2-clause-word c =
    slot_word_at c.args.words.now c.args.live.now.places.items c.args.live.now.numbers.items
    c.requires.live c.stands.ensures.stands c.args.node 1 c.place_of-two.result
    (c.index-at.result.now + 1) c.requires.node (omega arith)
    (omega (arith, c.place_of-two.ensures, c.link_one.ensures.free, c.requires.free))
    (omega (
      arith,
      place_read c.args.live.now.places.items c.args.node c.index-at.result.now
          c.requires.node c.index-at.ensures,
    ))

pub returns-clause-keeps : goal.returns-clause-keeps
returns-clause-keeps c = (
  keeps_all c.args.draft.now.partners.items c.link_one.new.draft.partners.items
      c.link_one-2.new.draft.partners.items c.link_one.ensures.keeps.0
      c.link_one-2.ensures.keeps.0,
  c.link_one-2.ensures.keeps.1 ∙ c.link_one.ensures.keeps.1,
)
