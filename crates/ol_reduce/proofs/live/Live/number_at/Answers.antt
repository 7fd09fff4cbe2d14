use Rattle.ol_reduce.proofs.Numbering.{number_read}
use Rattle.ol_reduce.proofs.live.Live.number_at.Goals as goal

pub overflow_sub-result : goal.overflow_sub-result
overflow_sub-result c =
    (number_read c.args.words.now c.args.self.now.places.items c.args.self.now.numbers.items
    c.requires.live c.requires.small.1 c.args.place c.requires.place c.parts.result
    c.parts.ensures c.rank_at.result c.rank_at.ensures c.index.result.now c.index.ensures).0

pub returns-clause-below : goal.returns-clause-below
returns-clause-below c =
    (number_read c.args.words.now c.args.self.now.places.items c.args.self.now.numbers.items
    c.requires.live c.requires.small.1 c.args.place c.requires.place c.parts.result
    c.parts.ensures c.rank_at.result c.rank_at.ensures c.index.result.now c.index.ensures).1

pub returns-clause-place : goal.returns-clause-place
returns-clause-place c =
    (number_read c.args.words.now c.args.self.now.places.items c.args.self.now.numbers.items
    c.requires.live c.requires.small.1 c.args.place c.requires.place c.parts.result
    c.parts.ensures c.rank_at.result c.rank_at.ensures c.index.result.now c.index.ensures).2
