use Rattle.std.proofs.Common.{◌∙◌}
use Rattle.ol_wire.proofs.Opening.Keeps.{IsStart, opens_as}
use Rattle.ol_wire.proofs.net_words.lay.Goals as goal

pub returns-clause-words : goal.returns-clause-words
returns-clause-words c = c.in_ok-parts.words.ok.0 ∙ c.in_ok-parts.ensures.laid.wide

pub returns-clause-kept : goal.returns-clause-kept
returns-clause-kept c =
    let is : IsStart c.args.net.now c.args.fuel.most c.in_ok-parts.parts c.in_ok-parts.words.items = record {
      is_net = c.is_net.ensures.net;
      whole = c.requires.whole;
      parts = c.in_ok-parts.ensures.parts;
      small = c.in_ok-parts.ensures.small;
      laid = c.in_ok-parts.ensures.laid;
      live = c.in_ok-parts.ensures.live;
      low = c.requires.small.indexes;
      tabled = c.is_tabled.ensures.tables;
      indexes = c.is_tabled.ensures.indexes;
    } in
    λ p is_parts is_net some_seat few_seats.
    opens_as p c.args.net.now c.args.fuel.most c.in_ok-parts.parts c.in_ok-parts.words.items is
    is_parts is_net some_seat few_seats
