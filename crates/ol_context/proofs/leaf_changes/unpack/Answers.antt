use Rattle.std.proofs.Common.{◌-◌, arith}
use Rattle.ol_context.specs.declared.leaf.Around.TheVariants.{O, Star, First, Second}
use Rattle.ol_context.proofs.Leaves.{parts_pop}
use Rattle.ol_context.proofs.LeafMoves.{popped, last_is, no_unpack, not_unpacked, unpacks_first}
use Rattle.ol_context.proofs.LeafMoves.{unpacks_second, pair_o, pair_star}
use Rattle.ol_context.proofs.leaf_changes.unpack.Goals as goal

pub returns-then-count-eq0-clause-moved : goal.returns-then-count-eq0-clause-moved
returns-then-count-eq0-clause-moved c = no_unpack c.args.values.now c.args.levels.now.items
    c.args.leaf.now.at c.args.leaf.now.around.items
    (omega (arith, c.args.leaf.now.around.ok.0, c.len-count.ensures, c.if-count-eq0.true))

pub returns-in_ok-put_in-in-First-clause-held : goal.returns-in_ok-put_in-in-First-clause-held
returns-in_ok-put_in-in-First-clause-held c =
    let t = parts_pop c.args.values.now c.pop-part.new.self.items c.args.leaf.now.around.items
    (First c.in-First.low) (popped c.args.leaf.now.around.items c.pop-part.new.self.items
    c.pop-part.result _ _ c.index.result.now (First c.in-First.low) c.pop-part.ensures.items
    (c.pop-part.ensures.value c.index.result.now
    (omega (arith, c.len-count.ensures, c.if-count-eq0.false)))
    (omega (arith, c.len-count.ensures)) c.index.ensures c.in-First.is) c.requires.held.1 in
    (c.in_ok-put_in-in-First.ensures.held c.args.values.now t.1 c.requires.none.held c.requires.held.0, t.0)

pub returns-in_ok-put_in-in-First-clause-moved : goal.returns-in_ok-put_in-in-First-clause-moved
returns-in_ok-put_in-in-First-clause-moved c =
    unpacks_first c.args.values.now c.args.levels.now.items c.args.leaf.now.at
    c.args.leaf.now.around.items c.pop-part.new.self.items c.in-First.low
    c.put_in.new.levels.items (popped c.args.leaf.now.around.items c.pop-part.new.self.items
    c.pop-part.result _ _ c.index.result.now (First c.in-First.low) c.pop-part.ensures.items
    (c.pop-part.ensures.value c.index.result.now
    (omega (arith, c.len-count.ensures, c.if-count-eq0.false)))
    (omega (arith, c.len-count.ensures)) c.index.ensures c.in-First.is)
    (c.in_ok-put_in-in-First.ensures.ok c.args.values.now c.requires.none.is)

pub returns-in_ok-put_in-in-Second-clause-held : goal.returns-in_ok-put_in-in-Second-clause-held
returns-in_ok-put_in-in-Second-clause-held c =
    let t = parts_pop c.args.values.now c.pop-part-in-Second.new.self.items
    c.args.leaf.now.around.items (Second c.in-Second.high)
    (popped c.args.leaf.now.around.items c.pop-part-in-Second.new.self.items
    c.pop-part-in-Second.result _ _ c.index.result.now
    (Second c.in-Second.high) c.pop-part-in-Second.ensures.items
    (c.pop-part-in-Second.ensures.value c.index.result.now
    (omega (arith, c.len-count.ensures, c.if-count-eq0.false)))
    (omega (arith, c.len-count.ensures)) c.index.ensures c.in-Second.is) c.requires.held.1 in
    (c.in_ok-put_in-in-Second.ensures.held c.args.values.now t.1 c.requires.none.held c.requires.held.0, t.0)

pub returns-in_ok-put_in-in-Second-clause-moved : goal.returns-in_ok-put_in-in-Second-clause-moved
returns-in_ok-put_in-in-Second-clause-moved c =
    unpacks_second c.args.values.now c.args.levels.now.items c.args.leaf.now.at
    c.args.leaf.now.around.items c.pop-part-in-Second.new.self.items c.in-Second.high
    c.put_in-in-Second.new.levels.items (popped c.args.leaf.now.around.items
    c.pop-part-in-Second.new.self.items c.pop-part-in-Second.result _ _ c.index.result.now
    (Second c.in-Second.high) c.pop-part-in-Second.ensures.items
    (c.pop-part-in-Second.ensures.value c.index.result.now
    (omega (arith, c.len-count.ensures, c.if-count-eq0.false)))
    (omega (arith, c.len-count.ensures)) c.index.ensures c.in-Second.is)
    (c.in_ok-put_in-in-Second.ensures.ok c.args.values.now c.requires.none.is)

pub returns-in-O-clause-moved : goal.returns-in-O-clause-moved
returns-in-O-clause-moved c =
    let t = last_is c.args.leaf.now.around.items (c.len-count.result - 1) c.index.result.now O
    (omega (
      arith,
      c.args.leaf.now.around.ok.0,
      c.len-count.ensures,
      c.if-count-eq0.false,
    )) c.index.ensures c.in-O.is in
    not_unpacked c.args.values.now c.args.levels.now.items c.args.leaf.now.at
    c.args.leaf.now.around.items t.0 O t.1 (λ w x y e. pair_o x y w e)

pub returns-in-Star-clause-moved : goal.returns-in-Star-clause-moved
returns-in-Star-clause-moved c =
    let t = last_is c.args.leaf.now.around.items (c.len-count.result - 1) c.index.result.now Star
    (omega (
      arith,
      c.args.leaf.now.around.ok.0,
      c.len-count.ensures,
      c.if-count-eq0.false,
    )) c.index.ensures c.in-Star.is in
    not_unpacked c.args.values.now c.args.levels.now.items c.args.leaf.now.at
    c.args.leaf.now.around.items t.0 Star t.1 (λ w x y e. pair_star x y w e)
