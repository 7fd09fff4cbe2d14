use Rattle.std.proofs.Common.{arith}
use Rattle.ol_decoding.proofs.Placed.{whole_path}
use Rattle.ol_decoding.proofs.finding.path_of.Goals as goal

pub returns : goal.returns
returns c = whole_path c.args.tree.now c.args.place c.back.at c.back.trees c.back.numbers.items c.reverse.new.self.items
    c.is_whole.ensures.whole c.requires (omega (arith, c.back-test.false)) c.reverse.ensures.items c.back.invariant.0
