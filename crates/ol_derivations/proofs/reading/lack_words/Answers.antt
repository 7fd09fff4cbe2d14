use Rattle.std.proofs.Common.{sym, ap}
use Rattle.std.specs.Fmt.{digits}
use Rattle.ol_derivations.specs.Reads.{lack_words}
use Rattle.ol_derivations.proofs.reading.lack_words.Goals as goal

pub returns-in-Depth : goal.returns-in-Depth
unfolding digits
returns-in-Depth c = ap lack_words (sym c.in-Depth.is)

pub returns-in-Nodes : goal.returns-in-Nodes
unfolding digits
returns-in-Nodes c = ap lack_words (sym c.in-Nodes.is)
