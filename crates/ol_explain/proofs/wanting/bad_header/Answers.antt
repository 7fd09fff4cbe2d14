use Rattle.std.proofs.Common.{None}
use Rattle.ol_explain.proofs.Cuts.{header_cut}
use Rattle.ol_explain.proofs.wanting.bad_header.Goals as goal

pub returns-clause-text : goal.returns-clause-text
returns-clause-text c = c.in_ok-answer.ensures.text None 0 (header_cut c.args.text.now c.requires.none)
