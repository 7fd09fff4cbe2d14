use Rattle.std.proofs.Common.{arith}
use Rattle.ol_parse.proofs.Exact.{too_deep, few_in_text}
use Rattle.ol_parse.proofs.parsing.read_file.Goals as goal

pub returns-then-depth-clause-refused : goal.returns-then-depth-clause-refused
returns-then-depth-clause-refused c =
    let (t, i, b) = c.in_ok-steps.ensures.found in
    too_deep c.args.text.now t c.in_ok-depth.depth i (c.in_ok-depth.ensures t (cc)) (omega arith)

pub number_term-requires-clause-few : goal.number_term-requires-clause-few
number_term-requires-clause-few c =
    let (t, i, b) = c.in_ok-steps.ensures.found in
    few_in_text c.args.text.now c.in_ok-steps.steps.items c.deref-2.result.now t i b c.deref-2.ensures.value
    c.requires
