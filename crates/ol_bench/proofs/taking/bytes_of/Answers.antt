use Rattle.std.proofs.Common.{sym, ap, ◌∙◌}
use Rattle.ol_bench.specs.Inputs.{most_of, told_of}
use Rattle.ol_bench.proofs.Onward.{whole_within}
use Rattle.ol_bench.proofs.taking.bytes_of.Goals as goal

pub returns-in-Name-clause-whole : goal.returns-in-Name-clause-whole
returns-in-Name-clause-whole g c = λ files of.
    let e = c.read_all.ensures in
    whole_within (told_of files c.args.given.now) (files 0 c.as_str.result.now) (most_of c.args.content)
    c.most_of.result (g.S.Source.given c.read_all.new.src) c.read_all.result
    (ap (told_of files) c.in-Name.is ∙ ap (files 0) (sym c.as_str.ensures.value))
    (e.whole_of files of) e.counted e.too_long c.most_of.ensures
