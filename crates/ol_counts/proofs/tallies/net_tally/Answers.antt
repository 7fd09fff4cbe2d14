use Rattle.std.proofs.Common.{ap}
use Rattle.ol_rules.specs.declared.journal.Counts.{Counts}
use Rattle.ol_counts.specs.declared.tallies.Tally.{Tally}
use Rattle.ol_counts.specs.declared.tallies.Numbers.TheVariants.{Net}
use Rattle.ol_counts.proofs.tallies.net_tally.Goals as goal

pub returns : goal.returns
returns c =
    let T : Counts → Tally = λ n. record {
      numbers = Net n c.stuck-stuck.result c.args.read;
      ended = c.args.ended;
    } in
    (c.stuck-stuck.result, c.stuck-stuck.ensures.stuck, ap T c.counts-counts.ensures)
