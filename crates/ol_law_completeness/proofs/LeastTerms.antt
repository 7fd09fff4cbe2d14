-- Demand order is least on nets of terms.
use Rattle.std.proofs.Common.{arith}
use Rattle.ol_law_completeness.specs.Terms.{TermIsReadLeast, TermIsDemandedLeast, CompleteRunIsEnough}
use Rattle.ol_law_completeness.specs.Terms.{TermNetIsFit, TermIsReadByTheLeast, TermIsReadWhereOneServes}
use Rattle.ol_demand.specs.Answers.{start_of}
use Rattle.ol_law_completeness.proofs.CompleteRuns.{complete_is_enough, demanded_is_least}
use Rattle.ol_law_completeness.proofs.Least.{demand_is_least}
use Rattle.ol_law_completeness.proofs.Levelled.{start, levels, clear}
use Rattle.ol_law_completeness.proofs.Served.{ends_where_one_serves}
use Rattle.ol_law_completeness.proofs.TheLeast.{demand_is_the_least}

pub term_is_read_least : TermIsReadLeast
term_is_read_least τ t names h g is_net same M P most heads turns journal other places a below
    turned run enough =
    demand_is_least (start_of g) M P most heads turns journal other places a
    (start τ t names h g is_net same) (clear τ t names h g is_net same) below turned run enough

pub term_is_demanded_least : TermIsDemandedLeast
term_is_demanded_least τ t names h g is_net same M heads turns journal places a turned =
    demanded_is_least (start_of g) M heads turns journal places a (start τ t names h g is_net same)
    (levels τ t names h g is_net same) turned

pub complete_run_is_enough : CompleteRunIsEnough
complete_run_is_enough τ t names h g is_net same M heads journal places d =
    complete_is_enough (start_of g) M heads journal places (start τ t names h g is_net same)
    (clear τ t names h g is_net same) d

pub term_is_read_by_the_least : TermIsReadByTheLeast
term_is_read_by_the_least τ t names h g is_net same M heads journal places d =
    demand_is_the_least (start_of g) M heads journal places (start τ t names h g is_net same)
    (clear τ t names h g is_net same) d

pub term_net_is_fit : TermNetIsFit
term_net_is_fit τ t names h g is_net same = record {
  start = start τ t names h g is_net same;
  levelled = levels τ t names h g is_net same;
  clear = clear τ t names h g is_net same;
  root = (let e = same.free_ports in
      omega arith);
}

pub term_is_read_where_one_serves : TermIsReadWhereOneServes
term_is_read_where_one_serves τ t names h g is_net same P heads other run enough =
    let fit = term_net_is_fit τ t names h g is_net same in
    ends_where_one_serves (start_of g) P heads other fit.start fit.clear fit.root run enough
