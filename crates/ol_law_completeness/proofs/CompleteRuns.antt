-- The net after a complete run is enough for what a demand run reads; and demand order's journal
-- is least for the places that it was asked for.
use Rattle.std.proofs.Common.{arith}
use Rattle.ol_diamond.proofs.Journals.{birth_follows}
use Rattle.ol_demand.proofs.Needed.{each_is_needed}
use Rattle.ol_demand.proofs.Turning.{turns_kept}
use Rattle.ol_law_completeness.specs.Least.{CompleteIsEnough, DemandedIsLeast}
use Rattle.ol_law_completeness.proofs.Demanded.{demanded_is_enough}
use Rattle.ol_law_completeness.proofs.Lasting.{enough_lasts}
use Rattle.ol_law_completeness.proofs.Least.{demand_is_least}
use Rattle.ol_law_completeness.proofs.Levelled.{stays_clear}
use Rattle.ol_law_completeness.proofs.Serving.{lasts_beyond}

-- a complete run has rewritten all that the demand run rewrites
pub complete_is_enough : CompleteIsEnough
complete_is_enough N M heads journal places s clear d other P run complete =
    let k = turns_kept s d.run in
    let r = birth_follows N M journal s.net s.named k.run in
    let u = birth_follows N P other s.net s.named run in
    enough_lasts M P (lasts_beyond N M P journal other s clear k.run run r u
    (each_is_needed N M P heads d.turns journal other d.asked_places d.last s d.run run complete r
    u)) (demanded_is_enough N M heads journal places s clear d)

pub demanded_is_least : DemandedIsLeast
demanded_is_least N M heads turns journal places a s L t =
    let k = turns_kept s t in
    let births = birth_follows N M journal s.net s.named k.run in
    record {
      net = M;
      run = k.run;
      births = births;
      needed = λ other P run e u.
          (demand_is_least N M P heads heads turns journal other places a s (stays_clear N s L)
          (omega arith) t run e).0 births u;
      no_shorter = λ other P run e.
          (demand_is_least N M P heads heads turns journal other places a s (stays_clear N s L)
          (omega arith) t run e).1;
    }
