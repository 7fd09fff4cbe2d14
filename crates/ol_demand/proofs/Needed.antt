-- Each pair that is rewritten is rewritten in every complete run.
use Rattle.std.proofs.Common.{List, subst}
use Rattle.ol_net.specs.Nets.{NamedNet, net_under}
use Rattle.ol_rules.specs.declared.journal.NodeName.{NodeName}
use Rattle.ol_rules.specs.declared.journal.Entry.{Entry}
use Rattle.ol_diamond.specs.Runs.{IsPairRun}
use Rattle.ol_diamond.proofs.Confluence.{each_pair_is_among}
use Rattle.ol_diamond.proofs.Journals.{birth_follows, complete_follows}
use Rattle.ol_diamond.proofs.OneThreadRuns.{start_alike}
use Rattle.ol_readback.specs.declared.answers.ReadNode.{ReadNode}
use Rattle.ol_demand.specs.Answers.{IsNeeded}
use Rattle.ol_demand.specs.Demands.{Asking, Turns}
use Rattle.ol_demand.specs.Laws.{IsStart, EachPairIsNeeded, TurnsAreRun}
use Rattle.ol_demand.proofs.Turning.{turns_kept}

pub turns_are_run : TurnsAreRun
turns_are_run N M heads turns journal places a s r = let k = turns_kept s r in (k.run, k.paths)

pub each_is_needed : EachPairIsNeeded
each_is_needed N M P heads turns journal complete places a s t run done r u q h =
    let d = (complete_follows N P complete s.net s.named run u).0 done in
    let second = subst (λ B. IsPairRun B u.pairs u.after)
    (start_alike N s.net s.named u.birth r.birth u.initial r.initial) u.run in
    each_pair_is_among (net_under r.birth N) u.after r.after u.pairs r.pairs r.start second d r.run q h

pub needed : {N M : NamedNet NodeName} {heads turns : _} {journal : List Entry}
    {places : List ReadNode} {a : Asking} → IsStart N → Turns N heads turns journal places M a → IsNeeded N journal
needed {N = N} {M = M} {heads = heads} {turns = turns} {journal = journal} {places = places} {a = a} s t =
    let k = turns_kept s t in
    let r = birth_follows N M journal s.net s.named k.run in
    record {
      net = M;
      run = k.run;
      births = r;
      needed = λ complete P run done u. each_is_needed N M P heads turns journal complete places a s t run done r u;
    }
