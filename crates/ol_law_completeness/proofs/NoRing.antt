-- No run of a term's net leads to a ring of principal ports.
-- For `no_ring`.
use Rattle.ol_net.specs.Nets.{net_under}
use Rattle.ol_rules.proofs.StartNets.{one_start, start_net, start_named}
use Rattle.ol_rules.specs.declared.journal.NodeName.TheVariants.{Init}
use Rattle.ol_translate.specs.Translation.{translation_of}
use Rattle.ol_law_completeness.proofs.Circling.{no_loop}
use Rattle.ol_law_completeness.proofs.LoopNames.{loop_unnamed}
use Rattle.ol_law_completeness.proofs.Loops.{rings_are_loops}
use Rattle.ol_law_completeness.specs.Rings.{TermHasNoRing}

pub no_ring : TermHasNoRing
no_ring τ t names h K n same journal M run p d =
    no_loop τ t names h (loop_unnamed Init one_start (translation_of τ t names) K same
    (rings_are_loops (net_under Init K) M 0 journal (start_net K n) (start_named K) run p d))
