-- What a call's answer says of its net is enough for the paths.
use Rattle.std.proofs.Common.{◌≡◌, ℕ, List, Result, Ok, Err, IfOk, OnErr, sym, subst}
use Rattle.ol_invariance.proofs.Runs.{graph_run_keeps}
use Rattle.ol_invariance.proofs.Steps.{graph_step_keeps}
use Rattle.ol_context.specs.Paths.{HaveSamePaths}
use Rattle.ol_net.specs.Graph.{Graph}
use Rattle.ol_net.specs.Nets.{IsNet}
use Rattle.ol_net.specs.Numbered.{net_of}
use Rattle.ol_net.specs.declared.parts.Rule.{Rule}
use Rattle.ol_rules.specs.Runs.{RunsTo, StopsWithin}
use Rattle.ol_rules.specs.Steps.{StepsAt}
use Rattle.ol_rules.specs.declared.journal.Entry.{Entry}

same_net : (old new : Graph) → new ≡ old → HaveSamePaths (net_of old) (net_of new)
same_net old new e = subst (λ g. HaveSamePaths (net_of old) (net_of g)) (sym e) (λ p c q d. (λ r. r, λ r. r))

pub after_step : {F : Type 0} (old new : Graph) (at : ℕ) (r : Result Rule F) → IsNet (net_of old) →
    IfOk r (λ rule. StepsAt old new at rule) → OnErr r (new ≡ old) → HaveSamePaths (net_of old) (net_of new)
after_step old new at (Ok rule) n h u = graph_step_keeps old new at rule n h
after_step old new at (Err f) n h u = same_net old new u

pub after_run : {R F : Type 0} (journal : R → List Entry) (old new : Graph) (fuel : ℕ)
    (r : Result R F) → IsNet (net_of old) → IsNet (net_of new) →
    IfOk r (λ ran. RunsTo old fuel (journal ran) new) → OnErr r (StopsWithin old fuel new) →
    HaveSamePaths (net_of old) (net_of new)
after_run journal old new fuel (Ok ran) n n' h u = graph_run_keeps old new (journal ran) n n' h.leads
after_run journal old new fuel (Err f) n n' h u = graph_run_keeps old new u.journal n n' u.leads
