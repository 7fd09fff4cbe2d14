-- A step keeps paths, over any names and over numbers.
use Rattle.std.proofs.Common.{◌≡◌, ℕ, ◌+◌, ◌<◌, true, length, Some, ap, ◌∙◌, arith, nat_eq}
use Rattle.std.proofs.lemmas.Bool.Decides.{nat_tests}
use Rattle.ol_invariance.proofs.Named.{keeps_paths}
use Rattle.ol_invariance.proofs.Table.{rule_suits}
use Rattle.ol_invariance.specs.Laws.{StepKeepsPaths, GraphStepKeepsPaths}
use Rattle.ol_net.proofs.Numbered.{has_node}
use Rattle.ol_net.proofs.Places.{kind_at-within}
use Rattle.ol_net.specs.Graph.{Graph, has_slot}
use Rattle.ol_net.specs.Nets.{HasNode}
use Rattle.ol_net.specs.Numbered.{net_of}
use Rattle.ol_net.specs.declared.parts.Kind.{Kind}
use Rattle.ol_rules.proofs.Relation.{net_kept}
use Rattle.ol_rules.proofs.Tests.{nat_test}
use Rattle.ol_rules.proofs.OnTheWay.{fresh_numbers}
use Rattle.ol_rules.specs.Laws.{IsFresh}
use Rattle.ol_rules.specs.Rewriting.{action_of}

pub step_keeps : {A : Type 0} → StepKeepsPaths A
step_keeps same t born N M f g r n fresh s =
    let a = s.active in
    let n' = net_kept same t born N f g a.k a.i a.l a.j r n a.faces fresh a.fits M s.rewrites in
    keeps_paths N f g a.k a.i a.l a.j (action_of r a.j) born same t n a.faces fresh M s.rewrites n'
    (rule_suits a.k a.i a.l a.j r a.fits)

pub graph_step_keeps : GraphStepKeepsPaths
graph_step_keeps old new at r n s = step_keeps nat_eq nat_test (λ place. length old.nodes + place)
    (net_of old) (net_of new) s.f s.g r n (fresh_numbers old) s.step
