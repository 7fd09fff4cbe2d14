-- Names that have no active numbers are no active pair.
use Rattle.std.proofs.Common.{◌≡◌, ℕ, ◌<◌, List, length, Some, ap, ◌∙◌}
use Rattle.ol_net.specs.Graph.{Graph}
use Rattle.ol_net.specs.Nets.{net_under}
use Rattle.ol_net.specs.Numbered.{net_of}
use Rattle.ol_net.specs.Pairs.{IsActive}
use Rattle.ol_rules.specs.declared.journal.NodeName.{NodeName}
use Rattle.ol_rules.proofs.NameOrder.{Names, names_apart}
use Rattle.ol_rules.proofs.Renaming.{active_from}
use Rattle.ol_rules.proofs.OnTheWay.{node_below}
use Rattle.ol_diamond.specs.Replaying.{AreIdle, AreIdleNumbers}
use Rattle.ol_rules.specs.UnderWay.{node_number}
use Rattle.ol_diamond.proofs.Replays.{Index}

-- the pair of two names that have no active numbers
pub idle_names : (g : Graph) (bases : List ℕ) (start ticket : ℕ) (m : ℕ → NodeName)
    (a b : NodeName) → Names start (length g.nodes) ticket m → Index bases (length g.nodes) ticket m →
    AreIdleNumbers g bases a b → AreIdle (net_under m (net_of g)) a b
idle_names g bases start ticket m a b n i idle r = ((λ x. one a b x idle), (λ x. other a b x idle))
  where
    number : (x : NodeName) (f : ℕ) → x ≡ m f → f < length g.nodes → node_number bases x ≡ Some f
    number x f e l = ap (node_number bases) e ∙ i.finds f l

    one : (a b : NodeName) → IsActive (net_under m (net_of g)) a b r → AreIdleNumbers g bases a b → ⊥
    one a b x idle =
        let t = active_from m (names_apart start (length g.nodes) ticket m n) (net_of g) a b r x in
        let f = node_below g t.0 t.4.k t.4.i t.4.faces.first in
        let h = node_below g t.1 t.4.l t.4.j t.4.faces.second in
        (idle t.0 t.1 (number a t.0 t.2 f) (number b t.1 t.3 h) r).0 t.4

    other : (a b : NodeName) → IsActive (net_under m (net_of g)) b a r → AreIdleNumbers g bases a b → ⊥
    other a b x idle =
        let t = active_from m (names_apart start (length g.nodes) ticket m n) (net_of g) b a r x in
        let f = node_below g t.0 t.4.k t.4.i t.4.faces.first in
        let h = node_below g t.1 t.4.l t.4.j t.4.faces.second in
        (idle t.1 t.0 (number a t.1 t.3 h) (number b t.0 t.2 f) r).1 t.4
