-- From an empty draft to the frozen net.
use Rattle.std.proofs.Common.{◌≡◌, ℕ, ◌+◌, ◌*◌, ◌<◌, ◌≤◌, List, length, sym, ap, ◌∙◌, subst, arith}
use Rattle.ol_net.specs.declared.parts.Kind.{Kind}
use Rattle.ol_net.specs.Nets.{NamedNet, SameNet}
use Rattle.ol_net.specs.Graph.{Graph}
use Rattle.ol_net.specs.Build.{Builds}
use Rattle.ol_net.specs.Pairing.{other}
use Rattle.ol_rules.specs.declared.journal.NodeName.{NodeName}
use Rattle.ol_wire.specs.Layout.{cells_of}
use Rattle.ol_wire.specs.Closed.{ClosedTable, IsAfter}
use Rattle.ol_wire.specs.Standing.{is_reached_in}
use Rattle.ol_reduce.specs.Left.{ranks_in, AreLeft}
use Rattle.ol_reduce.specs.Drafts.{frozen_top, all_links, IsFullDraft}
use Rattle.ol_reduce.specs.Frozen.{IsFrozen}
use Rattle.ol_reduce.specs.Found.{IsPartly, AreMetTo, AreCelledTo}
use Rattle.ol_reduce.proofs.Arriving.{Told, table_long}
use Rattle.ol_reduce.proofs.Finished.{is_complete}
use Rattle.ol_reduce.proofs.TheNet.{is_frozen, frozen_same}
use Rattle.ol_reduce.proofs.Bounded.{events_few}

-- nothing is known at first
pub fresh_partly : (w : ClosedTable) (places : List ℕ) (kinds : List (Kind × ℕ))
    (partners : List ℕ) → length kinds ≡ length places →
    length partners ≡ w.plan.parts.free + 3 * length places → ((k : ℕ) → other partners k ≡ k) →
    IsPartly w places kinds partners
fresh_partly w places kinds partners k p alone N reached s = record {
  kinds_long = k;
  partners_long = p;
  paired = λ a. ap (other partners) (alone a) ∙ alone a;
  linked = λ a d. absurd (d (alone a));
  known = λ a d. absurd (d (alone a));
}

module _ (w : ClosedTable) (places numbers : List ℕ)
    (left_are : AreLeft w (ranks_in w) places numbers) (told : Told w) (kinds : List (Kind × ℕ)) (partners : List ℕ)
    (whole : IsPartly w places kinds partners)
    (cells : AreCelledTo w places partners (cells_of w.plan.parts))
    (walked : (met : List ℕ) × AreMetTo w places partners met (length partners)) (free : ℕ)
    (same : free ≡ w.plan.parts.free) where
  pub few : (length kinds ≤ 40000000) × (length partners < 400000000)
  few =
      let t = table_long w places numbers left_are told kinds partners whole in
      (omega (arith, t.0, left_are.few, told.2.small.nodes, told.2.small.fuel, events_few w.plan.parts w.words), t.2)

  pub completed : IsFullDraft free kinds partners
  completed =
      subst (λ f. IsFullDraft f kinds partners) (sym same)
      (is_complete w places numbers left_are told.0 (is_reached_in w) told.2 kinds partners walked.0
      (whole told.0 (is_reached_in w) told.2) (walked.1 told.0 (is_reached_in w) told.2)
      (cells told.0 (is_reached_in w) told.2))

  pub built : (one : (M N : NamedNet NodeName) → IsAfter w M → IsAfter w N → SameNet M N) →
      (g : Graph) → Builds frozen_top free kinds (all_links free partners) g →
      (net : NamedNet NodeName) → IsAfter w net → IsFrozen net g
  built one g b net h =
      let b' = subst (λ f. Builds frozen_top f kinds (all_links f partners) g) same b in
      frozen_same told.0 net g (one told.0 net told.1 h)
      (is_frozen w places numbers left_are told.0 (is_reached_in w) told.2 kinds partners walked.0
      (whole told.0 (is_reached_in w) told.2) (walked.1 told.0 (is_reached_in w) told.2)
      (cells told.0 (is_reached_in w) told.2) g b')
