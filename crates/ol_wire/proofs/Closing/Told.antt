-- What closed words tell of the run.
-- Used in Stands, `made`, `once`, `over` and `runs`.
use Rattle.std.proofs.Common.{◌≡◌, ℕ, true, Some, sym, ap, ◌∙◌, subst}
use Rattle.std.specs.Prelude.{slice_get}
use Rattle.ol_net.specs.declared.parts.Kind.{Kind}
use Rattle.ol_net.specs.Nets.{NamedNet, HasNode, SameNet}
use Rattle.ol_net.specs.Numbered.{net_of}
use Rattle.ol_rules.specs.declared.journal.NodeName.{NodeName}
use Rattle.ol_rules.specs.declared.journal.Entry.{Entry}
use Rattle.ol_rules.specs.Runs.{IsRun}
use Rattle.ol_net.specs.Pairs.{HasActive}
use Rattle.ol_rules.proofs.Relation.{same_refl}
use Rattle.ol_rules.proofs.Same.{active_same}
use Rattle.ol_rules.proofs.StartNets as starts
use Rattle.ol_wire.specs.declared.view.View.{View}
use Rattle.ol_wire.specs.Weights.{pairs, weighed_by_place}
use Rattle.ol_wire.specs.Starts.{start_net_of_plan}
use Rattle.ol_wire.specs.Closed.{ClosedTable, events_in, journal_in, IsOfEntry, NoNodeTwice, IsAfter}
use Rattle.ol_wire.specs.ClosedRule.{IsClosed}
use Rattle.ol_wire.proofs.Closing.Table.{all_in, tickets, journal_told}
use Rattle.ol_rules.proofs.OneEnd.{one_end}
use Rattle.ol_wire.proofs.Closing.Run.{each_once, gone_at_end}

module _ (w : ClosedTable) (c : IsClosed w) where
  pub after : IsAfter w (c.kept).net
  after = subst (λ es. IsRun (start_net_of_plan w.plan) 0 es (c.kept).net) (sym (journal_told w c)) (c.kept).journal.run

  pub one_after : (M N : NamedNet NodeName) → IsAfter w M → IsAfter w N → SameNet M N
  one_after M N a b = one_end (start_net_of_plan w.plan) (start_net_of_plan w.plan) M N 0
      (journal_in w.plan.parts w.words) (starts.start_net (net_of w.plan.start.value)
      (c.kept).plan.started.net) (starts.start_named (net_of w.plan.start.value))
      (same_refl (start_net_of_plan w.plan)) a b

  pub once : NoNodeTwice (journal_in w.plan.parts w.words)
  once = each_once (start_net_of_plan w.plan) (c.kept).net 0 (journal_in w.plan.parts w.words)
      (starts.start_named (net_of w.plan.start.value)) after

  pub gone : (net : NamedNet NodeName) → IsAfter w net → (t : ℕ) (e : Entry) (x : NodeName) →
      slice_get (journal_in w.plan.parts w.words) t ≡ Some e → IsOfEntry x e → (m : Kind) (i : ℕ) →
      HasNode net x m i → ⊥
  gone net a t e x at o = gone_at_end (start_net_of_plan w.plan) net 0
      (journal_in w.plan.parts w.words) (starts.start_named (net_of w.plan.start.value)) a t e x at o

  pub made : (h : ℕ → Entry → ℕ) → pairs h w.view.made ≡ weighed_by_place h 0 (journal_in w.plan.parts w.words)
  made h = sym (all_in w c (λ (v : View). pairs h v.made)
      (λ v o e. ap (λ (v : View). pairs h v.made) e)) ∙ (c.kept).seats.made h
      ∙ ap (weighed_by_place h 0) (sym (journal_told w c))

  pub used_up : w.view.over ≡ true → events_in w.plan.parts w.words ≡ w.plan.parts.fuel
  used_up o = tickets w c ∙ (c.kept).tickets.above ((c.kept).seats.over w.view (c.id, c.seat) o).0

  pub active_after : w.view.over ≡ true → (net : NamedNet NodeName) → IsAfter w net → HasActive net
  active_after o net a = let h = ((c.kept).seats.over w.view (c.id, c.seat) o).1 in
      (h.0, h.1, h.2, active_same (c.kept).net net (one_after (c.kept).net net after a) h.0 h.1 h.2 h.3)
