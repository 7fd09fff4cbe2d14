-- The nodes of the net at the start, and those of the net that closed words stand for.
-- Used in Stands.
use Rattle.std.proofs.Common.{◌≡◌, ◌≢◌, ℕ, suc, ◌+◌, ◌<◌, ◌≤◌, List, [], ◌∷◌, length, max, Option, Some, None, is_some}
use Rattle.std.proofs.Common.{count_by, cond, ◌⊎◌, inl, inr, ◌↔◌, sym, ap, ◌∙◌, subst, arith}
use Rattle.std.specs.Prelude.{slice_get}
use Rattle.std.proofs.lemmas.Bool.{cases_eq, cases_lt}
use Rattle.std.proofs.lemmas.List.Sums.{count_by-le-length, sum_by-cons}
use Rattle.std.proofs.lemmas.Option.{slice_get_within}
use Rattle.ol_law_edges.specs.Edges.{IsIn}
use Rattle.ol_net.specs.declared.parts.Kind.{Kind}
use Rattle.ol_net.specs.Numbered.{nodes_from, net_of}
use Rattle.ol_net.specs.Nets.{HasNode}
use Rattle.ol_net.specs.Indexes.{top_index_of}
use Rattle.ol_rules.specs.declared.journal.NodeName.{NodeName}
use Rattle.ol_rules.specs.declared.journal.NodeName.TheVariants.{Init, Born}
use Rattle.ol_rules.specs.declared.journal.Entry.{Entry}
use Rattle.ol_rules.proofs.Renaming.{node_to, node_from}
use Rattle.ol_wire.specs.declared.plan.Plan.{Plan}
use Rattle.ol_wire.specs.Events.{Event, entry_of}
use Rattle.ol_wire.specs.Rule.{PlanKeeps, IsStarted}
use Rattle.ol_wire.specs.Closed.{ClosedTable, events_in, event_at, journal_in}
use Rattle.ol_wire.specs.Standing.{IsMadeNode, IsUntouched}
use Rattle.ol_wire.specs.Layout.{IsPlaced}
use Rattle.ol_wire.specs.Starts.{start_net_of_plan}
use Rattle.ol_wire.specs.ClosedRule.{IsClosed}
use Rattle.ol_wire.proofs.Closing.Entry.{births_of, births_read}
use Rattle.ol_wire.proofs.Closing.Table.{k, tickets, event_told, entry_told, entry_at, no_entry}
use Rattle.ol_wire.proofs.Closing.Nodes.{IsLive, Fits, IsMadeFrom, IsLeft, live_after}
use Rattle.ol_law_edges.proofs.Lists.{get_there}

some_count : (a : Kind × ℕ) (nodes : List (Option (Kind × ℕ))) →
    count_by is_some (Some a ∷ nodes) ≡ 1 + count_by is_some nodes
some_count a nodes = sum_by-cons (λ (x : Option (Kind × ℕ)). cond (is_some x) 1 0) (Some a) nodes

none_count : (nodes : List (Option (Kind × ℕ))) →
    count_by (is_some {T = Kind × ℕ}) (None ∷ nodes) ≡ 0 + count_by is_some nodes
none_count nodes = sum_by-cons (λ (x : Option (Kind × ℕ)). cond (is_some x) 1 0) None nodes

first_top : (a b : ℕ) → a ≤ max a b
first_top a b = omega arith

other_top : (a b : ℕ) → b ≤ max a b
other_top a b = omega arith

node_bounds : (m : ℕ) (nodes : List (Option (Kind × ℕ))) (n : ℕ) (l : Kind) (i : ℕ) →
    IsIn {X = ℕ × Kind × ℕ} (n, l, i) (nodes_from m nodes) → (m ≤ n) × (n < m + length nodes) × (i ≤ top_index_of nodes)
node_bounds m [] n l i h = absurd h
node_bounds m (None ∷ nodes) n l i h = let t = node_bounds (suc m) nodes n l i h in
    (omega (arith, t.0), omega (arith, t.1), t.2)
node_bounds m (Some a ∷ nodes) n l i (inl e) =
    let q : n ≡ m = ap (λ (x : ℕ × Kind × ℕ). x.0) e in
    let r : i ≡ a.1 = ap (λ (x : ℕ × Kind × ℕ). x.2) e in
    (omega (arith, q), omega (arith, q), omega (arith, r, first_top a.1 (top_index_of nodes)))
node_bounds m (Some a ∷ nodes) n l i (inr h) = let t = node_bounds (suc m) nodes n l i h in
    (omega (arith, t.0), omega (arith, t.1), omega (arith, t.2, other_top a.1 (top_index_of nodes)))

all_nodes : (m : ℕ) (nodes : List (Option (Kind × ℕ))) → count_by is_some nodes ≡ length nodes →
    (n : ℕ) → m ≤ n → n < m + length nodes →
    (l : Kind) × (i : ℕ) × IsIn {X = ℕ × Kind × ℕ} (n, l, i) (nodes_from m nodes)
all_nodes m [] all n le lt = absurd (omega arith)
all_nodes m (None ∷ nodes) all n le lt = absurd
    (omega (arith, all, none_count nodes, count_by-le-length (is_some {T = Kind × ℕ}) nodes))
all_nodes m (Some a ∷ nodes) all n le lt = elim (cases_eq n m) [
  | inl e ↦ (
    a.0,
    a.1,
    inl (let q : ◌≡◌ {A = ℕ × Kind × ℕ} (n, a.0, a.1) (m, a.0, a.1) = ap
        (λ (n : ℕ). let x : ℕ × Kind × ℕ = (n, a.0, a.1) in x) e in q),
  )
  | inr d ↦ let t = all_nodes (suc m) nodes (omega (arith, all, some_count a nodes)) n
      (omega (arith, le, d)) (omega (arith, lt)) in (t.0, t.1, inr t.2)
]

module _ (p : Plan) (plan : PlanKeeps p) (started : IsStarted p) where
  start_fits : Fits p.parts (start_net_of_plan p) 0
  start_fits = record {
    names = λ x m i h. let t = node_from Init (net_of p.start.value) x m i h in
        subst (λ x. IsPlaced p.parts 0 x) (sym t.2)
        (omega (arith, (node_bounds 0 p.start.value.nodes t.0 m i t.1).1, plan.parts.nodes));
    indexes = λ x m i h. let t = node_from Init (net_of p.start.value) x m i h in
        omega (arith, (node_bounds 0 p.start.value.nodes t.0 m i t.1).2, started.low);
  }

  start_live : (n : ℕ) → n < p.parts.nodes → IsLive (start_net_of_plan p) (Init n)
  start_live n lt = let t = all_nodes 0 p.start.value.nodes started.whole n (omega arith)
      (omega (arith, lt, plan.parts.nodes)) in (t.0, t.1, node_to Init (net_of p.start.value) n t.0 t.1 t.2)

-- what the words say of a node, and what the events do
module _ (w : ClosedTable) (c : IsClosed w) (started : IsStarted w.plan) where
  births_told : (t : ℕ) (e : Event) → slice_get (k w c).log t ≡ Some e →
      births_of (event_at w.plan.parts w.words t) ≡ births_of e
  births_told t e at = ap births_of (event_told w c t e at) ∙ births_read e ((k w c).journal.rules t e at)

  made_words : (x : NodeName) → IsLive (start_net_of_plan w.plan) x ⊎ IsMadeFrom 0 (k w c).log x →
      IsMadeNode w.plan.parts w.words x
  made_words (Init n) (inl h) = (start_fits w.plan (k w c).plan started).names (Init n) h.0 h.1 h.2
  made_words (Init n) (inr h) = absurd h
  made_words (Born t i) (inl h) = absurd
      (omega (arith, ((start_fits w.plan (k w c).plan started).names (Born t i) h.0 h.1 h.2).0))
  made_words (Born t i) (inr (d, e, at, q, lt)) =
      let same : t ≡ d = omega (arith, q) in (
        omega (arith, same, tickets w c, slice_get_within (k w c).log d e at),
        omega (arith, lt, births_told t e (subst (λ d. slice_get (k w c).log d ≡ Some e) (sym same) at)),
      )

  made_log : (x : NodeName) → IsMadeNode w.plan.parts w.words x →
      IsLive (start_net_of_plan w.plan) x ⊎ IsMadeFrom 0 (k w c).log x
  made_log (Init n) lt = inl (start_live w.plan (k w c).plan started n lt)
  made_log (Born t i) (drawn, lt) =
      let e = get_there (k w c).log t (omega (arith, drawn, tickets w c)) in
      inr (t, e.0, e.1, omega arith, omega (arith, lt, births_told t e.0 e.1))

  entry_there : (t : ℕ) (e : Event) → slice_get (k w c).log t ≡ Some e →
      slice_get (journal_in w.plan.parts w.words) t ≡ Some (entry_of w.plan.parts e)
  entry_there t e at = entry_at w.plan.parts w.words t
      (omega (arith, tickets w c, slice_get_within (k w c).log t e at))
      ∙ ap (λ (x : Entry). Some x) (entry_told w c t e at)

  left_words : (x : NodeName) → IsLeft w.plan.parts (k w c).log x → IsUntouched w.plan.parts w.words x
  left_words x h t d at = elim (cases_lt t (events_in w.plan.parts w.words)) [
    | inl lt ↦
        let e = get_there (k w c).log t (omega (arith, lt, tickets w c)) in
        subst (λ (d : Entry). (d.first ≢ x) × (d.second ≢ x))
        (one_some (entry_of w.plan.parts e.0) d (sym (entry_there t e.0 e.1) ∙ at)) (h t e.0 e.1)
    | inr ge ↦ absurd (none_some d (sym (no_entry w.plan.parts w.words t ge) ∙ at))
  ]
    where
      one_some : (a b : Entry) → Some a ≡ Some b → a ≡ b
      one_some a b q = cc

      none_some : (d : Entry) → None ≡ Some d → ⊥
      none_some d q = cc

  left_log : (x : NodeName) → IsUntouched w.plan.parts w.words x → IsLeft w.plan.parts (k w c).log x
  left_log x h d e at = h d (entry_of w.plan.parts e) (entry_there d e at)

  pub live_told : (x : NodeName) → ((m : Kind) × (i : ℕ) × HasNode (k w c).net x m i) ↔
      (IsMadeNode w.plan.parts w.words x × IsUntouched w.plan.parts w.words x)
  live_told x =
      let t = live_after w.plan.parts (k w c).plan.small.fuel (start_net_of_plan w.plan)
      (k w c).net 0 (k w c).log (start_fits w.plan (k w c).plan started)
      (omega (arith, (k w c).tickets.few)) (k w c).journal.played x in
      ((λ h. let a = t.0 h in (made_words x a.0, left_words x a.1)), (λ h. t.1 (made_log x h.0, left_log x h.1)))
