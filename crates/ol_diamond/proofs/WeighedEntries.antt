-- The pair of an entry was rewritten in numbers, and the ports were weighed: this is the entry's
-- step between nets with weights.
use Rattle.std.proofs.Common.{◌≡◌, ◌≢◌, ℕ, suc, ◌+◌, ◌*◌, ◌<◌, ◌≤◌, max, Bool, true, false}
use Rattle.std.proofs.Common.{if◌then◌else◌, is_some, List, length, Option, Some, None, get_or, ◌⊎◌}
use Rattle.std.proofs.Common.{◌↔◌, inl, inr, refl, sym, ap, ◌∙◌, subst, arith}
use Rattle.ol_law_edges.specs.Edges.{Edge, Contracted}
use Rattle.ol_net.specs.declared.parts.Kind.{Kind}
use Rattle.ol_net.specs.declared.parts.NodeId.{NodeId}
use Rattle.ol_net.specs.declared.parts.Port.{Port}
use Rattle.ol_net.specs.declared.parts.Port.TheVariants.{Free, Of}
use Rattle.ol_net.specs.declared.parts.Rule.{Rule}
use Rattle.ol_net.specs.Graph.{Graph, kind_at, has_port, place}
use Rattle.ol_net.specs.Parts.{arity}
use Rattle.ol_net.specs.Rules.{rule_of}
use Rattle.ol_net.specs.Nets.{NamedPort, free, slot, NamedNet, HasNode, Linked, IsPort, IsNet}
use Rattle.ol_net.specs.Nets.{IsPrincipalOf, IsSlotOf, net_under, port_under}
use Rattle.ol_net.specs.Numbered.{net_of, numbered_port}
use Rattle.ol_net.proofs.Numbered.{has_node}
use Rattle.ol_net.proofs.Places.{place-within, kind_at-within}
use Rattle.ol_rules.specs.declared.journal.NodeName.{NodeName}
use Rattle.ol_rules.specs.declared.journal.NodeName.TheVariants.{Born}
use Rattle.ol_rules.specs.declared.journal.Entry.{Entry}
use Rattle.ol_rules.specs.Laws.{AreNamedBefore, IsFresh}
use Rattle.ol_rules.specs.Names.{comes_before}
use Rattle.ol_rules.specs.Rewriting.{Action, meeting, crossing, is_meeting, index_after, action_of, JoinOf}
use Rattle.ol_rules.specs.Steps.{births}
use Rattle.ol_rules.specs.Runs.{IsEntryStep}
use Rattle.ol_rules.proofs.Born.{at_most_two}
use Rattle.ol_rules.proofs.BothWays.{both_ways}
use Rattle.ol_rules.proofs.FreshPairs.{linked_sym}
use Rattle.ol_rules.proofs.NameOrder.{Names, names_apart, names_after, names_after_old}
use Rattle.ol_rules.proofs.OneRun.{name_same, name_test, fresh_names}
use Rattle.ol_rules.proofs.Renaming.{node_from, node_back}
use Rattle.ol_rules.proofs.OnTheWay.{node_below}
use Rattle.ol_diamond.specs.PortWeights.{weight_at, joined_weights, copies_at, arity_of}
use Rattle.ol_diamond.specs.PortWeights.{crossed_weights, acts_on, WeighsEntry}
use Rattle.ol_diamond.specs.Waves.{WeightedNet, LinkedWithin, LeftWithin}
use Rattle.ol_diamond.proofs.Renaming.{under_renamed, renamed_net}
use Rattle.ol_diamond.proofs.Meetings.{by_ports, IsRaised, meeting_weighs}
use Rattle.ol_diamond.proofs.Crossings.{CopiesWeigh, crossing_weighs}
use Rattle.ol_diamond.proofs.Copies.{IsCopied, rows}
use Rattle.ol_diamond.proofs.Replays.{Index, entry_step, named_on, indexed_on}
use Rattle.ol_diamond.proofs.WeighedPorts.{name_weight, weight_of, Known, known, raised, second_sized, raised_turned}
use Rattle.ol_diamond.proofs.WaveEntries.{IsWaveEntry}

abbrev pub net_named : (ℕ → NodeName) → Graph → NamedNet NodeName
net_named m g = net_under m (net_of g)

abbrev pub weighted_named : (ℕ → NodeName) → Graph → List ℕ → List ℕ → WeightedNet NodeName
weighted_named m g bases weights = by_ports (net_under m (net_of g)) (name_weight g.free bases weights)

-- the net of numbers under names of which no two are equal
pub net_is : (m : ℕ → NodeName) (g : Graph) → ((x y : ℕ) → m x ≡ m y → x ≡ y) → IsNet (net_of g) →
    IsNet (net_under m (net_of g))
net_is m g apart net = renamed_net m (net_of g) (net_under m (net_of g))
    (under_renamed m (net_of g) (λ x y k l i j h h' e. apart x y e)) net

module _ (g g' : Graph) (bases bases' ws ws' : List ℕ) (e : Entry) (wave : ℕ)
    (x : WeighsEntry g g' bases bases' ws ws' e wave) (ordered : comes_before e.first e.second ≡ true)
    (start ticket : ℕ) (m : ℕ → NodeName) (n : Names start (length g.nodes) ticket m)
    (i : Index bases (length g.nodes) ticket m) (sized : length ws ≡ g.free + 3 * length g.nodes) where
  abbrev a : ℕ
  a = x.named.f

  abbrev b : ℕ
  b = x.named.h

  abbrev N : NamedNet NodeName
  N = net_under m (net_of g)

  abbrev pub on : ℕ → NodeName
  on = names_after m (length g'.nodes) (suc ticket)

  abbrev M : NamedNet NodeName
  M = net_under (names_after m (length g'.nodes) (suc ticket)) (net_of g')

  abbrev w : NamedPort NodeName → ℕ
  w = name_weight g.free bases ws

  abbrev w' : NamedPort NodeName → ℕ
  w' = name_weight g'.free bases' ws'

  abbrev birth : ℕ → NodeName
  birth place = Born ticket place

  pub names_next : Names start (length g'.nodes) (suc ticket) (names_after m (length g'.nodes) (suc ticket))
  names_next = named_on g g' bases bases' e.first e.second x.named ordered start ticket m n i

  pub index_next : Index bases' (length g'.nodes) (suc ticket) (names_after m (length g'.nodes) (suc ticket))
  index_next = indexed_on g g' bases bases' e.first e.second x.named ordered start ticket m n i

  stepped : IsEntryStep N ticket e M
  stepped = subst (λ r. IsEntryStep N ticket
      (record { rule = r; first = e.first; second = e.second }) M) x.rule
      (entry_step g g' bases bases' e.first e.second x.named ordered start ticket m n i)

  net : IsNet N
  net = net_is m g (names_apart start (length g.nodes) ticket m n) x.named.old_net

  net' : IsNet M
  net' = net_is (names_after m (length g'.nodes) (suc ticket)) g'
      (names_apart start (length g'.nodes) (suc ticket)
      (names_after m (length g'.nodes) (suc ticket)) names_next) x.named.new_net

  before : AreNamedBefore N ticket
  before y k j h =
      let t = node_from m (net_of g) y k j h in
      let l = node_below g t.0 k j t.1 in
      subst (λ y. comes_before y (Born ticket 0) ≡ true) (sym t.2)
      (subst (λ z. comes_before (m t.0) z ≡ true) (n.born 0) (n.rising t.0 (length g.nodes + 0) (omega arith)))

  fresh : IsFresh N (λ place. Born ticket place)
  fresh = fresh_names N ticket before

  a_is : m a ≡ e.first
  a_is = (i.found e.first a x.named.first).1

  b_is : m b ≡ e.second
  b_is = (i.found e.second b x.named.second).1

  a_below : a < length g.nodes
  a_below = (i.found e.first a x.named.first).0

  b_below : b < length g.nodes
  b_below = (i.found e.second b x.named.second).0

  -- the nodes of the step are those of the entry, in one order or the other
  abbrev InOrder : Type 0
  InOrder = (stepped.f ≡ m a) × (stepped.g ≡ m b)

  abbrev Turned : Type 0
  Turned = (stepped.f ≡ m b) × (stepped.g ≡ m a)

  order : InOrder ⊎ Turned
  order = go stepped.named.pair
    where
      go : ((e.first ≡ stepped.f) × (e.second ≡ stepped.g))
          ⊎ ((e.first ≡ stepped.g) × (e.second ≡ stepped.f)) →
          ((stepped.f ≡ m a) × (stepped.g ≡ m b)) ⊎ ((stepped.f ≡ m b) × (stepped.g ≡ m a))
      go (inl h) = inl (sym h.0 ∙ sym a_is, sym h.1 ∙ sym b_is)
      go (inr h) = inr (sym h.1 ∙ sym b_is, sym h.0 ∙ sym a_is)

  grown : length g.nodes ≤ length g'.nodes
  grown = let q = x.named.steps.numbers in omega arith

  free_kept : g'.free ≡ g.free
  free_kept = x.named.steps.step.rewrites.free_ports

  -- the same name is given to a number
  on_old : (k : ℕ) → k < length g'.nodes → on k ≡ m k
  on_old k h = names_after_old m (length g'.nodes) (suc ticket) k h

  weight_next : (k s : ℕ) → k < length g'.nodes → w' (slot (m k) s) ≡ get_or ws' (g.free + 3 * k + s) 0
  weight_next k s h =
      subst (λ y. w' (slot y s) ≡ get_or ws' (g.free + 3 * k + s) 0) (on_old k h)
      (weight_of g'.free bases' ws' (length g'.nodes) (suc ticket) on index_next k s h
      ∙ ap (λ f. get_or ws' (f + 3 * k + s) 0) free_kept)

  weight_now : (k s : ℕ) → k < length g.nodes → w (slot (m k) s) ≡ get_or ws (g.free + 3 * k + s) 0
  weight_now k s h = weight_of g.free bases ws (length g.nodes) ticket m i k s h

  -- ---- the pair

  abbrev F : NodeName
  F = stepped.f

  abbrev G : NodeName
  G = stepped.g

  abbrev k : Kind
  k = stepped.step.active.k

  abbrev l : Kind
  l = stepped.step.active.l

  abbrev j : ℕ
  j = stepped.step.active.j

  differ : F ≢ G
  differ q = net.apart (slot F 0) (subst (λ y. Linked N (slot F 0) (slot y 0)) (sym q) stepped.step.active.faces.linked)

  kind_of : (t : ℕ) (y : NodeName) (kind : Kind) (index : ℕ) → y ≡ m t → HasNode N y kind index →
      kind_at g.nodes t ≡ Some (kind, index)
  kind_of t y kind index q h = (has_node g t kind index).0
      (node_back m (names_apart start (length g.nodes) ticket m n) (net_of g) t kind index
      (subst (λ y. HasNode N y kind index) q h))

  k_at : (t : ℕ) → F ≡ m t → kind_at g.nodes t ≡ Some (k, stepped.step.active.i)
  k_at t q = kind_of t F k stepped.step.active.i q stepped.step.active.faces.first

  l_at : (t : ℕ) → G ≡ m t → kind_at g.nodes t ≡ Some (l, j)
  l_at t q = kind_of t G l j q stepped.step.active.faces.second

  -- the arities of the two nodes, in either order
  sum_here : arity l + arity k ≡ arity_of (kind_at g.nodes a) + arity_of (kind_at g.nodes b)
  sum_here = go order
    where
      go : ((stepped.f ≡ m a) × (stepped.g ≡ m b)) ⊎ ((stepped.f ≡ m b) × (stepped.g ≡ m a)) →
          arity l + arity k ≡ arity_of (kind_at g.nodes a) + arity_of (kind_at g.nodes b)
      go (inl q) = let u = ap arity_of (k_at a q.0) in let v = ap arity_of (l_at b q.1) in omega arith
      go (inr q) = let u = ap arity_of (k_at b q.0) in let v = ap arity_of (l_at a q.1) in omega arith

  sum_there : arity x.named.steps.step.active.l + arity x.named.steps.step.active.k ≡ arity_of
      (kind_at g.nodes a) + arity_of (kind_at g.nodes b)
  sum_there = go x.named.steps.one_of
    where
      first_at : (t : ℕ) → t ≡ x.named.steps.f → arity_of (kind_at g.nodes t) ≡ arity x.named.steps.step.active.k
      first_at t q = ap (λ t. arity_of (kind_at g.nodes t)) q
          ∙ ap arity_of ((has_node g x.named.steps.f x.named.steps.step.active.k
          x.named.steps.step.active.i).0 x.named.steps.step.active.faces.first)

      second_at : (t : ℕ) → t ≡ x.named.steps.g → arity_of (kind_at g.nodes t) ≡ arity x.named.steps.step.active.l
      second_at t q = ap (λ t. arity_of (kind_at g.nodes t)) q
          ∙ ap arity_of ((has_node g x.named.steps.g x.named.steps.step.active.l
          x.named.steps.step.active.j).0 x.named.steps.step.active.faces.second)

      other_end : (y z : ℕ) → Linked (net_of g) (slot y 0) (slot z 0) → x.named.f ≡ y → x.named.h ≡ z
      other_end y z h q =
          let c : slot x.named.h 0 ≡ slot z 0 = x.named.old_net.one_link (slot y 0)
          (slot x.named.h 0) (slot z 0) (subst
          (λ u. Linked (net_of g) (slot u 0) (slot x.named.h 0)) q x.named.linked) h in cc

      go : (x.named.f ≡ x.named.steps.f) ⊎ (x.named.f ≡ x.named.steps.g) →
          arity x.named.steps.step.active.l + arity x.named.steps.step.active.k ≡ arity_of
          (kind_at g.nodes a) + arity_of (kind_at g.nodes b)
      go (inl q) =
          let u = first_at a q in
          let v = second_at b (other_end x.named.steps.f x.named.steps.g x.named.steps.step.active.faces.linked q) in
          omega arith
      go (inr q) =
          let u = second_at a q in
          let v = first_at b (other_end x.named.steps.g x.named.steps.f
          (linked_sym (net_of g) (slot x.named.steps.f 0)
          (slot x.named.steps.g 0) x.named.steps.step.active.faces.linked) q) in
          omega arith

  wave_here : wave ≡ suc (max (w (slot (m a) 0)) (w (slot (m b) 0)))
  wave_here = x.wave_is ∙ ap (λ u. suc (max u (weight_at g.free ws (Of (record { 0 = b }) 0))))
      (sym (weight_now a 0 a_below)) ∙ ap (λ v. suc (max (w (slot (m a) 0)) v)) (sym (weight_now b 0 b_below))

  wave_is : wave ≡ suc (max (w (slot F 0)) (w (slot G 0)))
  wave_is = go order
    where
      go : ((stepped.f ≡ m a) × (stepped.g ≡ m b)) ⊎ ((stepped.f ≡ m b) × (stepped.g ≡ m a)) →
          wave ≡ suc (max (w (slot F 0)) (w (slot G 0)))
      go (inl h) = wave_here ∙ ap (λ y. suc (max (w (slot y 0)) (w (slot (m b) 0)))) (sym h.0)
          ∙ ap (λ y. suc (max (w (slot F 0)) (w (slot y 0)))) (sym h.1)
      go (inr h) = wave_here ∙ omega arith
          ∙ ap (λ y. suc (max (w (slot y 0)) (w (slot (m a) 0)))) (sym h.0)
          ∙ ap (λ y. suc (max (w (slot F 0)) (w (slot y 0)))) (sym h.1)

  abbrev Weighs : Action → Type 0
  Weighs action = (n : ℕ) (u v : NamedPort NodeName) →
      LinkedWithin (by_ports M w') n u v ↔ LeftWithin
      (λ place. Born ticket place) F G k l action wave (LinkedWithin (by_ports N w)) n u v

  abbrev Links : Action → Type 0
  Links action = (u v : NamedPort NodeName) →
      Linked M u v ↔ Contracted (Edge (Linked N) (IsPrincipalOf F G)
      (JoinOf (λ place. Born ticket place) F G k l action)) (IsSlotOf F G) u v

  -- ---- they meet

  module _ (meets : is_meeting e.rule ≡ true) where
    action_is : action_of e.rule j ≡ meeting
    action_is = rw meets refl

    no_more : length g'.nodes ≡ length g.nodes
    no_more =
        let q : is_meeting x.named.rule ≡ true = subst (λ r. is_meeting r ≡ true) (sym x.rule) meets in
        let z : births x.named.rule x.named.steps.step.active.k x.named.steps.step.active.l ≡ 0 = rw q refl in
        let s = x.named.steps.numbers in
        omega arith

    abbrev ws1 : List ℕ
    ws1 = joined_weights g ws (Of (record { 0 = a }) 1) (Of (record { 0 = b }) 1) wave

    abbrev ws2 : List ℕ
    ws2 = joined_weights g ws1 (Of (record { 0 = a }) 2) (Of (record { 0 = b }) 2) wave

    weights_are : ws' ≡ joined_weights g
        (joined_weights g ws (Of (record { 0 = a }) 1) (Of (record { 0 = b }) 1) wave)
        (Of (record { 0 = a }) 2) (Of (record { 0 = b }) 2) wave
    weights_are = x.weights_are ∙ ap (λ v.
        if v then joined_weights g (joined_weights g ws (Of (record { 0 = a }) 1)
        (Of (record { 0 = b }) 1) wave) (Of (record { 0 = a }) 2) (Of (record { 0 = b }) 2) wave
        else (if acts_on (kind_at g.nodes a) (kind_at g.nodes b) then crossed_weights g ws
        (record { 0 = a }) (record { 0 = b }) wave else crossed_weights g ws (record { 0 = b })
        (record { 0 = a }) wave)) meets

    sized1 : length ws1 ≡ g.free + 3 * length g.nodes
    sized1 = second_sized g x.tabled bases start ticket m n i net ws sized a b 1 wave a_below b_below

    meeting_sized : length ws' ≡ g'.free + 3 * length g'.nodes
    meeting_sized =
        ap (λ (v : List ℕ). length v) weights_are
        ∙ second_sized g x.tabled bases start ticket m n i net ws1 sized1 a b 2 wave a_below b_below
        ∙ ap (λ f. f + 3 * length g.nodes) (sym free_kept) ∙ ap (λ t. g'.free + 3 * t) (sym no_more)

    abbrev w1 : NamedPort NodeName → ℕ
    w1 = name_weight g.free bases ws1

    abbrev w2 : NamedPort NodeName → ℕ
    w2 = name_weight g.free bases ws'

    raised1 : IsRaised N (slot (m a) 1) (slot (m b) 1) wave w w1
    raised1 = raised g x.tabled bases start ticket m n i net ws sized a b 1 wave a_below b_below

    raised2 : IsRaised N (slot (m a) 2) (slot (m b) 2) wave w1 w2
    raised2 = subst (λ v. IsRaised N (slot (m a) 2) (slot (m b) 2) wave w1
        (name_weight g.free bases v)) (sym weights_are)
        (raised g x.tabled bases start ticket m n i net ws1 sized1 a b 2 wave a_below b_below)

    in_order : (s : ℕ) (v v' : NamedPort NodeName → ℕ) →
        IsRaised N (slot (m a) s) (slot (m b) s) wave v v' → IsRaised N (slot F s) (slot G s) wave v v'
    in_order s v v' r = go order
      where
        go : ((stepped.f ≡ m a) × (stepped.g ≡ m b)) ⊎ ((stepped.f ≡ m b) × (stepped.g ≡ m a)) →
            IsRaised N (slot F s) (slot G s) wave v v'
        go (inl h) = subst (λ y. IsRaised N (slot y s) (slot G s) wave v v') (sym h.0)
            (subst (λ y. IsRaised N (slot (m a) s) (slot y s) wave v v') (sym h.1) r)
        go (inr h) = subst (λ y. IsRaised N (slot y s) (slot G s) wave v v') (sym h.0)
            (subst (λ y. IsRaised N (slot (m b) s) (slot y s) wave v v') (sym h.1)
            (raised_turned N (slot (m a) s) (slot (m b) s) wave v v' r))

    -- no number was given out, so a port is weighed as before
    agree : (z : NamedPort NodeName) → IsPort M z → w' z ≡ w2 z
    agree (free t) h = refl
    agree (slot y s) (kind, index, h, q) =
        let t = node_from on (net_of g') y kind index h in
        let below' = node_below g' t.0 kind index t.1 in
        let below : t.0 < length g.nodes = (let z = no_more in omega arith) in
        let name : y ≡ m t.0 = t.2 ∙ on_old t.0 below' in
        subst (λ y. w' (slot y s) ≡ w2 (slot y s)) (sym name)
        (weight_next t.0 s below' ∙ sym (weight_of g.free bases ws' (length g.nodes) ticket m i t.0 s below))

    meeting_links : Links meeting
    meeting_links = subst (λ action. Links action) action_is stepped.step.rewrites.links

    meeting_weights : Weighs meeting
    meeting_weights n u v =
        let t = meeting_weighs name_same name_test
        (λ place. Born ticket place) N net F G differ k l wave w w1 w2 (in_order 1 w w1 raised1)
        (in_order 2 w1 w2 raised2) M meeting_links n u v in (
          (λ h. let p = net'.of_ports u v h.0 in let c = agree u p.0 in let d = agree v p.1 in
              let q = h.1 in t.0 (h.0, omega arith)),
          (λ c. let h = t.1 c in let p = net'.of_ports u v h.0 in let c = agree u p.0 in
              let d = agree v p.1 in let q = h.1 in (h.0, omega arith)),
        )

  -- ---- they cross

  module _ (crosses : is_meeting e.rule ≡ false) where
    crossing_is : action_of e.rule j ≡ crossing (index_after e.rule j)
    crossing_is = rw crosses refl

    abbrev c : ℕ
    c = index_after e.rule j

    abbrev A : NodeId
    A = record { 0 = a }

    abbrev B : NodeId
    B = record { 0 = b }

    acting : ws' ≡ (if acts_on (kind_at g.nodes a) (kind_at g.nodes b) then crossed_weights g ws
        (record { 0 = a }) (record { 0 = b }) wave else crossed_weights g ws (record { 0 = b }) (record { 0 = a }) wave)
    acting = x.weights_are ∙ ap (λ v. if v then joined_weights g
        (joined_weights g ws (Of (record { 0 = a }) 1) (Of (record { 0 = b }) 1) wave)
        (Of (record { 0 = a }) 2) (Of (record { 0 = b }) 2) wave
        else (if acts_on (kind_at g.nodes a) (kind_at g.nodes b) then crossed_weights g ws
        (record { 0 = a }) (record { 0 = b }) wave else crossed_weights g ws (record { 0 = b })
        (record { 0 = a }) wave)) crosses

    -- the nodes of the step by number, the one that acts first
    record Acts : Type 0 where
      f : ℕ
      h : ℕ
      f_is : F ≡ m f
      h_is : G ≡ m h
      f_below : f < length g.nodes
      h_below : h < length g.nodes
      weights : ws' ≡ crossed_weights g ws (record { 0 = f }) (record { 0 = h }) wave

    acts : Acts
    acts = go order
      where
        none : (y y' : NodeId) → arity_of (kind_at g.nodes y.0) ≡ 0 →
            arity_of (kind_at g.nodes y'.0) ≡ 0 → crossed_weights g ws y y' wave ≡ ws
        none y y' p p' = ap (λ s. copies_at g.free
            (copies_at g.free ws y' (arity_of (kind_at g.nodes y'.0)) wave) y s wave) p
            ∙ ap (λ s. copies_at g.free ws y' s wave) p'

        turned : F ≡ m b → G ≡ m a → (o : Option Rule) → rule_of l j k stepped.step.active.i ≡ o →
            ws' ≡ crossed_weights g ws (record { 0 = b }) (record { 0 = a }) wave
        turned p q None r =
            let z : acts_on (kind_at g.nodes a) (kind_at g.nodes b) ≡ false = ap
            (λ o. acts_on o (kind_at g.nodes b)) (l_at a q)
            ∙ ap (λ o. acts_on (Some (l, j)) o) (k_at b p) ∙ ap is_some r in
            acting ∙ ap (λ v. if v then crossed_weights g ws (record { 0 = a })
            (record { 0 = b }) wave else crossed_weights g ws (record { 0 = b }) (record { 0 = a }) wave) z
        turned p q (Some s) r = plain (both_ways k l stepped.step.active.i j e.rule s stepped.step.active.fits r).plain
          where
            plain : ((is_meeting e.rule ≡ true) × (arity k ≡ arity l))
                ⊎ ((arity k ≡ 0) × (arity l ≡ 0)) → ws' ≡ crossed_weights g ws (record { 0 = b })
                (record { 0 = a }) wave
            plain (inl h) = absurd (let z = h.0 in cc)
            plain (inr h) =
                let z : acts_on (kind_at g.nodes a) (kind_at g.nodes b) ≡ true = ap
                (λ o. acts_on o (kind_at g.nodes b)) (l_at a q)
                ∙ ap (λ o. acts_on (Some (l, j)) o) (k_at b p) ∙ ap is_some r in
                let of_b : arity_of (kind_at g.nodes b) ≡ 0 = ap arity_of (k_at b p) ∙ h.0 in
                let of_a : arity_of (kind_at g.nodes a) ≡ 0 = ap arity_of (l_at a q) ∙ h.1 in
                acting ∙ ap (λ v. if v then crossed_weights g ws (record { 0 = a })
                (record { 0 = b }) wave else crossed_weights g ws (record { 0 = b }) (record { 0 = a }) wave) z
                ∙ none (record { 0 = a }) (record { 0 = b }) of_a of_b
                ∙ sym (none (record { 0 = b }) (record { 0 = a }) of_b of_a)

        go : ((stepped.f ≡ m a) × (stepped.g ≡ m b)) ⊎ ((stepped.f ≡ m b) × (stepped.g ≡ m a)) → Acts
        go (inl q) =
            let z : acts_on (kind_at g.nodes a) (kind_at g.nodes b) ≡ true = ap
            (λ o. acts_on o (kind_at g.nodes b)) (k_at a q.0)
            ∙ ap (λ o. acts_on (Some (k, stepped.step.active.i)) o) (l_at b q.1)
            ∙ ap is_some stepped.step.active.fits in
            record {
              f = a;
              h = b;
              f_is = q.0;
              h_is = q.1;
              f_below = a_below;
              h_below = b_below;
              weights = acting ∙ ap (λ v. if v then crossed_weights g ws (record { 0 = a })
                  (record { 0 = b }) wave else crossed_weights g ws (record { 0 = b }) (record { 0 = a }) wave) z;
            }
        go (inr q) = record {
          f = b;
          h = a;
          f_is = q.0;
          h_is = q.1;
          f_below = b_below;
          h_below = a_below;
          weights = turned q.0 q.1 (rule_of l j k stepped.step.active.i) refl;
        }

    more : length g'.nodes ≡ length g.nodes + (arity l + arity k)
    more =
        let q : is_meeting x.named.rule ≡ false = subst (λ r. is_meeting r ≡ false) (sym x.rule) crosses in
        let z : births x.named.rule x.named.steps.step.active.k x.named.steps.step.active.l ≡ arity
        x.named.steps.step.active.l + arity x.named.steps.step.active.k = rw q refl in
        let s = x.named.steps.numbers in
        let t = sum_here in
        let u = sum_there in
        omega arith

    module _ (d : Acts) where
      abbrev fn : NodeId
      fn = record { 0 = d.f }

      abbrev hn : NodeId
      hn = record { 0 = d.h }

      abbrev inner : List ℕ
      inner = copies_at g.free ws (record { 0 = d.h }) (arity_of (kind_at g.nodes d.h)) wave

      abbrev outer : List ℕ
      outer = crossed_weights g ws (record { 0 = d.f }) (record { 0 = d.h }) wave

      h_arity : arity_of (kind_at g.nodes d.h) ≡ arity l
      h_arity = ap arity_of (l_at d.h d.h_is)

      f_arity : arity_of (kind_at g.nodes d.f) ≡ arity k
      f_arity = ap arity_of (k_at d.f d.f_is)

      rows_h : IsCopied ws inner (arity l) (λ q. weight_at g.free ws (Of (record { 0 = d.h }) (suc q))) wave
      rows_h = subst (λ s. IsCopied ws inner s
          (λ q. weight_at g.free ws (Of (record { 0 = d.h }) (suc q))) wave) h_arity
          (rows g.free ws (record { 0 = d.h }) wave (let b = d.h_below in omega arith)
          (arity_of (kind_at g.nodes d.h)) (let t = at_most_two l in let e = h_arity in omega arith))

      inner_size : length inner ≡ length ws + 3 * arity l
      inner_size = rows_h.size

      rows_f : IsCopied inner outer (arity k) (λ q. weight_at g.free inner (Of (record { 0 = d.f }) (suc q))) wave
      rows_f = subst (λ s. IsCopied inner outer s
          (λ q. weight_at g.free inner (Of (record { 0 = d.f }) (suc q))) wave) f_arity
          (rows g.free inner (record { 0 = d.f }) wave
          (let b = d.f_below in let s = inner_size in omega arith)
          (arity_of (kind_at g.nodes d.f)) (let t = at_most_two k in let e = f_arity in omega arith))

      crossing_sized : length ws' ≡ g'.free + 3 * length g'.nodes
      crossing_sized =
          let p = rows_f.size in
          let q = inner_size in
          let r = more in
          let s = free_kept in
          ap (λ (v : List ℕ). length v) d.weights ∙ omega arith

      got : (t : ℕ) → get_or ws' t 0 ≡ get_or outer t 0
      got t = ap (λ v. get_or v t 0) d.weights

      kept : (t : ℕ) → t < length ws → get_or ws' t 0 ≡ get_or ws t 0
      kept t h = got t ∙ rows_f.kept t (let s = inner_size in omega arith) ∙ rows_h.kept t h

      old : (z : NamedPort NodeName) → IsPort N z → w' z ≡ w z
      old z p = go (known g x.tabled bases start ticket m n i net z p)
        where
          at_port : (q : Port) → has_port g.free g.nodes q ≡ true → z ≡ port_under m (numbered_port q) → w' z ≡ w z
          at_port (Free t) h r = ap w' r ∙ kept t
              (let b = place-within g.free g.nodes (Free t) h in omega arith) ∙ ap w (sym r)
          at_port (Of t s) h r =
              let b = place-within g.free g.nodes (Of t s) h in
              let c : t.0 < length g.nodes = kind_at-within g.nodes t.0 s h in
              ap w' r ∙ weight_next t.0 s (let z = grown in omega arith)
              ∙ kept (g.free + 3 * t.0 + s) (omega arith) ∙ sym (weight_now t.0 s c) ∙ ap w (sym r)

          go : Known g x.tabled bases start ticket m n i net z → w' z ≡ w z
          go y = at_port y.port y.there y.is

      -- the weight of a port of a copy stands behind those of the old ports
      at_copy : (q s : ℕ) → q < arity l + arity k → w' (slot (Born ticket q) s) ≡ get_or outer (length ws + 3 * q + s) 0
      at_copy q s h =
          let r = more in
          let e : g.free + 3 * (length g.nodes + q) + s ≡ length ws + 3 * q + s = omega arith in
          ap (λ y. w' (slot y s)) (sym (n.born q))
          ∙ weight_next (length g.nodes + q) s (omega arith)
          ∙ got (g.free + 3 * (length g.nodes + q) + s) ∙ ap (λ t. get_or outer t 0) e

      of_f : (q : ℕ) → q < arity l → w' (slot (Born ticket q) 0) ≡ max wave (w (slot G (suc q)))
      of_f q h =
          at_copy q 0 (omega arith) ∙ rows_f.kept (length ws + 3 * q + 0)
          (let s = inner_size in omega arith) ∙ ap (λ t. get_or inner t 0) (omega arith)
          ∙ rows_h.principal q h ∙ ap (λ v. max wave v)
          (sym (weight_now d.h (suc q) d.h_below) ∙ ap (λ y. w (slot y (suc q))) (sym d.h_is))

      of_g : (p : ℕ) → p < arity k → w' (slot (Born ticket (arity l + p)) 0) ≡ max wave (w (slot F (suc p)))
      of_g p h =
          let s = inner_size in
          let t = at_most_two k in
          let e : length ws + 3 * (arity l + p) + 0 ≡ length inner + 3 * p = omega arith in
          at_copy (arity l + p) 0 (omega arith) ∙ ap (λ t. get_or outer t 0) e ∙ rows_f.principal p h
          ∙ ap (λ v. max wave v) (rows_h.kept (g.free + 3 * d.f + suc p)
          (let b = d.f_below in omega arith) ∙ sym (weight_now d.f (suc p) d.f_below)
          ∙ ap (λ y. w (slot y (suc p))) (sym d.f_is))

      out_of_f : (p q : ℕ) → p < arity k → q < arity l → w' (slot (Born ticket q) (suc p)) ≡ wave
      out_of_f p q h h' =
          let t = at_most_two k in
          at_copy q (suc p) (omega arith) ∙ rows_f.kept (length ws + 3 * q + suc p)
          (let s = inner_size in omega arith) ∙ rows_h.other q p h' (omega arith)

      out_of_g : (p q : ℕ) → p < arity k → q < arity l → w' (slot (Born ticket (arity l + p)) (suc q)) ≡ wave
      out_of_g p q h h' =
          let s = inner_size in
          let t = at_most_two l in
          let e : length ws + 3 * (arity l + p) + suc q ≡ length inner + 3 * p + suc q = omega arith in
          at_copy (arity l + p) (suc q) (omega arith) ∙ ap (λ t. get_or outer t 0) e ∙ rows_f.other p q h (omega arith)

      copies_weigh : CopiesWeigh (λ place. Born ticket place) N F G k l wave w w'
      copies_weigh = record { old = old; of_f = of_f; of_g = of_g; out_of_f = out_of_f; out_of_g = out_of_g }

    crossing_links : Links (crossing (index_after e.rule j))
    crossing_links = subst (λ action. Links action) crossing_is stepped.step.rewrites.links

    crossing_weights : Weighs (crossing (index_after e.rule j))
    crossing_weights n u v = crossing_weighs name_same name_test
        (λ place. Born ticket place) N net F G differ k stepped.step.active.i l j stepped.step.active.faces
        (index_after e.rule j) fresh wave w w' (copies_weigh acts) M net' crossing_links n u v

  -- ---- either

  weights : (v : Bool) → is_meeting e.rule ≡ v → Weighs (action_of e.rule j)
  weights true q = subst (λ action. Weighs action) (sym (action_is q)) (meeting_weights q)
  weights false q = subst (λ action. Weighs action) (sym (crossing_is q)) (crossing_weights q)

  sized_by : (v : Bool) → is_meeting e.rule ≡ v → length ws' ≡ g'.free + 3 * length g'.nodes
  sized_by true q = meeting_sized q
  sized_by false q = crossing_sized q (acts q)

  pub sized_next : length ws' ≡ g'.free + 3 * length g'.nodes
  sized_next = sized_by (is_meeting e.rule) refl

  pub wave_entry : IsWaveEntry (weighted_named m g bases ws) ticket e wave
      (weighted_named (names_after m (length g'.nodes) (suc ticket)) g' bases' ws')
  wave_entry = record {
    f = F;
    g = G;
    named = stepped.named;
    step = record { step = stepped.step; wave_is = wave_is; weights = weights (is_meeting e.rule) refl };
  }
