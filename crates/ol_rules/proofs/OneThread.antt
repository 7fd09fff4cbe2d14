-- A run on its way is a one-thread run where it ends.
use Rattle.std.proofs.Common.{◌≡◌, ◌≢◌, ℕ, ◌-◌, ◌<◌, ◌≤◌, List, [], ◌∷◌, ◌++◌, length, length-append, Option, Some}
use Rattle.std.proofs.Common.{None, ◌⊎◌, inl, inr, refl, sym, subst, arith, MatchOption, IsSome, ◌↔◌}
use Rattle.ol_net.specs.declared.parts.Rule.{Rule}
use Rattle.ol_net.specs.declared.parts.NodeId.{NodeId}
use Rattle.ol_net.specs.Graph.{Graph}
use Rattle.ol_net.specs.Nets.{slot, Linked, IsNet, net_under}
use Rattle.ol_net.specs.Numbered.{net_of}
use Rattle.ol_net.specs.Pairs.{IsInActive, IsComplete, HasActive}
use Rattle.ol_rules.specs.declared.journal.NodeName.{NodeName}
use Rattle.ol_rules.specs.declared.journal.Entry.{Entry}
use Rattle.ol_rules.specs.Runs.{LeadsTo, RunsTo, StopsWithin, names_born}
use Rattle.ol_rules.specs.Running.{IsLeast}
use Rattle.ol_rules.specs.UnderWay.{name_by, IsPair, AtMostOneStep, Advances}
use Rattle.ol_rules.specs.declared.under_way.UnderWay.{UnderWay}
use Rattle.ol_rules.proofs.NameOrder.{names_apart}
use Rattle.ol_rules.proofs.Renaming.{active_from}
use Rattle.ol_rules.proofs.FreshPairs.{linked_sym}
use Rattle.ol_rules.proofs.OnTheWay.{IsUnderWay, listed, leads_to, leads_on, one_on, node_below}
use Rattle.ol_rules.proofs.Waiting.{active_below}

pub none_of : (o : Option ℕ) (n : ℕ) → o ≡ None → IsSome o ↔ (0 < n) → n ≡ 0
none_of None n e h = let f : 0 < n → ⊥ = λ b. absurd (let q = h.1 b in cc) in omega arith
none_of (Some x) n e h = absurd (cc)

pub some_active : (g : Graph) (at partner : ℕ) → IsLeast g at partner → HasActive (net_of g)
some_active g at partner l = go l.active
  where
    go : IsInActive (net_of g) at l.rule → HasActive (net_of g)
    go (y, inl a) = (at, y, l.rule, a)
    go (y, inr a) = (y, at, l.rule, a)

pub partner_below : (g : Graph) → IsNet (net_of g) → (at partner : ℕ) → IsLeast g at partner → partner < length g.nodes
partner_below g n at partner l = let p = (n.of_ports (slot at 0) (slot partner 0) l.linked).1 in
    node_below g partner p.0 p.1 p.2

-- what a node's principal port is joined to is its partner, if it has one
pub partner_of_active : (g : Graph) → (at : ℕ) (r : Rule) →
    IsInActive (net_of g) at r → (o : Option NodeId) →
    MatchOption o ((x : ℕ) → Linked (net_of g) (slot x 0) (slot at 0) → ⊥)
    (λ n. (x : ℕ) → Linked (net_of g) (slot x 0) (slot at 0) ↔ (x ≡ n.0)) →
    MatchOption o ((r : Rule) → IsInActive (net_of g) at r → ⊥) (λ n. (r : Rule) × IsPair (net_of g) at n.0 r)
partner_of_active g at r (y, inl a) None h = absurd
    (h y (linked_sym (net_of g) (slot at 0) (slot y 0) a.faces.linked))
partner_of_active g at r (y, inr a) None h = absurd (h y a.faces.linked)
partner_of_active g at r a (Some m) h = (r, (a, linked_sym (net_of g) (slot m.0 0) (slot at 0) ((h m.0).1 refl)))

module _ (old g : Graph) (fuel start : ℕ) (names : List NodeName) (journal : List Entry)
    (u : IsUnderWay old g start names journal) (within : length journal ≤ fuel) where
  leads_here : LeadsTo old journal g
  leads_here = let c = u.count in let s = u.start_is in
      leads_to old g names journal (length g.nodes) (length journal) u.m u.named (omega arith) u.from u.led

  complete_named : IsComplete (net_of g) → IsComplete (net_under u.m (net_of g))
  complete_named c F G r a = let t = active_from u.m
      (names_apart (length old.nodes) (length g.nodes) (length journal) u.m u.named)
      (net_of g) F G r a in c t.0 t.1 r t.4

  pub runs_to : IsComplete (net_of g) ⊎ (length journal ≡ fuel) → RunsTo old fuel journal g
  unfolding leads_here leads_to
  runs_to e = record {
    leads = leads_here;
    one_thread = record { leads = leads_here.run; within = within; ended = go e };
  }
    where
      go : IsComplete (net_of g) ⊎ (length journal ≡ fuel) →
          IsComplete (net_under u.m (net_of g)) ⊎ (length journal ≡ fuel)
      go (inl c) = inl (complete_named c)
      go (inr q) = inr q

  pub stops_here : StopsWithin old fuel g
  stops_here = record { journal = journal; within = within; leads = leads_here }

  -- one step on, written down or not
  pub stops_after : (g' : Graph) → IsNet (net_of g) → length journal ≢ fuel → (at partner : ℕ) →
      IsLeast g at partner → AtMostOneStep g g' at → StopsWithin old fuel g'
  stops_after g' n more at partner l (inl e) = subst (λ h. StopsWithin old fuel h) (sym e) stops_here
  stops_after g' n more at partner l (inr (r, s)) =
      let e : Entry = record { rule = r; first = u.m at; second = u.m partner } in
      record {
        journal = journal ++ e ∷ [];
        within = omega (arith, length-append journal (e ∷ []));
        leads = leads_on old g g' start names journal u n at partner r s l;
      }

-- after a step that was written down
pub advanced : (old g g' : Graph) (r r' : UnderWay) →
    IsUnderWay old g r.names.start r.names.born.items r.journal → IsNet (net_of g) → (at partner : ℕ) →
    IsLeast g at partner → Advances r r' g g' at partner →
    IsUnderWay old g' r'.names.start r'.names.born.items r'.journal
advanced old g g' r r' u n at partner l a =
    let first = listed old g r.names.start r.names.born.items r.journal u at (active_below g at l.rule l.active) in
    let second = listed old g r.names.start r.names.born.items r.journal u partner (partner_below g n at partner l) in
    let v = one_on old g g' r.names.start r.names.born.items r.journal u n at partner a.rule a.step l a.is_net in
    let U : ℕ → List NodeName → List Entry → Type 0 = λ s ns es. IsUnderWay old g' s ns es in
    let V : NodeName → NodeName → Type 0 = λ x y.
    IsUnderWay old g' r.names.start (r.names.born.items ++ names_born (length r.journal)
    (length g'.nodes - length g.nodes)) (r.journal ++ record { rule = a.rule; first = x; second = y } ∷ []) in
    let v1 : V (name_by r.names at) (u.m partner) = subst (λ x. V x (u.m partner)) (sym first) v in
    let v2 : V (name_by r.names at) (name_by r.names partner) = subst
    (λ y. V (name_by r.names at) y) (sym second) v1 in
    subst (λ s. U s r'.names.born.items r'.journal) (sym a.start)
    (subst (λ ns. U r.names.start ns r'.journal) (sym a.names)
    (subst (λ es. U r.names.start (r.names.born.items ++ names_born (length r.journal)
    (length g'.nodes - length g.nodes)) es) (sym a.journal) v2))

pub within_on : (journal : List Entry) (e : Entry) (fuel : ℕ) → length journal ≤ fuel →
    length journal ≢ fuel → length (journal ++ e ∷ []) ≤ fuel
within_on journal e fuel h n = omega (arith, length-append journal (e ∷ []))
