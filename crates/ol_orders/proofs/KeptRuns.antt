-- A run that begins, and one that goes on by a pair: `Replay` keeps `IsReplay`.
use Rattle.std.proofs.Common.{◌≡◌, ℕ, suc, ◌+◌, ◌-◌, ◌<◌, true, nat_lt, if◌then◌else◌, List, [], ◌∷◌, ◌++◌, length}
use Rattle.std.proofs.Common.{length-append, ◌⊎◌, inl, inr, sym, ap, ◌∙◌, subst, arith}
use Rattle.std.specs.Prelude.{slice_index_or, slice_get, Some}
use Rattle.std.proofs.lemmas.Bool.Decides.{nat_tests}
use Rattle.ol_net.specs.Graph.{Graph}
use Rattle.ol_net.specs.Nets.{NamedNet, IsNet, net_under}
use Rattle.ol_net.specs.Numbered.{net_of}
use Rattle.ol_rules.specs.declared.journal.NodeName.{NodeName}
use Rattle.ol_rules.specs.declared.journal.NodeName.TheVariants.{Init, Born}
use Rattle.ol_rules.specs.declared.journal.Entry.{Entry}
use Rattle.ol_rules.specs.Rewriting.{IsStep}
use Rattle.ol_rules.specs.Runs.{IsEntryStep, IsRun, names_born}
use Rattle.ol_rules.proofs.NameOrder.{names_after, names_after_old, names_first}
use Rattle.ol_rules.proofs.Renaming.{net_alike}
use Rattle.ol_rules.proofs.RunsOn.{run_on}
use Rattle.ol_rules.proofs.OnTheWay.{node_below, the_pair, length-names_born, step_few}
use Rattle.ol_rules.specs.UnderWay.{node_number, entry_for}
use Rattle.ol_diamond.proofs.Replays.{Index, index_first, index_on}
use Rattle.ol_demand.specs.Asking.{IsNaming, AreNamesOf}
use Rattle.ol_demand.proofs.Entries.{named_entry, named_step, after_step, names_of_next}
use Rattle.ol_view.specs.Checks.{start_net_of_graph}
use Rattle.ol_orders.specs.declared.replaying.Replay.{Replay}
use Rattle.ol_orders.specs.Replays.{names_of, AreNames, IsReplay, ReplaysPair}

-- the names at the start
abbrev at_start : Graph → ℕ → NodeName
at_start old = names_after Init (length old.nodes) 0

-- before the first pair
pub begins : (old : Graph) (r : Replay) → IsNet (net_of old) → r.net ≡ old → r.run.journal ≡ [] →
    r.run.names.start ≡ length old.nodes → r.run.names.born.items ≡ [] → r.numbers.bases.items ≡ length old.nodes ∷ [] → IsReplay old r
begins old r net same none start names bases = record {
  m = at_start old;
  named = subst (λ (g : Graph).
      AreNames (length old.nodes) (length g.nodes) (length r.run.journal) (at_start old)) (sym same)
      (subst (λ (es : List Entry).
      AreNames (length old.nodes) (length old.nodes) (length es) (at_start old)) (sym none) first);
  start = start;
  sized = let e = no_names in let b = numbers in omega arith;
  listed = λ k h.
      let b = numbers in
      let e : nat_lt k r.run.names.start ≡ true = (let l : k < r.run.names.start = omega arith in grind (arith, nat_tests)) in
      ap (λ b. if b then Init k else slice_index_or r.run.names.born.items (k - r.run.names.start) (Init k)) e
      ∙ sym (names_after_old Init (length old.nodes) 0 k (omega arith));
  is_net = subst (λ (g : Graph). IsNet (net_of g)) (sym same) net;
  few = let b = numbers in omega arith;
  run = subst (λ (es : List Entry).
      IsRun (start_net_of_graph old) 0 es (net_under (at_start old) (net_of r.net))) (sym none)
      (subst (λ (g : Graph). IsRun (start_net_of_graph old) 0 [] (net_under (at_start old) (net_of g))) (sym same)
      (subst (λ M. IsRun (start_net_of_graph old) 0 [] M) nets IsRun.end));
  tickets = let b = ap (λ (bs : List ℕ). length bs) bases in let j = ap (λ (es : List Entry). length es) none in
      omega arith;
  given = ap (λ (bs : List ℕ). slice_get bs (length r.run.journal)) bases
      ∙ ap (λ (es : List Entry). slice_get (length old.nodes ∷ []) (length es)) none
      ∙ ap (λ n. Some n) (sym numbers);
  finds = λ k h. ap (λ (bs : List ℕ). node_number bs (at_start old k)) bases
      ∙ index.finds k (let b = numbers in omega arith);
  found = λ x k h.
      let f = index.found x k (sym (ap (λ (bs : List ℕ). node_number bs x) bases) ∙ h) in
      (let b = numbers in let l = f.0 in omega arith, f.1);
}
  where
    first : AreNames (length old.nodes) (length old.nodes) 0 (at_start old)
    first = let n = names_first (length old.nodes) in
        record { room = n.room; initial = n.initial; rising = n.rising; born = n.born }

    index : Index (length old.nodes ∷ []) (length old.nodes) 0 (at_start old)
    index = index_first (length old.nodes)

    numbers : length r.net.nodes ≡ length old.nodes
    numbers = ap (λ (g : Graph). length g.nodes) same

    no_names : length r.run.names.born.items ≡ 0
    no_names = ap (λ (ns : List NodeName). length ns) names

    nets : start_net_of_graph old ≡ net_under (at_start old) (net_of old)
    nets = net_alike Init (at_start old) (net_of old) net
        (λ x k i h. sym (names_after_old Init (length old.nodes) 0 x (node_below old x k i h)))

-- the names of the run are those of its numbers
module _ (old : Graph) (r : Replay) (u : IsReplay old r) where
  pub run_named : IsRun (start_net_of_graph old) 0 r.run.journal (net_under (names_of r) (net_of r.net))
  run_named = subst (λ M. IsRun (start_net_of_graph old) 0 r.run.journal M)
      (net_alike u.m (names_of r) (net_of r.net) u.is_net
      (λ x k i h. sym (u.listed x (node_below r.net x k i h)))) u.run

-- one pair more
module _ (old : Graph) (r r' : Replay) (x y : ℕ) (u : IsReplay old r) (a : ReplaysPair r r' x y) where
  abbrev t : ℕ
  t = length r.run.journal

  abbrev pub on : ℕ → NodeName
  on = names_after u.m (length r'.net.nodes) (suc (length r.run.journal))

  n : IsNaming (length old.nodes) (length r.net.nodes) (length r.run.journal) u.m
  n = record { room = u.named.room; initial = u.named.initial; rising = u.named.rising; born = u.named.born }

  abbrev pub entry : Entry
  entry = record { rule = a.advances.rule; first = u.m x; second = u.m y }

  abbrev pub here : NamedNet NodeName
  here = net_under u.m (net_of r.net)

  abbrev pub there : NamedNet NodeName
  there = net_under on (net_of r'.net)

  same : net_under u.m (net_of r'.net) ≡ there
  same = net_alike u.m on (net_of r'.net) a.advances.is_net
      (λ x k i h. sym (names_after_old u.m (length r'.net.nodes) (suc t) x (node_below r'.net x k i h)))

  pub step : IsEntryStep here t entry there
  step = record {
    f = u.m a.advances.step.f;
    g = u.m a.advances.step.g;
    named = named_entry r.net r'.net a.old_net x y a.advances.rule a.advances.step a.linked a.lesser (length old.nodes) t u.m n;
    step = subst (λ M. IsStep (λ p. Born t p) here (u.m a.advances.step.f) (u.m a.advances.step.g) a.advances.rule M) same
        (named_step r.net r'.net a.old_net x y a.advances.rule a.advances.step a.linked a.lesser (length old.nodes) t u.m n);
  }

  below : (x < length r.net.nodes) × (y < length r.net.nodes)
  below = go (the_pair r.net r'.net a.old_net x y a.advances.rule a.advances.step a.linked)
    where
      f : a.advances.step.f < length r.net.nodes
      f = let p = a.advances.step.step.active in node_below r.net a.advances.step.f p.k p.i p.faces.first

      g : a.advances.step.g < length r.net.nodes
      g = let p = a.advances.step.step.active in node_below r.net a.advances.step.g p.l p.j p.faces.second

      go : ((x ≡ a.advances.step.f) × (y ≡ a.advances.step.g)) ⊎ ((x ≡ a.advances.step.g) × (y ≡ a.advances.step.f)) →
          (x < length r.net.nodes) × (y < length r.net.nodes)
      go (inl e) = (let i = e.0 in let b = f in omega arith, let i = e.1 in let b = g in omega arith)
      go (inr e) = (let i = e.0 in let b = g in omega arith, let i = e.1 in let b = f in omega arith)

  pub written : r'.run.journal ≡ r.run.journal ++ entry ∷ []
  written = a.advances.journal
      ∙ ap (λ (v : NodeName). r.run.journal ++ record { rule = a.advances.rule; first = v; second = names_of r y } ∷ [])
      (u.listed x below.0)
      ∙ ap (λ (w : NodeName). r.run.journal ++ record { rule = a.advances.rule; first = u.m x; second = w } ∷ [])
      (u.listed y below.1)

  pub longer : length r'.run.journal ≡ suc (length r.run.journal)
  longer = let e = ap (λ (es : List Entry). length es) written in
      omega (arith, length-append r.run.journal (entry ∷ []))

  next : AreNamesOf old r'.net r'.run (after_step r'.net r.run u.m)
  next = names_of_next old r.net r'.net r.run r'.run u.m x y
      (record { naming = n; start = u.start; listed = u.listed }) u.sized a.advances

  index : Index (r.numbers.bases.items ++ length r'.net.nodes ∷ []) (length r'.net.nodes) (suc t) on
  index = index_on (length old.nodes) (length r.net.nodes) t (length r'.net.nodes) r.numbers.bases.items u.m
      (let q = a.advances.step.numbers in omega arith)
      (record { room = u.named.room; initial = u.named.initial; rising = u.named.rising; born = u.named.born })
      (record { tickets = u.tickets; last = u.given; finds = u.finds; found = u.found })

  -- what had a name has it still
  pub still_named : (k : ℕ) → k < length r.net.nodes → names_of r' k ≡ names_of r k
  still_named k l = let q = a.advances.step.numbers in
      next.listed k (omega arith) ∙ names_after_old u.m (length r'.net.nodes) (suc t) k (omega arith)
      ∙ sym (u.listed k l)

  -- the step, under the names of both runs
  pub step_named : IsEntryStep (net_under (names_of r) (net_of r.net)) t (entry_for r.run a.advances.rule x y)
      (net_under (names_of r') (net_of r'.net))
  step_named =
      let before : here ≡ net_under (names_of r) (net_of r.net) = net_alike u.m (names_of r)
      (net_of r.net) u.is_net (λ z k i h. sym (u.listed z (node_below r.net z k i h))) in
      let after : there ≡ net_under (names_of r') (net_of r'.net) = net_alike on (names_of r')
      (net_of r'.net) a.advances.is_net (λ z k i h. sym (next.listed z (node_below r'.net z k i h))) in
      let written : entry ≡ entry_for r.run a.advances.rule x y =
      λ i. record { rule = a.advances.rule; first = sym (u.listed x below.0) i; second = sym (u.listed y below.1) i } in
      subst (λ N. IsEntryStep N t (entry_for r.run a.advances.rule x y) (net_under (names_of r') (net_of r'.net))) before
      (subst (λ M. IsEntryStep here t (entry_for r.run a.advances.rule x y) M) after
      (subst (λ e. IsEntryStep here t e there) written step))

  pub advanced : IsReplay old r'
  advanced = record {
    m = on;
    named = record {
      room = next.naming.room;
      initial = next.naming.initial;
      rising = next.naming.rising;
      born = next.naming.born;
    };
    start = a.advances.start ∙ u.start;
    sized = sized;
    listed = next.listed;
    is_net = a.advances.is_net;
    few = let e = longer in let f = u.few in
        let s = step_few r.net r'.net x a.advances.rule a.advances.step in omega arith;
    run = subst (λ (es : List Entry). IsRun (start_net_of_graph old) 0 es there) (sym written)
        (run_on (start_net_of_graph old) here there 0 t r.run.journal entry u.run
        (let q : t ≡ 0 + length r.run.journal = omega arith in q) step);
    tickets = let e = longer in let b = ap (λ (bs : List ℕ). length bs) a.bases in let i = index.tickets in
        omega arith;
    given = ap (λ (bs : List ℕ). slice_get bs (length r'.run.journal)) a.bases
        ∙ ap (λ n. slice_get (r.numbers.bases.items ++ length r'.net.nodes ∷ []) n) longer ∙ index.last;
    finds = λ k h. ap (λ (bs : List ℕ). node_number bs (on k)) a.bases ∙ index.finds k h;
    found = λ z k h. index.found z k (sym (ap (λ (bs : List ℕ). node_number bs z) a.bases) ∙ h);
  }
    where
      sized : r'.run.names.start + length r'.run.names.born.items ≡ length r'.net.nodes
      sized =
          let s = a.advances.start in
          let z = u.sized in
          let q = a.advances.step.numbers in
          let b = length-names_born t (length r'.net.nodes - length r.net.nodes) in
          let e = ap (λ (ns : List NodeName). length ns) a.advances.names in
          omega (arith, length-append r.run.names.born.items (names_born t (length r'.net.nodes - length r.net.nodes)))
