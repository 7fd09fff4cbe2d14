-- After which entry of a run two nodes are joined.
use Rattle.std.proofs.Common.{◌≡◌, ℕ, zero, suc, ◌+◌, ◌<◌, ◌≤◌, List, [], ◌∷◌, ◌++◌, length, take, Some, ◌⊎◌, inl, inr, sym, ap, ◌∙◌, subst, arith}
use Rattle.std.proofs.lemmas.Bool.{cases_lt}
use Rattle.std.proofs.lemmas.List.{take_all}
use Rattle.std.specs.Prelude.{slice_get}
use Rattle.ol_net.specs.Graph.{Graph}
use Rattle.ol_net.specs.Nets.{NamedNet, NamedPort, free, slot, IsNet, IsPort, SameNet, Linked, net_under, port_under}
use Rattle.ol_net.specs.Numbered.{net_of}
use Rattle.ol_rules.specs.declared.journal.NodeName.{NodeName}
use Rattle.ol_rules.specs.declared.journal.Entry.{Entry}
use Rattle.ol_rules.specs.Runs.{IsEntryStep, IsRun}
use Rattle.ol_rules.specs.UnderWay.{node_number}
use Rattle.ol_rules.proofs.OnTheWay.{node_below}
use Rattle.ol_rules.proofs.FreshPairs.{linked_sym}
use Rattle.ol_rules.proofs.OneEnd.{one_end}
use Rattle.ol_rules.proofs.Relation.{same_refl}
use Rattle.ol_rules.proofs.Renaming.{link_to, link_from}
use Rattle.ol_rules.proofs.StartNets.{start_net, start_named}
use Rattle.ol_diamond.specs.declared.weighing.Rewritten.{Rewritten}
use Rattle.ol_diamond.proofs.OneStep.{LastStep, last_step}
use Rattle.ol_diamond.proofs.OneThreadRuns.{run_net}
use Rattle.ol_view.specs.declared.forms.Form.{Form}
use Rattle.ol_view.specs.declared.forms.Form.TheVariants.{One, Two}
use Rattle.ol_view.specs.declared.line_reading.Line.{Line}
use Rattle.ol_view.specs.Checks.{start_net_of_graph, IsRunTold}
use Rattle.ol_orders.specs.declared.replaying.Replay.{Replay}
use Rattle.ol_orders.specs.Replays.{net_here, names_of, IsReplay, ReplaysNamed, AreApart}
use Rattle.ol_orders.proofs.KeptRuns.{run_named, advanced}
use Rattle.ol_orders.proofs.Steps.{entries_on}
use Rattle.ol_explain.specs.Explained.{IsJoinedAfter}
use Rattle.ol_explain.specs.Followed.{IsTold, IsOff}
use Rattle.ol_explain.proofs.Steps as steps
use Rattle.ol_explain.proofs.WhyNot.{named}

-- the step of one entry of a run
pub step_at : (N P : NamedNet NodeName) (t : ℕ) (js : List Entry) (k : ℕ) (e : Entry) → IsRun N t js P →
    slice_get js k ≡ Some e → (K : NamedNet NodeName) × LastStep N t (take k js) e K
step_at N P t [] k e r h = absurd (cc)
step_at N P t (d ∷ js) zero e (IsRun.then {M = K} s r) h =
    let q : d ≡ e = cc in
    let z : t ≡ t + 0 = omega arith in (
      K,
      record {
        before = N;
        run = IsRun.end;
        step = subst (λ u. IsEntryStep N u e K) z (subst (λ d. IsEntryStep N t d K) q s);
      },
    )
step_at N P t (d ∷ js) (suc k) e (IsRun.then {M = K} s r) h =
    let x = step_at K P (suc t) js k e r h in
    let q : suc t + length (take k js) ≡ t + suc (length (take k js)) = omega arith in (
      x.0,
      record {
        before = x.1.before;
        run = IsRun.then s x.1.run;
        step = subst (λ u. IsEntryStep x.1.before u e x.0) q x.1.step;
      },
    )

-- the nodes of its pair are joined
step_joined : (N M : NamedNet NodeName) (t : ℕ) (e : Entry) → IsEntryStep N t e M →
    Linked N (slot e.first 0) (slot e.second 0)
step_joined N M t e s = go s.named.pair
  where
    go : ((e.first ≡ s.f) × (e.second ≡ s.g)) ⊎ ((e.first ≡ s.g) × (e.second ≡ s.f)) →
        Linked N (slot e.first 0) (slot e.second 0)
    go (inl p) = subst (λ x. Linked N (slot x 0) (slot e.second 0)) (sym p.0)
        (subst (λ y. Linked N (slot s.f 0) (slot y 0)) (sym p.1) s.step.active.faces.linked)
    go (inr p) = linked_sym N (slot e.second 0) (slot e.first 0)
        (subst (λ x. Linked N (slot x 0) (slot e.first 0)) (sym p.1)
        (subst (λ y. Linked N (slot s.f 0) (slot y 0)) (sym p.0) s.step.active.faces.linked))

-- what a text tells of is a run
plain : (form : Form) (net last : NamedNet NodeName) (journal : List Entry) (waves : List ℕ) →
    IsRunTold form net journal waves last → IsRun net 0 journal last
plain One net last journal waves r = r
plain Two net last journal waves r = r.0

-- the pair of which something was made is of two nodes that are joined
pub joined_by : (old : Graph) → IsNet (net_of old) → (r : Replay) (form : Form) (waves text : List ℕ) (at : ℕ)
    (line : Line) (of : Rewritten) → IsTold form waves old r text at →
    IsOff form waves old r text at line (Some of) → Linked (net_here r) (slot line.first 0) (slot line.second 0)
joined_by old net r form waves text at line of t o =
    let start = start_net_of_graph old in
    let own : Entry = record { rule = of.rule; first = o.entry.first; second = o.entry.second } in
    let x = last_step start o.runs.0 0 r.run.journal own o.runs.1.0 in
    let same = one_end start start x.before (net_here r) 0 r.run.journal (start_net (net_of old) net)
    (start_named (net_of old)) (same_refl start) x.run (plain form start (net_here r) r.run.journal waves t.run) in
    subst (λ a. Linked (net_here r) (slot a 0) (slot line.second 0)) o.first
    (subst (λ b. Linked (net_here r) (slot o.entry.first 0) (slot b 0)) o.second
    ((same.links (slot own.first 0) (slot own.second 0)).0
    (step_joined x.before o.runs.0 (0 + length r.run.journal) own x.step)))

-- the numbers of two names, the nodes of which are joined
pub record NumbersOf (r : Replay) (a b : NodeName) : Type 0 where
  pub x : ℕ
  pub y : ℕ
  pub first : node_number r.numbers.bases.items a ≡ Some x
  pub second : node_number r.numbers.bases.items b ≡ Some y
  pub linked : Linked (net_of r.net) (slot x 0) (slot y 0)

pub numbers : (old : Graph) (r : Replay) → IsReplay old r → (a b : NodeName) →
    Linked (net_here r) (slot a 0) (slot b 0) → NumbersOf r a b
numbers old r u a b linked =
    let t = link_from (names_of r) (net_of r.net) (slot a 0) (slot b 0) linked in
    go t.0 t.1 t.2 t.3 t.4
  where
    number : (z : NodeName) (n : ℕ) → z ≡ names_of r n → IsPort (net_of r.net) (slot n 0) →
        node_number r.numbers.bases.items z ≡ Some n
    number z n e (k, i, h, b) =
        let l = node_below r.net n k i h in
        ap (node_number r.numbers.bases.items) (e ∙ u.listed n l) ∙ u.finds n l

    go : (p q : NamedPort ℕ) → slot a 0 ≡ port_under (names_of r) p → slot b 0 ≡ port_under (names_of r) q →
        Linked (net_of r.net) p q → NumbersOf r a b
    go (free n) q e e' l = absurd (cc)
    go (slot x s) (free n) e e' l = absurd (cc)
    go (slot x s) (slot y t) e e' l =
        let e0 : a ≡ names_of r x = cc in
        let e1 : b ≡ names_of r y = cc in
        let s0 : s ≡ 0 = cc in
        let t0 : t ≡ 0 = cc in
        let m = subst (λ s. Linked (net_of r.net) (slot x s) (slot y 0)) s0
        (subst (λ t. Linked (net_of r.net) (slot x s) (slot y t)) t0 l) in
        let p = u.is_net.of_ports (slot x 0) (slot y 0) m in
        record { x = x; y = y; first = number a x e0 p.0; second = number b y e1 p.1; linked = m }

-- two numbers whose nodes are joined, by their names
pub joined_named : (old : Graph) (r : Replay) → IsReplay old r → (a b : NodeName) (x y : ℕ) →
    node_number r.numbers.bases.items a ≡ Some x → node_number r.numbers.bases.items b ≡ Some y →
    Linked (net_of r.net) (slot x 0) (slot y 0) → Linked (net_here r) (slot a 0) (slot b 0)
joined_named old r u a b x y e e' l =
    subst (λ a. Linked (net_here r) (slot a 0) (slot b 0)) (named old r u a x e)
    (subst (λ b. Linked (net_here r) (slot (names_of r x) 0) (slot b 0)) (named old r u b y e')
    (link_to (names_of r) (net_of r.net) (slot x 0) (slot y 0) l))

-- while the run is made again: so many of its entries are, and the two weren't joined before
pub record SoFar (old : Graph) (r again : Replay) (a b : NodeName) (k : ℕ) : Type 0 where
  pub replay : IsReplay old again
  pub taken : again.run.journal ≡ take k r.run.journal
  pub apart : (j : ℕ) (N : NamedNet NodeName) → j < k →
      IsRun (start_net_of_graph old) 0 (take j r.run.journal) N → Linked N (slot a 0) (slot b 0) → ⊥

pub so_far_first : (old : Graph) (r again : Replay) (a b : NodeName) → IsReplay old again →
    again.run.journal ≡ [] → SoFar old r again a b 0
so_far_first old r again a b u e = record { replay = u; taken = e; apart = λ j N l. absurd (omega arith) }

module _ (old : Graph) (net : IsNet (net_of old)) (r again : Replay) (u : IsReplay old r) (a b : NodeName)
    (k : ℕ) (s : SoFar old r again a b k) where
  abbrev start : NamedNet NodeName
  start = start_net_of_graph old

  run : IsRun start 0 (take k r.run.journal) (net_here again)
  run = subst (λ es. IsRun start 0 es (net_here again)) s.taken (run_named old again s.replay)

  same_to : (N : NamedNet NodeName) → IsRun start 0 (take k r.run.journal) N → SameNet N (net_here again)
  same_to N run' = one_end start start N (net_here again) 0 (take k r.run.journal) (start_net (net_of old) net)
      (start_named (net_of old)) (same_refl start) run' run

  -- they are joined now
  pub joined_now : k ≤ length r.run.journal → Linked (net_here again) (slot a 0) (slot b 0) →
      IsJoinedAfter start r.run.journal a b k
  joined_now within linked = record {
    within = within;
    after = net_here again;
    run = run;
    joined = linked;
    first = s.apart;
  }

  -- all entries are made
  pub joined_last : length r.run.journal ≤ k → (n : ℕ) → n ≡ length r.run.journal → k ≤ n →
      Linked (net_here r) (slot a 0) (slot b 0) → IsJoinedAfter start r.run.journal a b n
  joined_last all n e l linked = record {
    within = omega arith;
    after = net_here r;
    run = subst (λ es. IsRun start 0 es (net_here r)) (sym (take_all n r.run.journal (omega arith))) (run_named old r u);
    joined = linked;
    first = λ j N h. s.apart j N (omega arith);
  }

  module _ (e : Entry) (at : slice_get r.run.journal k ≡ Some e) where
    x : (K : NamedNet NodeName) × LastStep start 0 (take k r.run.journal) e K
    x = step_at start (net_here r) 0 r.run.journal k e (run_named old r u) at

    same : SameNet x.1.before (net_under s.replay.m (net_of again.net))
    same = one_end start start x.1.before (net_under s.replay.m (net_of again.net)) 0 (take k r.run.journal)
        (start_net (net_of old) net) (start_named (net_of old)) (same_refl start) x.1.run
        (subst (λ es. IsRun start 0 es (net_under s.replay.m (net_of again.net))) s.taken s.replay.run)

    pub makes_it : AreApart again e.first e.second → ⊥
    makes_it = steps.not_apart old again s.replay x.1.before x.0 (0 + length (take k r.run.journal)) e x.1.step same

    pub made : (next : Replay) → ReplaysNamed again next e.first e.second →
        (Linked (net_here again) (slot a 0) (slot b 0) → ⊥) → SoFar old r next a b (k + 1)
    made next adv none = record {
      replay = advanced old again next adv.x adv.y s.replay adv.pair;
      taken = steps.written old again s.replay x.1.before x.0 (0 + length (take k r.run.journal)) e x.1.step same
          (run_net start x.1.before 0 (take k r.run.journal) (start_net (net_of old) net) (start_named (net_of old)) x.1.run)
          next adv
          ∙ ap (λ es. es ++ e ∷ []) s.taken ∙ sym (entries_on r.run.journal k e at);
      apart = λ j N l run' linked. go j N run' linked (cases_lt j k) l;
    }
      where
        go : (j : ℕ) (N : NamedNet NodeName) → IsRun start 0 (take j r.run.journal) N →
            Linked N (slot a 0) (slot b 0) → (j < k) ⊎ (k ≤ j) → j < k + 1 → ⊥
        go j N run' linked (inl l) m = s.apart j N l run' linked
        go j N run' linked (inr l) m =
            let q : j ≡ k = omega arith in
            none (((same_to N (subst (λ j. IsRun start 0 (take j r.run.journal) N) q run')).links
            (slot a 0) (slot b 0)).0 linked)
