-- The weights after a run, found by a replay on a net whose ports have weights.
use Rattle.std.proofs.Common.{◌≡◌, ℕ, suc, ◌+◌, max, Bool, true, false, List, [], ◌∷◌, ◌++◌, length, take, Option, None, Some, refl, ap, ◌∙◌, subst, arith}
use Rattle.std.specs.Prelude.{slice_get, IfSome, IfNone}
use Rattle.ol_net.specs.declared.parts.Rule.{Rule}
use Rattle.ol_net.specs.Graph.{Graph}
use Rattle.ol_net.specs.Nets.{NamedNet, NamedPort, free, slot, IsNet, SameNet, net_under}
use Rattle.ol_net.specs.Numbered.{net_of}
use Rattle.ol_rules.specs.declared.journal.NodeName.{NodeName}
use Rattle.ol_rules.specs.declared.journal.Entry.{Entry}
use Rattle.ol_rules.specs.Runs.{IsRun}
use Rattle.ol_rules.specs.Runs as runs
use Rattle.ol_rules.specs.UnderWay.{node_number}
use Rattle.ol_rules.proofs.NameOrder.{names_apart, names_after}
use Rattle.ol_rules.proofs.OneEnd.{one_end}
use Rattle.ol_rules.proofs.Relation.{same_refl, same_sym}
use Rattle.ol_rules.proofs.StartNets.{start_net, start_named}
use Rattle.ol_diamond.specs.PortWeights.{WeighsEntry}
use Rattle.ol_diamond.specs.Replaying.{AreIdleNumbers}
use Rattle.ol_diamond.specs.Waves.{WeightedNet, weightless}
use Rattle.ol_diamond.specs.declared.weighing.Rewritten.{Rewritten}
use Rattle.ol_diamond.specs.declared.weighing.Weighing.{Weighing}
use Rattle.ol_diamond.proofs.Meetings.{by_ports}
use Rattle.ol_diamond.proofs.OneStep.{LastStep, one_entry_rule}
use Rattle.ol_diamond.proofs.WaveEntries.{IsWaveEntry, WavedRun, ends, goes, entry_of, run_of}
use Rattle.ol_diamond.proofs.Weighed.{UnderWay, one_more}
use Rattle.ol_diamond.proofs.WeighedPorts.{name_weight}
use Rattle.ol_diamond.proofs.WeighedEntries.{net_is, weighted_named, wave_entry}
use Rattle.ol_view.specs.Checks.{start_net_of_graph}
use Rattle.ol_view.proofs.OneVerdict.{not_idle, one_entry}
use Rattle.ol_view.proofs.Replays.{idle_names}
use Rattle.ol_orders.specs.declared.replaying.Replay.{Replay}
use Rattle.ol_orders.specs.Replays.{names_of, net_here, IsReplay}
use Rattle.ol_orders.proofs.KeptRuns.{run_named}
use Rattle.ol_explain.specs.declared.naming.Beside.{Beside}
use Rattle.ol_explain.specs.Afters.{IsWeighedRun, ended, first, shown_text}
use Rattle.ol_explain.specs.Besides.{port_weight, weighted_by, beside_words, IsWeighed, IsBeside, IsShown}
use Rattle.ol_explain.proofs.Joins.{step_at}

-- one entry more
module _ (old : Graph) (net : IsNet (net_of old)) (journal : List Entry) (M : NamedNet NodeName)
    (run : IsRun (start_net_of_graph old) 0 journal M) (g : Graph) (bases weights waves : List ℕ) (k : ℕ)
    (u : UnderWay old journal g bases weights waves k) (e : Entry) (at : slice_get journal k ≡ Some e) where
  abbrev start : NamedNet NodeName
  start = start_net_of_graph old

  abbrev here : NamedNet NodeName
  here = net_under u.m (net_of g)

  x : (K : NamedNet NodeName) × LastStep start 0 (take k journal) e K
  x = step_at start M 0 journal k e run at

  same : SameNet x.1.before here
  same = one_end start start x.1.before here 0 (take k journal) (start_net (net_of old) net) (start_named (net_of old))
      (same_refl start) x.1.run (run_of (weightless start) (weighted_named u.m g bases weights) 0 (take k journal) waves u.run)

  pub makes_it : AreIdleNumbers g bases e.first e.second → ⊥
  makes_it idle = not_idle x.1.before here x.0 (0 + length (take k journal)) e e.first e.second same x.1.step refl refl
      (idle_names g bases (length old.nodes) k u.m e.first e.second u.named u.index idle)

  module _ (g' : Graph) (bases' weights' : List ℕ) (rule : Rule) (wave : ℕ)
      (w : WeighsEntry g g' bases bases' weights weights'
      (record { rule = rule; first = e.first; second = e.second }) wave) where
    abbrev own : Entry
    own = record { rule = rule; first = e.first; second = e.second }

    abbrev after : WeightedNet NodeName
    after = weighted_named (names_after u.m (length g'.nodes) (suc k)) g' bases' weights'

    step : IsWaveEntry (weighted_named u.m g bases weights) k own wave after
    step = wave_entry g g' bases bases' weights weights' own wave w x.1.step.named.ordered
        (length old.nodes) k u.m u.named u.index u.sized

    is : own ≡ e
    is = one_entry own e (one_entry_rule here x.1.before after.net x.0 k (0 + length (take k journal)) own e
        (net_is u.m g (names_apart (length old.nodes) (length g.nodes) k u.m u.named) w.named.old_net)
        (same_sym x.1.before here same)
        (entry_of (weighted_named u.m g bases weights) k own wave after step) x.1.step refl) refl refl

    pub made : UnderWay old journal g' bases' weights' (waves ++ wave ∷ []) (suc k)
    made = one_more old journal M run g g' bases bases' weights weights' waves k e wave u at
        (subst (λ e. WeighsEntry g g' bases bases' weights weights' e wave) is w)

  pub some_made : (of : Option Rewritten) → IfNone of (AreIdleNumbers g bases e.first e.second) →
      ((x : Rewritten) → of ≡ Some x → ⊥) → ⊥
  some_made None idle none = makes_it idle
  some_made (Some of) idle none = none of refl

  -- whatever was made of its pair, something was
  pub made_on : (g' : Graph) (bases' weights' : List ℕ) (of : Option Rewritten) →
      IfSome of (λ of. WeighsEntry g g' bases bases' weights weights'
      (record { rule = of.rule; first = e.first; second = e.second }) of.wave) →
      (of ≡ None → ⊥) → (ws : List ℕ) × UnderWay old journal g' bases' weights' ws (k + 1)
  made_on g' bases' weights' None w some = absurd (some refl)
  made_on g' bases' weights' (Some of) w some = (
    waves ++ of.wave ∷ [],
    subst (λ k. UnderWay old journal g' bases' weights' (waves ++ of.wave ∷ []) k)
        (let q : suc k ≡ k + 1 = omega arith in q) (made g' bases' weights' of.rule of.wave w),
  )

-- the run, in the words of the definition
told_run : (N P : WeightedNet NodeName) (t : ℕ) (es : List Entry) (ws : List ℕ) → WavedRun N t es ws P →
    IsWeighedRun N t es ws P
told_run N P t [] [] ends = ended
told_run N P t [] (w ∷ ws) r = elim r [ ]
told_run N P t (e ∷ es) [] r = elim r [ ]
told_run N P t (e ∷ es) (w ∷ ws) (goes {M = K} x r) =
    first (record { f = x.f; g = x.g; named = x.named; step = x.step }) (told_run K P (suc t) es ws r)

-- and without its weights
plain_run : (N P : WeightedNet NodeName) (t : ℕ) (es : List Entry) (ws : List ℕ) → IsWeighedRun N t es ws P →
    IsRun N.net t es P.net
plain_run N P t [] [] ended = runs.IsRun.end
plain_run N P t [] (w ∷ ws) r = elim r [ ]
plain_run N P t (e ∷ es) [] r = elim r [ ]
plain_run N P t (e ∷ es) (w ∷ ws) (first {M = K} x r) =
    runs.IsRun.then (record { f = x.f; g = x.g; named = x.named; step = x.step.step }) (plain_run K P (suc t) es ws r)

-- what ports weigh, in the words of the definition
module _ (w : Weighing) where
  one_weight : (p : NamedPort NodeName) →
      name_weight w.net.free w.numbers.bases.items w.weights.items p ≡ port_weight w p
  one_weight (free k) = refl
  one_weight (slot x s) = go (node_number w.numbers.bases.items x) refl
    where
      go : (o : Option ℕ) → node_number w.numbers.bases.items x ≡ o →
          name_weight w.net.free w.numbers.bases.items w.weights.items (slot x s) ≡ port_weight w (slot x s)
      go None q = rw q refl
      go (Some n) q = rw q refl

  both : (p q : NamedPort NodeName) →
      max (name_weight w.net.free w.numbers.bases.items w.weights.items p)
      (name_weight w.net.free w.numbers.bases.items w.weights.items q) ≡ max (port_weight w p) (port_weight w q)
  both p q = ap (λ n. max n (name_weight w.net.free w.numbers.bases.items w.weights.items q)) (one_weight p)
      ∙ ap (λ n. max (port_weight w p) n) (one_weight q)

  in_words : (N : NamedNet NodeName) →
      by_ports N (name_weight w.net.free w.numbers.bases.items w.weights.items) ≡ weighted_by w N
  in_words N = λ i. record { net = N; weight = λ p q. both p q i }

-- all entries are made
pub weighed : (old : Graph) (journal : List Entry) (w : Weighing) (waves : List ℕ) (k : ℕ) →
    UnderWay old journal w.net w.numbers.bases.items w.weights.items waves k → take k journal ≡ journal →
    IsWeighed old journal w
weighed old journal w waves k u all =
    let N = net_under u.m (net_of w.net) in (
      N,
      waves,
      told_run (weightless (start_net_of_graph old)) (weighted_by w N) 0 journal waves
          (subst (λ W. WavedRun (weightless (start_net_of_graph old)) 0 journal waves W) (in_words w N)
          (subst (λ es. WavedRun (weightless (start_net_of_graph old)) 0 es waves
          (weighted_named u.m w.net w.numbers.bases.items w.weights.items)) all u.run)),
    )

-- the text of the last net, with weights or without
pub shown_by : (weights : Bool) (old : Graph) → IsNet (net_of old) → (r : Replay) → IsReplay old r → (b : Beside) →
    IsBeside weights old r.run.journal b → (text : List ℕ) →
    text ≡ shown_text (names_of r) (beside_words b r) (length r.run.journal) r.net → IsShown weights old r text
shown_by false old net r u b e text t =
    t ∙ ap (λ b. shown_text (names_of r) (beside_words b r) (length r.run.journal) r.net) e
shown_by true old net r u b (w, e, (N, waves, run)) text t = (
  waves,
  weighted_by w N,
  run,
  one_end (start_net_of_graph old) (start_net_of_graph old) N (net_here r) 0 r.run.journal
      (start_net (net_of old) net) (start_named (net_of old)) (same_refl (start_net_of_graph old))
      (plain_run (weightless (start_net_of_graph old)) (weighted_by w N) 0 r.run.journal waves run)
      (run_named old r u),
  t ∙ ap (λ b. shown_text (names_of r) (beside_words b r) (length r.run.journal) r.net) e,
)
