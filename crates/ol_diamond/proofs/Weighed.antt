-- A journal is replayed on a net whose ports have weights: what is so before each entry, and at the end.
use Rattle.std.proofs.Common.{◌≡◌, ℕ, zero, suc, ◌+◌, ◌*◌, ◌<◌, ◌≤◌, max, true, List, [], ◌∷◌, ◌++◌, length}
use Rattle.std.proofs.Common.{length-append, take, get_or, Some, slice_get, refl, sym, ap, subst, arith}
use Rattle.ol_net.specs.Graph.{Graph}
use Rattle.ol_net.specs.Nets.{NamedPort, free, slot, NamedNet, IsNet, net_under}
use Rattle.ol_net.specs.Numbered.{net_of}
use Rattle.ol_rules.specs.declared.journal.NodeName.{NodeName}
use Rattle.ol_rules.specs.declared.journal.NodeName.TheVariants.{Init}
use Rattle.ol_rules.specs.declared.journal.Entry.{Entry}
use Rattle.ol_rules.specs.Names.{comes_before}
use Rattle.ol_rules.specs.Runs.{IsRun}
use Rattle.ol_rules.specs.Runs as runs
use Rattle.ol_rules.proofs.NameOrder.{Names, names_after, names_after_old, names_first}
use Rattle.ol_rules.proofs.Renaming.{net_alike}
use Rattle.ol_rules.proofs.StartNets.{start_net, start_named}
use Rattle.ol_rules.proofs.OnTheWay.{node_below}
use Rattle.ol_diamond.specs.PortWeights.{WeighsEntry}
use Rattle.ol_diamond.specs.Waves.{weightless, IsWavesOf}
use Rattle.ol_diamond.proofs.Replays.{Index, index_first, few_more}
use Rattle.ol_diamond.proofs.WaveEntries.{WavedRun, ends, waved_on, run_of, waves_of_run}
use Rattle.ol_diamond.proofs.WeighedPorts.{name_weight}
use Rattle.ol_diamond.proofs.WeighedEntries.{weighted_named, names_next, index_next, sized_next, wave_entry}

-- the first k entries are replayed
pub record UnderWay (old : Graph) (journal : List Entry) (g : Graph) (bases weights waves : List ℕ)
    (k : ℕ) : Type 0 where
  pub m : ℕ → NodeName
  pub named : Names (length old.nodes) (length g.nodes) k m
  pub index : Index bases (length g.nodes) k m
  pub sized : length weights ≡ g.free + 3 * length g.nodes
  pub few : length g.nodes ≤ length old.nodes + 4 * k
  pub count : length waves ≡ k
  pub below : k ≤ length journal
  pub run : WavedRun (weightless (net_under Init (net_of old))) 0 (take k journal) waves
      (weighted_named m g bases weights)

-- before the first entry
pub begins : (old : Graph) (journal : List Entry) (weights : List ℕ) → IsNet (net_of old) →
    length weights ≡ old.free + 3 * length old.nodes → ((k : ℕ) → get_or weights k 0 ≡ 0) →
    UnderWay old journal old (length old.nodes ∷ []) weights [] 0
begins old journal weights net sized zeros = record {
  m = m;
  named = names_first (length old.nodes);
  index = index_first (length old.nodes);
  sized = sized;
  few = omega arith;
  count = refl;
  below = omega arith;
  run = subst (λ N. WavedRun (weightless (net_under Init (net_of old))) 0 [] [] N) start ends;
}
  where
    m : ℕ → NodeName
    m = names_after Init (length old.nodes) 0

    nets : net_under Init (net_of old) ≡ net_under (names_after Init (length old.nodes) 0) (net_of old)
    nets = net_alike Init (names_after Init (length old.nodes) 0) (net_of old) net
        (λ x k i h. sym (names_after_old Init (length old.nodes) 0 x (node_below old x k i h)))

    nothing : (u : NamedPort NodeName) → name_weight old.free (length old.nodes ∷ []) weights u ≡ 0
    nothing (free k) = zeros k
    nothing (slot x s) = zeros _

    light : (u v : NamedPort NodeName) →
        0 ≡ max (name_weight old.free (length old.nodes ∷ []) weights u)
        (name_weight old.free (length old.nodes ∷ []) weights v)
    light u v = let a = nothing u in let b = nothing v in omega arith

    start : weightless (net_under Init (net_of old)) ≡ weighted_named
        (names_after Init (length old.nodes) 0) old (length old.nodes ∷ []) weights
    start = λ i. record { net = nets i; weight = λ u v. light u v i }

-- an entry of a run names the smaller name first
ordered_at : (N M : NamedNet NodeName) (t : ℕ) (es : List Entry) (k : ℕ) (e : Entry) →
    IsRun N t es M → slice_get es k ≡ Some e → comes_before e.first e.second ≡ true
ordered_at N M t [] k e r h = absurd (cc)
ordered_at N M t (d ∷ es) zero e (runs.IsRun.then s r) h = let q : d ≡ e = cc in
    subst (λ e. comes_before e.first e.second ≡ true) q s.named.ordered
ordered_at N M t (d ∷ es) (suc k) e (runs.IsRun.then {M = K} s r) h = ordered_at K M (suc t) es k e r h

taken_more : (es : List Entry) (k : ℕ) (e : Entry) → slice_get es k ≡ Some e → take (suc k) es ≡ take k es ++ e ∷ []
taken_more [] k e h = absurd (cc)
taken_more (d ∷ es) zero e h = let q : d ≡ e = cc in ap (λ e. e ∷ []) q
taken_more (d ∷ es) (suc k) e h = ap (λ es. d ∷ es) (taken_more es k e h)

taken_size : (es : List Entry) (k : ℕ) → k ≤ length es → length (take k es) ≡ k
taken_size es zero h = refl
taken_size [] (suc k) h = absurd (omega arith)
taken_size (d ∷ es) (suc k) h = ap suc (taken_size es k (omega arith))

taken_all : (es : List Entry) (k : ℕ) → k ≡ length es → take k es ≡ es
taken_all [] zero h = refl
taken_all [] (suc k) h = absurd (omega arith)
taken_all (d ∷ es) zero h = absurd (omega arith)
taken_all (d ∷ es) (suc k) h = ap (λ es. d ∷ es) (taken_all es k (omega arith))

got_below : (es : List Entry) (k : ℕ) (e : Entry) → slice_get es k ≡ Some e → k < length es
got_below [] k e h = absurd (cc)
got_below (d ∷ es) zero e h = omega arith
got_below (d ∷ es) (suc k) e h = let b = got_below es k e h in omega arith

pub there_is : (es : List Entry) (k : ℕ) → k < length es → (e : Entry) × (slice_get es k ≡ Some e)
there_is [] k h = absurd (omega arith)
there_is (d ∷ es) zero h = (d, refl)
there_is (d ∷ es) (suc k) h = there_is es k (omega arith)

-- one entry more
pub one_more : (old : Graph) (journal : List Entry) (M : NamedNet NodeName) →
    IsRun (net_under Init (net_of old)) 0 journal M →
    (g g' : Graph) (bases bases' weights weights' waves : List ℕ) (k : ℕ) (e : Entry) (wave : ℕ) →
    UnderWay old journal g bases weights waves k → slice_get journal k ≡ Some e →
    WeighsEntry g g' bases bases' weights weights' e wave →
    UnderWay old journal g' bases' weights' (waves ++ wave ∷ []) (suc k)
one_more old journal M r g g' bases bases' weights weights' waves k e wave u h x =
    let ordered = ordered_at (net_under Init (net_of old)) M 0 journal k e r h in
    let b = got_below journal k e h in
    let f = few_more g g' bases bases' e.first e.second x.named ordered (length old.nodes) k u.m u.named u.index in
    let f' = u.few in
    let c = u.count in
    let size = taken_size journal k u.below in
    record {
      m = names_after u.m (length g'.nodes) (suc k);
      named = names_next g g' bases bases' weights weights' e wave x ordered
          (length old.nodes) k u.m u.named u.index u.sized;
      index = index_next g g' bases bases' weights weights' e wave x ordered
          (length old.nodes) k u.m u.named u.index u.sized;
      sized = sized_next g g' bases bases' weights weights' e wave x ordered
          (length old.nodes) k u.m u.named u.index u.sized;
      few = omega arith;
      count = omega (arith, length-append waves (wave ∷ []));
      below = omega arith;
      run = subst (λ es. WavedRun (weightless (net_under Init (net_of old))) 0 es
          (waves ++ wave ∷ []) (weighted_named
          (names_after u.m (length g'.nodes) (suc k)) g' bases' weights')) (sym (taken_more journal k e h))
          (waved_on (weightless (net_under Init (net_of old))) (weighted_named u.m g bases weights)
          (weighted_named (names_after u.m (length g'.nodes) (suc k)) g' bases' weights') 0 k
          (take k journal) waves e wave (omega arith) u.run
          (wave_entry g g' bases bases' weights weights' e wave x ordered
          (length old.nodes) k u.m u.named u.index u.sized));
    }

-- after the last entry
pub all_told : (old : Graph) (journal : List Entry) → IsNet (net_of old) →
    (g : Graph) (bases weights waves : List ℕ) (k : ℕ) →
    UnderWay old journal g bases weights waves k → k ≡ length journal → IsWavesOf old journal waves
all_told old journal net g bases weights waves k u h =
    let N = net_under Init (net_of old) in
    let r : WavedRun (weightless N) 0 journal waves (weighted_named u.m g bases weights) = subst
    (λ es. WavedRun (weightless N) 0 es waves (weighted_named u.m g bases weights)) (taken_all journal k h) u.run in
    record {
      last = net_under u.m (net_of g);
      run = run_of (weightless N) (weighted_named u.m g bases weights) 0 journal waves r;
      waves_are = waves_of_run N (weighted_named u.m g bases weights) journal waves
          (start_net (net_of old) net) (start_named (net_of old)) r;
    }

-- where fewer entries were replayed than there are, the numbers stay small
pub few_so_far : (old : Graph) (journal : List Entry) (g : Graph) (bases weights waves : List ℕ)
    (k : ℕ) → UnderWay old journal g bases weights waves k →
    length old.nodes + 4 * length journal ≤ 2000000000 → length g.nodes ≤ 2000000000
few_so_far old journal g bases weights waves k u h = let f = u.few in let b = u.below in omega arith
