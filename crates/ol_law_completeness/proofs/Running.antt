-- Runs of nets that have a weight, and nets with bounded walks.
use Rattle.std.proofs.Common.{◌≡◌, ℕ, suc, ◌+◌, ◌*◌, ◌<◌, ◌≤◌, ◌⊎◌, inl, inr, List, [], ◌∷◌, length, ap, arith}
use Rattle.ol_law_edges.specs.Edges.{IsIn}
use Rattle.ol_net.specs.Nets.{NamedNet, IsNet, slot, net_under}
use Rattle.ol_net.specs.Numbered.{net_of}
use Rattle.ol_net.specs.Pairs.{IsComplete}
use Rattle.ol_net.specs.declared.parts.Kind.{Kind}
use Rattle.ol_context.specs.Contexts.{levels}
use Rattle.ol_diamond.proofs.OneThreadLeads.{one_thread_run}
use Rattle.ol_rules.proofs.LeadRuns.{as_run}
use Rattle.ol_rules.proofs.OneRun.{name_same, name_test, fresh_names, named_after}
use Rattle.ol_rules.proofs.Relation.{net_kept}
use Rattle.ol_rules.proofs.StartNets.{start_net, start_named}
use Rattle.ol_rules.specs.Laws.{AreNamedBefore}
use Rattle.ol_rules.specs.Rewriting.{action_of}
use Rattle.ol_rules.specs.Runs.{IsRun, IsOneThread}
use Rattle.ol_rules.specs.declared.journal.Entry.{Entry}
use Rattle.ol_rules.specs.declared.journal.NodeName.{NodeName}
use Rattle.ol_rules.specs.declared.journal.NodeName.TheVariants.{Init, Born}
use Rattle.ol_law_completeness.specs.Weights.{weight, weights, WeighsAtMost}
use Rattle.ol_law_completeness.specs.BoundedRuns.{RunsAreShort, BoundedIsLight, BoundedRunsAreShort}
use Rattle.ol_law_completeness.specs.BoundedRuns.{BoundedRunEnds, BoundedHasComplete, BoundedGraphRunsEnd}
use Rattle.ol_law_completeness.proofs.Walking.{bounded, one_of}
use Rattle.ol_law_completeness.proofs.Lightening.{step_lightens}
use Rattle.ol_law_completeness.proofs.Renaming.{weighs_same, weighs_under}

pub runs_are_short : RunsAreShort
runs_are_short N M t [] m n b IsRun.end w = (m, omega arith, w)
runs_are_short N M t (e ∷ es) m n b (IsRun.then {M = K} s run) w =
    let a = s.step.active in
    let fresh = fresh_names N t b in
    let n' : IsNet K = net_kept name_same name_test (λ place. Born t place) N s.f s.g a.k a.i a.l
    a.j e.rule n a.faces fresh a.fits K s.step.rewrites in
    let b' = named_after N K t s.f s.g a.k a.i a.l (action_of e.rule a.j) b s.step.rewrites in
    let x = step_lightens name_same name_test (λ place. Born t place) N K s.f s.g e.rule n fresh
    s.step m w in
    let y = runs_are_short K M (suc t) es x.0 n' b' run x.2 in
    let less = x.1 in
    let sum = y.1 in
    (y.0, omega (arith, less, sum), y.2)

no_more : {m n : ℕ} → m ≡ n → m ≤ n
no_more h = omega (arith, h)

zero_times : (w : ℕ) → 0 ≡ 0 * w
zero_times w = omega arith

suc_times : (s a w : ℕ) → s ≡ a * w → w + s ≡ suc a * w
suc_times s a w h = omega (arith, h)

module _ {A : Type 0} where
  numbered : ℕ → List (A × Kind × ℕ) → List (A × ℕ)
  numbered n [] = []
  numbered n (e ∷ es) = (e.0, n) ∷ numbered n es

  in_numbered : (n : ℕ) (es : List (A × Kind × ℕ)) (x : A) (k : Kind) (i : ℕ) → IsIn (x, k, i) es →
      IsIn (x, n) (numbered n es)
  unfolding numbered
  in_numbered n [] x k i h = absurd h
  in_numbered n (e ∷ es) x k i (inl z) = inl (ap (λ (e : A × Kind × ℕ). (e.0, n)) z)
  in_numbered n (e ∷ es) x k i (inr z) = inr (in_numbered n es x k i z)

  sum_of : (n : ℕ) (es : List (A × Kind × ℕ)) → weights (numbered n es) ≡ length es * weight n
  unfolding numbered
  sum_of n [] = zero_times (weight n)
  sum_of n (e ∷ es) = suc_times (weights (numbered n es)) (length es) (weight n) (sum_of n es)

  pub bounded_is_light : BoundedIsLight A
  bounded_is_light N b is_net few = record {
    numbers = numbered (suc b) N.nodes;
    all = λ x k i h. (
      suc b,
      in_numbered (suc b) N.nodes x k i h,
      bounded N is_net b (slot x 0) [] (k, i, h, omega arith)
          (λ m g. (let r = one_of N g (levels [], tt) in few x k i m r.0 r.3 r.2 h r.4)),
    );
    sum = no_more (sum_of (suc b) N.nodes);
  }

-- from a net of this weight
module _ (N M : NamedNet NodeName) (m : ℕ) (is_net : IsNet N) where
  pub short_of : (t : ℕ) (journal : List Entry) → AreNamedBefore N t → WeighsAtMost N m →
      IsRun N t journal M → length journal ≤ m
  short_of t journal before w run =
      let x = runs_are_short N M t journal m is_net before run w in
      let y = x.1 in
      within x.0 m y
    where
      within : (n m : ℕ) → n + length journal ≤ m → length journal ≤ m
      within n m h = omega (arith, h)

  pub ends_of : (fuel : ℕ) (journal : List Entry) → AreNamedBefore N 0 → WeighsAtMost N m →
      m < fuel → IsOneThread N fuel journal M → IsComplete M
  ends_of fuel journal before w more one =
      by (short_of 0 journal before w (as_run N M 0 journal one.leads)) one.ended
    where
      by : length journal ≤ m → IsComplete M ⊎ (length journal ≡ fuel) → IsComplete M
      by s (inl c) = c
      by s (inr e) = absurd (omega (arith, more, s, e))

pub short : BoundedRunsAreShort
short N M t journal b is_net before few run =
    short_of N M (length N.nodes * weight (suc b)) is_net t journal before
    (bounded_is_light N b is_net few) run

pub ends : BoundedRunEnds
ends N M fuel journal b is_net before few more one =
    ends_of N M (length N.nodes * weight (suc b)) is_net fuel journal before
    (bounded_is_light N b is_net few) more one

pub complete : BoundedHasComplete
complete N b is_net before few =
    let fuel = suc (length N.nodes * weight (suc b)) in
    let r = one_thread_run N fuel is_net before in (
      r.0,
      r.1,
      as_run N r.1 0 r.0 r.2.leads,
      ends N r.1 fuel r.0 b is_net before few (next (length N.nodes * weight (suc b))) r.2,
    )
  where
    next : (n : ℕ) → n < suc n
    next n = omega arith

pub graph : BoundedGraphRunsEnd
graph N b is_net few g is_graph same =
    let w = weighs_under Init (net_of g) (length N.nodes * weight (suc b))
    (weighs_same N (net_of g) same (length N.nodes * weight (suc b))
    (bounded_is_light N b is_net few)) in
    let n = start_net (net_of g) is_graph in
    let before = start_named (net_of g) in record {
      short = λ journal M run. short_of (net_under Init (net_of g)) M
          (length N.nodes * weight (suc b)) n 0 journal before w run;
      ends = λ fuel journal M more one. ends_of (net_under Init (net_of g)) M
          (length N.nodes * weight (suc b)) n fuel journal before w more one;
    }
