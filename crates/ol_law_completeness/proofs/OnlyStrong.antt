-- If a run of a term's net ends, the term is strongly normalising: its redexes, those that come later too,
-- are virtual redexes of its net, so their degrees are bounded.
-- For `only_strongly_normalising_ends`.
use Rattle.std.proofs.Common.{◌≡◌, ℕ, suc, ◌+◌, ◌*◌, ◌≤◌, List, [], ◌∷◌, length, Bool, false}
use Rattle.std.proofs.Common.{Option, Some, ◌⊎◌, inl, inr, refl, sym, ap, subst, arith}
use Rattle.ol_context.proofs.Contexts.{eta}
use Rattle.ol_context.specs.Contexts.{Level, empty, Context, cons, tail}
use Rattle.ol_beta.specs.Beta.{substituted}
use Rattle.ol_law_confluence.specs.Reductions.{WeakStep, weak_beta, weak_before}
use Rattle.ol_law_edges.proofs.Lists.{in_map}
use Rattle.ol_law_edges.specs.Edges.{IsIn}
use Rattle.ol_diamond.proofs.OneThreadLeads.{one_thread_run}
use Rattle.ol_law_completeness.proofs.Strong.{strongly_normalising_by_rules}
use Rattle.ol_law_completeness.proofs.Bounding.{strong_is_bounded}
use Rattle.ol_law_completeness.proofs.Renaming.{weighs_same, weighs_under}
use Rattle.ol_law_completeness.proofs.Running.{bounded_is_light, short_of}
use Rattle.ol_law_completeness.specs.Weights.{weight}
use Rattle.ol_law_completeness.specs.StrongNormalisation.{argument, Normalises, IsStronglyNormalising}
use Rattle.ol_law_levels.proofs.Runs.{same_levelled, start_levelled}
use Rattle.ol_law_levels.proofs.Terms.{term_is_levelled}
use Rattle.ol_law_levels.specs.Levels.{IsLevelled}
use Rattle.ol_net.specs.Numbered.{numbered_port}
use Rattle.ol_rules.proofs.LeadRuns.{as_run}
use Rattle.ol_rules.proofs.Relation.{same_sym}
use Rattle.ol_law_completeness.specs.StrongNormalisation as rules
use Rattle.ol_law_optimality.specs.Reductions.{reduct}
use Rattle.ol_law_optimality.proofs.Erasing.{labels_erase}
use Rattle.ol_law_optimality.proofs.Runs.{betas_are_routes}
use Rattle.ol_law_optimality.proofs.Virtual.{betas_are_virtual_redexes}
use Rattle.ol_law_optimality.specs.Labels.{Label, Labelled, erased}
use Rattle.ol_law_optimality.specs.Labels as labels
use Rattle.ol_law_optimality.specs.Redexes.{Carries, put, IsVirtualRedex}
use Rattle.ol_law_optimality.specs.Routes.{Crossing, Route}
use Rattle.ol_law_meaning.proofs.Fans.{Links}
use Rattle.ol_law_meaning.proofs.Parts.{Has}
use Rattle.ol_law_meaning.proofs.States as plain
use Rattle.ol_law_meaning.proofs.Whole.{has_part, end_links}
use Rattle.ol_net.specs.Nets.{NamedNet, NamedPort, HasNode, Linked, IsNet, SameNet, port_under, net_under}
use Rattle.ol_net.specs.Nets as nets
use Rattle.ol_net.specs.Pairs.{IsComplete}
use Rattle.ol_net.specs.declared.parts.Kind.{Kind}
use Rattle.ol_net.specs.declared.parts.Kind.TheVariants as kind
use Rattle.ol_net.specs.declared.parts.Port.{Port}
use Rattle.ol_rules.proofs.StartNets.{start_net, start_named}
use Rattle.ol_rules.specs.Runs.{IsRun, IsOneThread}
use Rattle.ol_rules.specs.declared.journal.Entry.{Entry}
use Rattle.ol_rules.specs.declared.journal.NodeName.{NodeName}
use Rattle.ol_rules.specs.declared.journal.NodeName.TheVariants.{Init}
use Rattle.ol_term.specs.Trees.{Tree, lam, app}
use Rattle.ol_term.specs.declared.translations.Translation.{Translation}
use Rattle.ol_translate.proofs.Whole.{translation_net}
use Rattle.ol_translate.specs.Names.{HasNames}
use Rattle.ol_translate.specs.Translation.{subnet_of, translation_of}
use Rattle.ol_law_completeness.proofs.Walls.{size, Weak, at_redex, at_function, argument_of, Norm, of_var, of_free}
use Rattle.ol_law_completeness.proofs.Walls.{of_app, plain, of_lam, of_redex, wall, all_norm}
use Rattle.ol_law_completeness.proofs.First.{unlabelled, erased_unlabelled, port_of, H, L, first}
use Rattle.ol_law_completeness.proofs.Links.{Goes, goes_at, goes_to, goes_row, goes_carries, Link, single}
use Rattle.ol_law_completeness.proofs.Traces.{Env, AtEnd, Starts, own, Trace, steps}
use Rattle.ol_law_completeness.proofs.Nodes.{holds_map}
use Rattle.ol_law_completeness.specs.EndsExactly.{OnlyStronglyNormalisingEnds, OneThreadEndsExactly}
use Rattle.ol_law_completeness.specs.EndsExactly.{EveryRunEndsExactly, RunsAreWithin}

-- ---- a step without its labels

record Erased (t u a : Labelled) : Type 0 where
  step : WeakStep (erased t) (erased u)
  is : argument step ≡ erased a

erased_reduct : (b c : Labelled) (v w : Label) → erased (reduct w v c b) ≡ substituted (erased c) 0 (erased b)
erased_reduct b c v w =
    let e : ◌≡◌ {A = Option Tree} (Some (erased (reduct w v c b))) (Some (substituted (erased c) 0 (erased b))) =
    labels_erase (labels.app (labels.lam b v) c w) [] in
    cc

redex_step : (M N u : Tree) → substituted N 0 M ≡ u → (s : WeakStep (app (lam M) N) u) × (argument s ≡ N)
redex_step M N u e = subst (λ u. (s : WeakStep (app (lam M) N) u) × (argument s ≡ N)) e (weak_beta, refl)

erased_step : {t u : Labelled} (s : Weak t u) → Erased t u (argument_of s)
erased_step (at_redex {b = b} {c = c} {v = v} {w = w}) =
    let r = redex_step (erased b) (erased c) (erased (reduct w v c b)) (sym (erased_reduct b c v w)) in
    record { step = r.0; is = r.1 }
erased_step (at_function s) =
    let r = erased_step s in record { step = weak_before r.step; is = r.is }

-- ---- the redexes of a traced term

-- no virtual redex has more crossings
abbrev AreShort : NamedNet NodeName → ℕ → Type 0
AreShort N b = (s : Route NodeName) → IsVirtualRedex N s → length s.row ≤ b

module _ (N : NamedNet NodeName) (net : IsNet N) (b : ℕ) (short : AreShort N b) where
  virtual : (env : Env) (l m : Link N) (x : NodeName) (n : ℕ) (K : List Level) (r : AtEnd N kind.App 1 x n K l) →
      Starts N (nets.slot x 0) (own K) m → (x' : NodeName) (n' : ℕ) (K' : List Level) → AtEnd N kind.Lam 0 x' n' K' m →
      length m.row ≤ b
  virtual env l m x n K r s x' n' K' r' =
      let whole : (v : Level) (c : Context) → Goes N (nets.slot x 0) (own K v c) m.row m.last_port (own K' v c) =
      λ v c. goes_at N (sym s.port) (sym (s.from v c)) (goes_to N refl (r'.to v c) (m.goes v c)) in
      let link : Linked N m.last_port (nets.slot x' 0) = subst (λ p. Linked N m.last_port p) r'.at m.ends in
      let V : IsVirtualRedex N (record { from = x; row = m.row; to = x' }) = record {
        route = record {
          i = n;
          j = n';
          application = r.node;
          abstraction = r'.node;
          row = goes_row N (whole empty (λ k. empty)) link;
        };
        begin = K;
        last = K';
        begin_is = r.long;
        last_is = r'.long;
        carries = λ c. carried m.row K K' c (goes_carries N (whole (c 0) (tail c)));
      } in
      short (record { from = x; row = m.row; to = x' }) V
    where
      carried : (w : List (Crossing NodeName)) (K K' : List Level) (c : Context) →
          Carries N (put K (cons (c 0) (tail c))) w (put K' (cons (c 0) (tail c))) → Carries N (put K c) w (put K' c)
      carried w K K' c h = subst (λ c. Carries N (put K c) w (put K' c)) (eta c) h

  -- the degree of a redex
  small : (c a : Labelled) (v w : Label) (env : Env) (l : Link N) → Trace N (labels.app (labels.lam c v) a w) env l → size v ≤ b
  small c a v w env l (t', x, n, K, r, (m, s, (t, x', n', K', r', k, s', z)), g) =
      let h = virtual env l m x n K r s x' n' K' r' in omega (arith, t, h)

  -- the argument of it is traced too
  part : {t u : Labelled} (s : Weak t u) (env : Env) (l : Link N) → Trace N t env l → (q : Link N) × Trace N (argument_of s) env q
  part at_redex env l (t, x, n, K, r, m, a) = let q = a empty in (q.0, q.2)
  part (at_function s) env l (t, x, n, K, r, (m, g, k), a) = part s env m k

  -- so it is built by the rules
  built : {k : ℕ} {e : Bool} {t : Labelled} → Norm (suc b) k e t → (env : Env) (l : Link N) → Trace N t env l →
      Normalises e (erased t)
  built of_var env l z = rules.of_var
  built of_free env l z = rules.of_free
  built (of_app p q) env l (t, x, n, K, r, (m, s, z), a) =
      let y = a empty in rules.of_app (built p env m z) (built q env y.0 y.2)
  built (plain p) env l z = rules.plain (built p env l z)
  built (of_lam h p) env l (t, x, n, K, r, m, s, z) = rules.of_lam (built p _ m z)
  built (of_redex s p q) env l z =
      let g = erased_step s in
      let a = part s env l z in
      let k = steps N net s env l z in
      rules.of_redex g.step (subst (λ a. Normalises false a) (sym g.is) (built p env a.0 a.1)) (built q env k.link k.trace)
  built (wall {b = c} {c = a} {v = v} {w = w} h p q) env l z = let g = small c a v w env l z in absurd (omega (arith, g, h))

-- ---- a term's net, under the names with which a run begins

links_map : (P P' : Port → Port → Type 0) → ((p q : Port) → P p q → P' p q) → (xs : List (Port × Port)) → Links P xs → Links P' xs
links_map P P' f [] h = tt
links_map P P' f (x ∷ xs) h = (f x.0 x.1 h.0, links_map P P' f xs h.1)

module _ (N : NamedNet ℕ) where
  node_under : (x : ℕ) (K : Kind) (i : ℕ) → HasNode N x K i → HasNode (net_under Init N) (Init x) K i
  node_under x K i h = in_map (λ (n : ℕ × Kind × ℕ). (Init n.0, n.1, n.2)) (x, K, i) N.nodes h

  linked_under : (p q : NamedPort ℕ) → Linked N p q → Linked (net_under Init N) (port_under Init p) (port_under Init q)
  linked_under p q (inl h) = inl (in_map (λ (e : NamedPort ℕ × NamedPort ℕ). (port_under Init e.0, port_under Init e.1)) (p, q) N.links h)
  linked_under p q (inr h) = inr (in_map (λ (e : NamedPort ℕ × NamedPort ℕ). (port_under Init e.0, port_under Init e.1)) (q, p) N.links h)

-- ---- the longest of some routes

longest : List (Route NodeName) → ℕ
longest [] = 0
longest (s ∷ ss) = length s.row + longest ss

in_longest : (ss : List (Route NodeName)) (s : Route NodeName) → IsIn s ss → length s.row ≤ longest ss
unfolding longest
in_longest [] s h = absurd h
in_longest (u ∷ ss) s (inl e) = let f = ap (λ (s : Route NodeName). length s.row) e in omega (arith, f)
in_longest (u ∷ ss) s (inr h) = let g = in_longest ss s h in omega (arith, g)

module _ (τ : Translation) (t : Tree) (names : ℕ) (h : HasNames t names) (K : NamedNet ℕ) (n : IsNet K)
    (same : SameNet K (translation_of τ t names)) where
  abbrev S : NamedNet NodeName
  S = net_under Init K

  net : IsNet (net_under Init K)
  net = start_net K n

  levelled : IsLevelled (net_under Init K)
  levelled = start_levelled K (same_levelled (translation_of τ t names) K
      (same_sym K (translation_of τ t names) same) (term_is_levelled τ t names h))

  whole_part : Has (H (net_under Init K)) (L (net_under Init K)) 0 (subnet_of τ t 0 0 0)
  whole_part = record {
    nodes = holds_map (plain.H (translation_of τ t names)) (H S) (λ x k i m. node_under K x k i ((same.nodes x k i).1 m))
        0 (subnet_of τ t 0 0 0).nodes (has_part τ t names h).nodes;
    links = links_map (plain.L (translation_of τ t names)) (L S)
        (λ p q l. linked_under K (numbered_port p) (numbered_port q) ((same.links (numbered_port p) (numbered_port q)).1 l))
        (subnet_of τ t 0 0 0).links (has_part τ t names h).links;
  }

  root : Linked (net_under Init K) (nets.free 0) (port_of (subnet_of τ t 0 0 0).root)
  root = linked_under K (nets.free 0) (numbered_port (subnet_of τ t 0 0 0).root)
      ((same.links (nets.free 0) (numbered_port (subnet_of τ t 0 0 0).root)).1 (end_links τ t names h).0)

  whole : Link (net_under Init K)
  whole = single (nets.free 0) (port_of (subnet_of τ t 0 0 0).root) root (λ v c. cons v c)

  env : Env
  env = λ y p F. ⊥

  traced : Trace (net_under Init K) (unlabelled t) env whole
  unfolding whole
  traced = first τ S net t 0 0 0 [] refl h.bound whole_part whole refl (λ v c. refl) env (λ y b q f. absurd (omega (arith, b)))

  strong_if_short : (b : ℕ) → AreShort (net_under Init K) b → IsStronglyNormalising t
  strong_if_short b short =
      let r = built S net b short (all_norm (suc b) (unlabelled t)) env whole traced in
      (strongly_normalising_by_rules t).1 (subst (λ t. Normalises false t) (erased_unlabelled t) r)

  pub strong_if_ended : (journal : List Entry) (M : NamedNet NodeName) → IsRun (net_under Init K) 0 journal M →
      IsComplete M → IsStronglyNormalising t
  strong_if_ended journal M run done =
      let R = betas_are_routes S M 0 journal net (start_named K) run in
      strong_if_short (longest R.0)
      (λ s v. (let k = (betas_are_virtual_redexes S M 0 journal net (start_named K) levelled run done s).0 v in
      in_longest R.0 s (R.4 k.0 s k.1)))

  -- the one-thread run with so much fuel
  one_thread : (fuel : ℕ) → (journal : List Entry) × (M : NamedNet NodeName) × IsOneThread (net_under Init K) fuel journal M
  one_thread fuel = one_thread_run S fuel net (start_named K)

  pub ended_within : (b : ℕ) → RunsAreWithin K b →
      (fuel : ℕ) × (journal : List Entry) × (M : NamedNet NodeName) × IsOneThread (net_under Init K) fuel journal M × IsComplete M
  ended_within b r =
      let o = one_thread (suc b) in
      (suc b, o.0, o.1, o.2, by o.0 o.1 o.2.ended (r o.0 o.1 (as_run (net_under Init K) o.1 0 o.0 o.2.leads)))
    where
      by : (es : List Entry) (M : NamedNet NodeName) → IsComplete M ⊎ (length es ≡ suc b) → length es ≤ b → IsComplete M
      by es M (inl c) h = c
      by es M (inr e) h = absurd (omega (arith, e, h))

  -- a strongly normalising term's runs are within a number
  pub all_within : IsStronglyNormalising t → (b : ℕ) × RunsAreWithin K b
  all_within s =
      let b = strong_is_bounded τ t names h s in
      let N = translation_of τ t names in
      let m = length N.nodes * weight (suc b.0) in
      let w = weighs_under Init K m (weighs_same N K same m (bounded_is_light N b.0 (translation_net τ t names h) b.1)) in
      (m, λ journal M run. short_of (net_under Init K) M m net 0 journal (start_named K) w run)

pub only_strongly_normalising_ends : OnlyStronglyNormalisingEnds
only_strongly_normalising_ends τ t names h K n same journal M run done = strong_if_ended τ t names h K n same journal M run done

pub one_thread_ends : OneThreadEndsExactly
one_thread_ends τ t names h K n same = (
  λ s. (let b = all_within τ t names h K n same s in ended_within τ t names h K n same b.0 b.1),
  λ e. strong_if_ended τ t names h K n same e.1 e.2 (as_run (net_under Init K) e.2 0 e.1 e.3.leads) e.4,
)

pub every_run_ends : EveryRunEndsExactly
every_run_ends τ t names h K n same = (
  λ s. all_within τ t names h K n same s,
  λ e. (one_thread_ends τ t names h K n same).1 (ended_within τ t names h K n same e.0 e.1),
)
