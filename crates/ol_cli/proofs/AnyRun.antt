-- Any run tells the answer of the one-thread run.
use Rattle.std.proofs.Common.{◌≡◌, ℕ, suc, ◌+◌, ◌*◌, ◌≤◌, List, [], ◌∷◌, length, inl, inr, sym, ◌∙◌, subst}
use Rattle.std.proofs.lemmas.List.{length-map}
use Rattle.ol_term.specs.declared.translations.Translation.{Translation}
use Rattle.ol_term.specs.Trees.{Tree}
use Rattle.ol_net.specs.declared.parts.Kind.{Kind}
use Rattle.ol_net.specs.Nets.{NamedNet, HasNode, IsNet, SameNet, net_under}
use Rattle.ol_rules.specs.declared.journal.NodeName.{NodeName}
use Rattle.ol_rules.specs.declared.journal.NodeName.TheVariants.{Init, Born}
use Rattle.ol_rules.specs.declared.journal.Entry.{Entry}
use Rattle.ol_rules.specs.Rewriting.{Action, action_of, Rewrites}
use Rattle.ol_rules.specs.Runs.{IsEntryStep, IsRun, IsLeadRun}
use Rattle.ol_net.specs.Pairs.{IsComplete, HasActive}
use Rattle.ol_rules.proofs.Recount.{net_same}
use Rattle.ol_rules.proofs.Relation.{same_refl, same_sym, same_trans}
use Rattle.ol_rules.proofs.Same.{complete_same, has_stuck_same}
use Rattle.ol_rules.proofs.UnderNames.{same_under}
use Rattle.ol_translate.specs.Translation.{nodes_of, links_of, translation_of}
use Rattle.ol_readback.specs.Heads.{live}
use Rattle.ol_readback.specs.ReadTrees.{IsTree}
use Rattle.ol_readback.specs.declared.answers.ReadNode.{ReadNode}
use Rattle.ol_cli.specs.Listing.{ListsOnce}
use Rattle.ol_cli.specs.Run.{start_net_of_term, Shows, RunEnds, ReadsLast}
use Rattle.ol_cli.specs.EveryRun.{OneThreadIsThere, AnyRunPrints, AnyRunRunsOut}
use Rattle.ol_cli.proofs.EveryRun.{shows_under}
use Rattle.ol_cli.proofs.NamedNets.{named_net}
use Rattle.ol_diamond.proofs.OneThread.{one_thread_exists, done_tells, spent_tells, longer_tells}
use Rattle.ol_cli.proofs.ListedOnce.{net_of_parts_once, net_under_once, same_length}
use Rattle.ol_cli.proofs.OnePrint.{start_is_net, start_is_named}
use Rattle.ol_cli.proofs.TreeTransport.{tree_same, tree_under}

-- ---- another order of the last net's lists

rewrites_to_same : {A : Type 0} (born : ℕ → A) (N P Q : NamedNet A) (f g : A) (k : Kind) (i : ℕ)
    (l : Kind) (a : Action) → SameNet P Q → Rewrites born N f g k i l a P → Rewrites born N f g k i l a Q
rewrites_to_same born N P Q f g k i l a s r = record {
  free_ports = sym s.free_ports ∙ r.free_ports;
  nodes = λ x m n. ((λ h. (r.nodes x m n).0 ((s.nodes x m n).1 h)), (λ h. (s.nodes x m n).0 ((r.nodes x m n).1 h)));
  links = λ p q. ((λ h. (r.links p q).0 ((s.links p q).1 h)), (λ h. (s.links p q).0 ((r.links p q).1 h)));
}

step_to_same : (N P Q : NamedNet NodeName) (t : ℕ) (e : Entry) → SameNet P Q → IsEntryStep N t e P → IsEntryStep N t e Q
step_to_same N P Q t e s st =
    let a = st.step.active in
    record {
      f = st.f;
      g = st.g;
      named = st.named;
      step = record {
        active = a;
        rewrites = rewrites_to_same
            (λ place. Born t place) N P Q st.f st.g a.k a.i a.l (action_of e.rule a.j) s st.step.rewrites;
      };
    }

-- leads whose last net lists each node once, and is this net
pub record EndsOnce (N : NamedNet NodeName) (t : ℕ) (es : List Entry) (Q : NamedNet NodeName) : Type 0 where
  pub net : NamedNet NodeName
  pub leads : IsLeadRun N t es net
  pub same : SameNet Q net
  pub once : ListsOnce net

ends_at : (N P Q : NamedNet NodeName) (t : ℕ) (e : Entry) (es : List Entry) → SameNet P Q →
    IsLeadRun N t (e ∷ es) P → IsLeadRun N t (e ∷ es) Q
ends_at N P Q t e [] s (IsLeadRun.then d st IsLeadRun.end) = IsLeadRun.then d
    (step_to_same N P Q t e s st) IsLeadRun.end
ends_at N P Q t e (e' ∷ es) s (IsLeadRun.then {M = K} d st r) = IsLeadRun.then d st (ends_at K P Q (suc t) e' es s r)

pub ends_once : (N P Q : NamedNet NodeName) (t : ℕ) (es : List Entry) → SameNet P Q → ListsOnce N →
    ListsOnce Q → IsLeadRun N t es P → EndsOnce N t es Q
ends_once N P Q t [] s n q IsLeadRun.end = record { net = N; leads = IsLeadRun.end; same = same_sym N Q s; once = n }
ends_once N P Q t (e ∷ es) s n q r = record { net = Q; leads = ends_at N P Q t e es s r; same = same_refl Q; once = q }

shows_same : (names : List (List ℕ)) (heads : ℕ) (es : List Entry) (M N : NamedNet NodeName)
    (text : List ℕ) → SameNet M N → ListsOnce N → Shows names heads es M text → Shows names heads es N text
shows_same names heads es M N text same once s =
    let size : live M ≡ live N = same_length M N same s.once once in
    record {
      stuck = s.stuck;
      tree = s.tree;
      term = s.term;
      is_net = net_same M N same s.is_net;
      once = once;
      counted = has_stuck_same M N s.stuck same s.counted;
      read = subst (λ n. IsTree N heads (2 * n) s.tree) size (tree_same M N same size heads (2 * live M) s.tree s.read);
      shown = s.shown;
      written = s.written;
    }

start_once : (tr : Translation) (t : Tree) (names : List (List ℕ)) → ListsOnce (start_net_of_term tr t names)
start_once tr t names = net_under_once Init (translation_of tr t (length names))
    (λ x y k l i j h h' e. cc) (net_of_parts_once (1 + length names) (nodes_of tr t) (links_of tr t))

-- ---- the laws

pub one_thread_is_there : OneThreadIsThere
one_thread_is_there tr t names fuel is_net = one_thread_exists (start_net_of_term tr t names) fuel
    (start_is_net tr t names is_net) (start_is_named tr t names is_net)

pub any_run_prints : AnyRunPrints
any_run_prints tr t names fuel heads text is_net journal net run complete p =
    let N = start_net_of_term tr t names in
    let n = start_is_net tr t names is_net in
    let b = start_is_named tr t names is_net in
    let o = one_thread_exists N fuel n b in
    let d = done_tells N net o.1 fuel journal o.0 n b run complete p.within o.2 in
    let a = d.1 in
    let listed = net_under a.names p.listed in
    let apart : (x y : NodeName) (k l : Kind) (i j : ℕ) → HasNode p.listed x k i →
    HasNode p.listed y l j → a.names x ≡ a.names y →
    x ≡ y = λ x y k l i j h h' e. a.written.apart x y k l i j ((p.same.nodes x k i).1 h)
    ((p.same.nodes y l j).1 h') e in
    let shows = shows_under names heads journal o.0 a.names p.listed text apart (sym a.counts) p.shows in
    let same : SameNet o.1 listed = same_trans o.1 (net_under a.names net) listed
    (same_sym (net_under a.names net) o.1 a.written.same) (same_under a.names net p.listed p.same) in
    let e = ends_once N o.1 listed 0 o.0 same (start_once tr t names) shows.once o.2.leads in
    let c = complete_same o.1 e.net (same_trans o.1 listed e.net same e.same) d.0 in
    record {
      ends = record {
        journal = o.0;
        net = e.net;
        run = record { leads = e.leads; within = o.2.within; ended = inl c };
        complete = c;
      };
      shows = shows_same names heads o.0 listed e.net text e.same e.once shows;
    }

pub any_run_runs_out : AnyRunRunsOut
any_run_runs_out tr t names fuel is_net journal net run long =
    let N = start_net_of_term tr t names in
    let n = start_is_net tr t names is_net in
    let b = start_is_named tr t names is_net in
    let o = one_thread_exists N fuel n b in
    let d : HasActive o.1 × (length o.0 ≡ fuel) = elim long [
      | inl l ↦ longer_tells N net o.1 fuel journal o.0 n b run l o.2
      | inr e ↦ spent_tells N net o.1 fuel journal o.0 n b run e.1 e.0 o.2
    ] in
    record { journal = o.0; net = o.1; run = o.2; full = d.1; left = d.0 }

-- where a complete run is within the fuel, the one-thread run ends within it
pub any_run_ends : (tr : Translation) (t : Tree) (names : List (List ℕ)) (fuel : ℕ) →
    IsNet (translation_of tr t (length names)) →
    (journal : List Entry) (net : NamedNet NodeName) →
    IsRun (start_net_of_term tr t names) 0 journal net → IsComplete net →
    length journal ≤ fuel → RunEnds (start_net_of_term tr t names) fuel
any_run_ends tr t names fuel is_net journal net run complete within =
    let N = start_net_of_term tr t names in
    let n = start_is_net tr t names is_net in
    let b = start_is_named tr t names is_net in
    let o = one_thread_exists N fuel n b in
    let d = done_tells N net o.1 fuel journal o.0 n b run complete within o.2 in
    record { journal = o.0; net = o.1; run = o.2; complete = d.0 }

-- the tree of a net, with twice its nodes as the budget, is that of the same net
read_same : (tree : List ReadNode) (heads : ℕ) (M N : NamedNet NodeName) → SameNet M N →
    ListsOnce M → ListsOnce N → IsTree M heads (2 * live M) tree → IsTree N heads (2 * live N) tree
read_same tree heads M N same once once' read =
    let size : live M ≡ live N = same_length M N same once once' in
    subst (λ n. IsTree N heads (2 * n) tree) size (tree_same M N same size heads (2 * live M) tree read)

-- and of the net under other names
read_under : (tree : List ReadNode) (heads : ℕ) (m : NodeName → NodeName) (N : NamedNet NodeName) →
    IsNet N → ((x y : NodeName) (k l : Kind) (i j : ℕ) → HasNode N x k i → HasNode N y l j → m x ≡ m y → x ≡ y) →
    IsTree N heads (2 * live N) tree → IsTree (net_under m N) heads (2 * live (net_under m N)) tree
read_under tree heads m N is_net apart read =
    let size : live N ≡ live (net_under m N) = sym
    (length-map N.nodes (λ (n : NodeName × Kind × ℕ). (m n.0, n.1, n.2))) in
    subst (λ n. IsTree (net_under m N) heads (2 * n) tree) size
    (tree_under m N is_net apart heads (2 * live N) tree read)

-- the tree that is read of the last net of a complete run is read of that of the one-thread run
pub any_run_reads : (tr : Translation) (t : Tree) (names : List (List ℕ)) (fuel heads : ℕ)
    (tree : List ReadNode) → IsNet (translation_of tr t (length names)) →
    (journal : List Entry) (net listed : NamedNet NodeName) →
    IsRun (start_net_of_term tr t names) 0 journal net → IsComplete net → length journal ≤ fuel →
    SameNet net listed → IsNet listed → ListsOnce listed →
    IsTree listed heads (2 * live listed) tree → ReadsLast tr t names fuel heads tree
any_run_reads tr t names fuel heads tree is_net journal net other run complete within alike other_net other_once read =
    let N = start_net_of_term tr t names in
    let n = start_is_net tr t names is_net in
    let b = start_is_named tr t names is_net in
    let o = one_thread_exists N fuel n b in
    let d = done_tells N net o.1 fuel journal o.0 n b run complete within o.2 in
    let a = d.1 in
    let listed = net_under a.names other in
    let apart : (x y : NodeName) (k l : Kind) (i j : ℕ) → HasNode other x k i →
    HasNode other y l j → a.names x ≡ a.names y →
    x ≡ y = λ x y k l i j h h' e. a.written.apart x y k l i j ((alike.nodes x k i).1 h)
    ((alike.nodes y l j).1 h') e in
    let once = net_under_once a.names other apart other_once in
    let same : SameNet o.1 listed = same_trans o.1 (net_under a.names net) listed
    (same_sym (net_under a.names net) o.1 a.written.same) (same_under a.names net other alike) in
    let e = ends_once N o.1 listed 0 o.0 same (start_once tr t names) once o.2.leads in
    let c = complete_same o.1 e.net (same_trans o.1 listed e.net same e.same) d.0 in
    let under = read_under tree heads a.names other other_net apart read in
    record {
      ends = record {
        journal = o.0;
        net = e.net;
        run = record { leads = e.leads; within = o.2.within; ended = inl c };
        complete = c;
      };
      is_net = net_same listed e.net e.same (named_net a.names other other_net apart);
      once = e.once;
      read = read_same tree heads listed e.net e.same once e.once under;
    }
