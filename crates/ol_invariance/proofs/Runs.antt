-- A run keeps paths, over names and over numbers.
use Rattle.std.proofs.Common.{◌≡◌, ℕ, suc, ◌+◌, ◌<◌, ◌≤◌, true, List, [], ◌∷◌, length, ◌⊎◌, inl, inr, refl, sym, ◌∙◌, subst, arith}
use Rattle.std.proofs.lemmas.Bool.{cases_lt}
use Rattle.ol_invariance.proofs.Renamed.{renamed}
use Rattle.ol_invariance.proofs.Steps.{step_keeps}
use Rattle.ol_context.specs.Paths.{HaveSamePaths}
use Rattle.ol_invariance.specs.Laws.{JournalKeepsPaths, GraphRunKeepsPaths}
use Rattle.ol_net.specs.Nets.{NamedNet, HasNode, IsNet, net_under}
use Rattle.ol_net.specs.Numbered.{net_of}
use Rattle.ol_net.specs.declared.parts.Kind.{Kind}
use Rattle.ol_rules.proofs.NameOrder.{not_before_itself}
use Rattle.ol_rules.proofs.OneRun.{name_same, name_test, fresh_names, named_after}
use Rattle.ol_rules.proofs.LeadRuns.{as_run}
use Rattle.ol_rules.proofs.Relation.{net_kept}
use Rattle.ol_rules.proofs.StartNets.{start_net, start_named}
use Rattle.ol_rules.proofs.OnTheWay.{node_below}
use Rattle.ol_rules.specs.Names.{comes_before}
use Rattle.ol_rules.specs.Rewriting.{action_of}
use Rattle.ol_rules.specs.Runs.{IsRun, IsLeadRun, IsNaming, names_made}
use Rattle.ol_rules.specs.declared.journal.Entry.{Entry}
use Rattle.ol_rules.specs.declared.journal.NodeName.{NodeName}
use Rattle.ol_rules.specs.declared.journal.NodeName.TheVariants.{Init, Born}

both : {A B C : Type 0} (N : NamedNet A) (M : NamedNet B) (P : NamedNet C) → HaveSamePaths N M →
    HaveSamePaths M P → HaveSamePaths N P
both N M P h h' p c q d = (λ r. (h' p c q d).0 ((h p c q d).0 r), λ r. (h p c q d).1 ((h' p c q d).1 r))

turned : {A B : Type 0} (N : NamedNet A) (M : NamedNet B) → HaveSamePaths N M → HaveSamePaths M N
turned N M h p c q d = ((h p c q d).1, (h p c q d).0)

pub run_keeps : JournalKeepsPaths
run_keeps N M t [] n b IsRun.end = λ p c q d. (λ r. r, λ r. r)
run_keeps N M t (e ∷ es) n b (IsRun.then {M = K} s run) =
    let a = s.step.active in
    let fresh = fresh_names N t b in
    let n' : IsNet K = net_kept name_same name_test
    (λ place. Born t place) N s.f s.g a.k a.i a.l a.j e.rule n a.faces fresh a.fits K s.step.rewrites in
    let b' = named_after N K t s.f s.g a.k a.i a.l (action_of e.rule a.j) b s.step.rewrites in
    both N K M (step_keeps name_same name_test
    (λ place. Born t place) N K s.f s.g e.rule n fresh s.step) (run_keeps K M (suc t) es n' b' run)

-- and the number of free ports
pub run_keeps_ports : (N M : NamedNet NodeName) (t : ℕ) (es : List Entry) → IsRun N t es M →
    M.free_ports ≡ N.free_ports
run_keeps_ports N M t [] IsRun.end = refl
run_keeps_ports N M t (e ∷ es) (IsRun.then {M = K} s run) =
    run_keeps_ports K M (suc t) es run ∙ s.step.rewrites.free_ports

-- different numbers have different names
names_apart : (start : ℕ) (made : List NodeName) (names : ℕ → NodeName) →
    IsNaming start made names → (x y : ℕ) → x < start + length made → y < start + length made →
    names x ≡ names y → x ≡ y
names_apart start made names n x y b b' e = go (cases_lt x y) (cases_lt y x)
  where
    never : (x y : ℕ) → x < y → y < start + length made → names x ≡ names y → ⊥
    never x y h b e =
        let after = n.rising x y h b in
        let itself = not_before_itself (names x) in
        let before : comes_before (names x) (names x) ≡ true = subst
        (λ z. comes_before (names x) z ≡ true) (sym e) after in
        cc

    go : (x < y) ⊎ (y ≤ x) → (y < x) ⊎ (x ≤ y) → x ≡ y
    go (inl h) u = absurd (never x y h b' e)
    go (inr h) (inl h') = absurd (never y x h' b (sym e))
    go (inr h) (inr h') = omega arith

pub graph_run_keeps : GraphRunKeepsPaths
graph_run_keeps old new journal n n' leads =
    let start = net_under Init (net_of old) in
    let last = net_under leads.names (net_of new) in
    let first : HaveSamePaths (net_of old) start = renamed Init (net_of old) n (λ x y k l i j h h' e. cc) in
    let run : HaveSamePaths start last = run_keeps start last 0 journal (start_net (net_of old) n)
    (start_named (net_of old)) (as_run start last 0 journal leads.run) in
    let under : HaveSamePaths (net_of new) last = renamed leads.names (net_of new) n' one_name in
    both (net_of old) start (net_of new) first (both start last (net_of new) run (turned (net_of new) last under))
  where
    within : (x : ℕ) (k : Kind) (i : ℕ) → HasNode (net_of new) x k i →
        x < length old.nodes + length (names_made leads.run)
    within x k i h = subst (λ n. x < n) leads.numbers (node_below new x k i h)

    one_name : (x y : ℕ) (k l : Kind) (i j : ℕ) → HasNode (net_of new) x k i →
        HasNode (net_of new) y l j → leads.names x ≡ leads.names y → x ≡ y
    one_name x y k l i j h h' e = names_apart (length old.nodes)
        (names_made leads.run) leads.names leads.naming x y (within x k i h) (within y l j h') e
