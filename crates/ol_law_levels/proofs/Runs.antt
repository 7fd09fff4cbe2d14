-- A run of a levelled net leaves a levelled net, and other names leave it levelled.
-- Used in Sources and DemandPlaces, for `run_keeps_levels`, `levels_have_no_names`, and above.
use Rattle.std.proofs.Common.{◌≡◌, ℕ, suc, [], ◌∷◌, not, sym, ap, ◌∙◌, subst, refl}
use Rattle.ol_net.specs.Nets.{NamedPort, free, slot, NamedNet, HasNode, IsNet, port_under, net_under}
use Rattle.ol_net.specs.declared.parts.Kind.{Kind}
use Rattle.ol_net.specs.Numbered.{net_of}
use Rattle.ol_rules.proofs.LeadRuns.{as_run}
use Rattle.ol_rules.proofs.OneRun.{name_same, name_test, fresh_names, named_after}
use Rattle.ol_rules.proofs.Relation.{net_kept}
use Rattle.ol_rules.proofs.Renaming.{node_to, node_from, link_to, link_from}
use Rattle.ol_rules.proofs.StartNets.{start_net, start_named}
use Rattle.ol_rules.specs.Rewriting.{action_of}
use Rattle.ol_rules.specs.Runs.{IsRun}
use Rattle.ol_rules.specs.declared.journal.NodeName.{NodeName}
use Rattle.ol_rules.specs.declared.journal.NodeName.TheVariants.{Init, Born}
use Rattle.ol_law_levels.specs.Levels.{IsLevelled}
use Rattle.ol_law_levels.specs.Laws.{RunKeepsLevels, GraphRunKeepsLevels, SameNetIsLevelled, NamesKeepLevels}
use Rattle.ol_law_levels.proofs.Steps.{step_keeps_levels}

pub run_keeps : RunKeepsLevels
run_keeps N M t [] n b IsRun.end L = L
run_keeps N M t (e ∷ es) n b (IsRun.then {M = K} s run) L =
    let a = s.step.active in
    let fresh = fresh_names N t b in
    let n' : IsNet K = net_kept name_same name_test (λ place. Born t place) N s.f s.g a.k a.i a.l
    a.j e.rule n a.faces fresh a.fits K s.step.rewrites in
    let b' = named_after N K t s.f s.g a.k a.i a.l (action_of e.rule a.j) b s.step.rewrites in
    run_keeps K M (suc t) es n' b' run
    (step_keeps_levels name_same name_test (λ place. Born t place) N K s.f s.g e.rule n fresh
    s.step L)

module _ {A : Type 0} where
  pub same_levelled : SameNetIsLevelled A
  same_levelled M N same L = record {
    depth = L.depth;
    is_out = L.is_out;
    links = λ p q h. L.links p q ((same.links p q).1 h);
    stands = λ x k i h. L.stands x k i ((same.nodes x k i).1 h);
    beside = λ x k i s h b. L.beside x k i s ((same.nodes x k i).1 h) b;
    root = L.root;
    names = L.names;
  }

module _ {A B : Type 0} where
  -- a net is levelled where it is so under some names
  pub under_names : NamesKeepLevels A B
  under_names m N L = record {
    depth = λ p. L.depth (port_under m p);
    is_out = λ p. L.is_out (port_under m p);
    links = λ p q h. L.links (port_under m p) (port_under m q) (link_to m N p q h);
    stands = λ x k i h. L.stands (m x) k i (node_to m N x k i h);
    beside = λ x k i s h b. L.beside (m x) k i s (node_to m N x k i h) b;
    root = L.root;
    names = L.names;
  }

module _ {A B : Type 0} (m : A → B) (back : B → A) (is_back : (x : A) →
    back (m x) ≡ x) (N : NamedNet A) (L : IsLevelled N) where
  port_back : NamedPort B → NamedPort A
  port_back (free n) = free n
  port_back (slot y s) = slot (back y) s

  port_is_back : (p : NamedPort A) → port_back (port_under m p) ≡ p
  unfolding port_back
  port_is_back (free n) = refl
  port_is_back (slot x s) = ap (λ x. slot x s) (is_back x)

  -- and it is so under all names that tell its nodes apart
  pub with_names : IsLevelled (net_under m N)
  unfolding port_back
  with_names = record {
    depth = λ p. L.depth (port_back p);
    is_out = λ p. L.is_out (port_back p);
    links = λ P Q h.
        let t = link_from m N P Q h in
        let e : port_back P ≡ t.0 = at P t.0 t.2 in
        let e' : port_back Q ≡ t.1 = at Q t.1 t.3 in
        subst (λ p. (L.depth p ≡ L.depth (port_back Q))
        × (L.is_out p ≡ not (L.is_out (port_back Q)))) (sym e)
        (subst (λ q. (L.depth t.0 ≡ L.depth q)
        × (L.is_out t.0 ≡ not (L.is_out q))) (sym e') (L.links t.0 t.1 t.4));
    stands = λ y k i h. L.stands (back y) k i (node y k i h);
    beside = λ y k i s h b. L.beside (back y) k i s (node y k i h) b;
    root = L.root;
    names = L.names;
  }
    where
      at : (P : NamedPort B) (p : NamedPort A) → P ≡ port_under m p → port_back P ≡ p
      at P p e = ap port_back e ∙ port_is_back p

      node : (y : B) (k : Kind) (i : ℕ) → HasNode (net_under m N) y k i → HasNode N (back y) k i
      node y k i h =
          let t = node_from m N y k i h in
          subst (λ x. HasNode N x k i) (sym (ap back t.2 ∙ is_back t.0)) t.1

number_of : NodeName → ℕ
number_of (Init n) = n
number_of (Born t p) = 0

pub start_levelled : (N : NamedNet ℕ) → IsLevelled N → IsLevelled (net_under Init N)
unfolding number_of
start_levelled N L = with_names Init number_of (λ x. refl) N L

pub graph_run_keeps : GraphRunKeepsLevels
graph_run_keeps old new journal n leads L =
    let start = net_under Init (net_of old) in
    let last = net_under leads.names (net_of new) in
    under_names leads.names (net_of new)
    (run_keeps start last 0 journal (start_net (net_of old) n) (start_named (net_of old))
    (as_run start last 0 journal leads.run) (start_levelled (net_of old) L))
