-- Every complete run gives what the one-thread run gives.
use Rattle.std.proofs.Common.{◌≡◌, ℕ, ◌*◌, ◌≤◌, List, length, sym, ap, ◌∙◌, subst, arith}
use Rattle.std.proofs.lemmas.List.{length-map}
use Rattle.ol_net.specs.declared.parts.Kind.{Kind}
use Rattle.ol_net.specs.Nets.{NamedNet, HasNode, net_under}
use Rattle.ol_rules.specs.declared.journal.NodeName.{NodeName}
use Rattle.ol_rules.specs.declared.journal.Entry.{Entry}
use Rattle.ol_rules.specs.Counting.{counts_of}
use Rattle.ol_rules.proofs.Relation.{same_sym}
use Rattle.ol_rules.proofs.UnderNames.{has_stuck_under}
use Rattle.ol_readback.specs.Heads.{live}
use Rattle.ol_readback.specs.ReadTrees.{IsTree}
use Rattle.ol_rules.proofs.LeadRuns.{as_run}
use Rattle.ol_diamond.proofs.OneThreadRuns.{runs_agree, goes_on_shorter}
use Rattle.ol_cli.specs.Texts.{answer_text}
use Rattle.ol_cli.specs.Run.{start_net_of_term, Shows}
use Rattle.ol_cli.specs.EveryRun.{EveryRunPrints, EveryRunIsLonger}
use Rattle.ol_cli.proofs.ListedOnce.{net_under_once}
use Rattle.ol_cli.proofs.NamedNets.{named_net}
use Rattle.ol_cli.proofs.TreeTransport.{tree_under}
use Rattle.ol_cli.proofs.OnePrint.{start_is_net, start_is_named}

-- a net under other names shows the same text, with another journal of the same counts
pub shows_under : (names : List (List ℕ)) (heads : ℕ) (es fs : List Entry)
    (m : NodeName → NodeName) (N : NamedNet NodeName) (text : List ℕ) →
    ((x y : NodeName) (k l : Kind) (i j : ℕ) → HasNode N x k i → HasNode N y l j → m x ≡ m y →
    x ≡ y) → counts_of es ≡ counts_of fs → Shows names heads es N text → Shows names heads fs (net_under m N) text
shows_under names heads es fs m N text apart counts s =
    let size : live N ≡ live (net_under m N) = sym
    (length-map N.nodes (λ (n : NodeName × Kind × ℕ). (m n.0, n.1, n.2))) in
    record {
      stuck = s.stuck;
      tree = s.tree;
      term = s.term;
      is_net = named_net m N s.is_net apart;
      once = net_under_once m N apart s.once;
      counted = has_stuck_under m N s.is_net apart s.stuck s.counted;
      read = subst (λ n. IsTree (net_under m N) heads (2 * n) s.tree) size
          (tree_under m N s.is_net apart heads (2 * live N) s.tree s.read);
      shown = s.shown;
      written = s.written ∙ ap (λ c. answer_text s.term c s.stuck) counts;
    }

within : (m n fuel : ℕ) → n ≡ m → m ≤ fuel → n ≤ fuel
within m n fuel e b = omega arith

pub every_run_prints : EveryRunPrints
every_run_prints tr t names fuel heads text is_net p journal net run complete =
    let N = start_net_of_term tr t names in
    let a = runs_agree N (start_is_net tr t names is_net)
    (start_is_named tr t names is_net) p.ends.net net p.ends.journal journal
    (as_run N p.ends.net 0 p.ends.journal p.ends.run.leads) run p.ends.complete complete in
    record {
      within = within (length p.ends.journal) (length journal) fuel a.steps p.ends.run.within;
      listed = net_under a.names p.ends.net;
      same = same_sym (net_under a.names p.ends.net) net a.written.same;
      shows = shows_under names heads p.ends.journal journal a.names p.ends.net text a.written.apart
          (sym a.counts) p.shows;
    }

pub every_run_is_longer : EveryRunIsLonger
every_run_is_longer tr t names fuel is_net o journal net run complete =
    let N = start_net_of_term tr t names in
    let shorter = goes_on_shorter N (start_is_net tr t names is_net)
    (start_is_named tr t names is_net) o.net net o.journal journal
    (as_run N o.net 0 o.journal o.run.leads) run o.left complete in
    omega (arith, o.full, shorter)
