-- The tree that is read of the workers' net is read of the one-thread run's.
use Rattle.std.proofs.Common.{◌≡◌, ℕ, ◌*◌, ◌≤◌, List, length, sym, ◌∙◌, subst}
use Rattle.std.proofs.lemmas.List.{length-map}
use Rattle.ol_term.specs.declared.translations.Translation.{Translation}
use Rattle.ol_term.specs.Trees.{Tree}
use Rattle.ol_net.specs.declared.parts.Kind.{Kind}
use Rattle.ol_net.specs.Graph.{Graph}
use Rattle.ol_net.specs.Nets.{IsNet, SameNet, net_under}
use Rattle.ol_net.specs.Numbered.{net_of}
use Rattle.ol_rules.specs.declared.journal.NodeName.TheVariants.{Init}
use Rattle.ol_rules.specs.declared.journal.Entry.{Entry}
use Rattle.ol_rules.specs.Runs.{IsRun}
use Rattle.ol_rules.proofs.Relation.{same_sym, same_trans}
use Rattle.ol_rules.proofs.Same.{complete_same}
use Rattle.ol_translate.specs.Translation.{translation_of}
use Rattle.ol_wire.specs.Closed.{ClosedTable}
use Rattle.ol_reduce.specs.Reduced.{IsDone}
use Rattle.ol_readback.specs.Heads.{live}
use Rattle.ol_readback.specs.ReadTrees.{IsTree}
use Rattle.ol_readback.specs.declared.answers.ReadNode.{ReadNode}
use Rattle.ol_cli.specs.Run.{ReadsLast, journal_of}
use Rattle.ol_cli.proofs.AnyRun.{any_run_reads}
use Rattle.ol_cli.proofs.Evaluated.{own_run, own_net, one_name}
use Rattle.ol_invariance.proofs.Runs.{run_keeps_ports}
use Rattle.ol_cli.proofs.ListedOnce.{net_of_once, net_under_once}
use Rattle.ol_cli.proofs.NamedNets.{named_net}
use Rattle.ol_cli.proofs.TreeTransport.{tree_under}

-- the workers keep the free ports
pub ports_stay : (start : Graph) (fuel seats : ℕ) (last : Graph) (journal : List Entry)
    (w : ClosedTable) → IsDone start fuel seats last journal w → last.free ≡ start.free
ports_stay start fuel seats last journal w d =
    let run : IsRun (net_under Init (net_of start)) 0 (journal_of w) d.last_net = subst
    (λ (g : Graph). IsRun (net_under Init (net_of g)) 0 (journal_of w) d.last_net) d.table.1 d.after in
    d.frozen.same.free_ports ∙ run_keeps_ports (net_under Init (net_of start)) d.last_net 0 (journal_of w) run

pub reads_last : (tr : Translation) (t : Tree) (names : List (List ℕ)) (start : Graph) →
    SameNet (net_of start) (translation_of tr t (length names)) →
    (fuel seats heads : ℕ) (last : Graph) (journal : List Entry) (w : ClosedTable) (tree : List ReadNode) →
    IsDone start fuel seats last journal w → IsNet (net_of start) → IsNet (net_of last) →
    IsTree (net_of last) heads (2 * live (net_of last)) tree → ReadsLast tr t names fuel heads tree
reads_last tr t names start same fuel seats heads last journal w tree d n m read =
    let r = own_run tr t names start same fuel seats w d.table d.last_net d.after in
    let f = d.frozen in
    let named = net_under f.names (net_of last) in
    let apart = one_name tr t names start same fuel seats w d.table d.last_net d.after last f in
    let size : live (net_of last) ≡ live named = sym
    (length-map (net_of last).nodes (λ (n : ℕ × Kind × ℕ). (f.names n.0, n.1, n.2))) in
    let listed : SameNet r.0 named = same_trans r.0 d.last_net named (same_sym d.last_net r.0 r.2)
    (same_sym named d.last_net f.same) in
    let within : length (journal_of w) ≤ fuel = subst (λ (j : List Entry). length j ≤ fuel) d.read d.within in
    any_run_reads tr t names fuel heads tree
    (own_net tr t names start same fuel seats w d.table d.last_net d.after n)
    (journal_of w) r.0 named r.1 (complete_same d.last_net r.0 r.2 d.complete) within listed
    (named_net f.names (net_of last) m apart) (net_under_once f.names (net_of last) apart (net_of_once last))
    (subst (λ n. IsTree named heads (2 * n) tree) size
    (tree_under f.names (net_of last) m apart heads (2 * live (net_of last)) tree read))
