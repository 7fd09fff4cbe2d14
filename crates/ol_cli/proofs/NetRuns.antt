-- What a run of the net of a file tells of its one-thread run.
use Rattle.std.proofs.Common.{◌≡◌, ℕ, ◌<◌, ◌≤◌, List, ◌++◌, length, inl, refl, sym, ap, ◌∙◌, subst}
use Rattle.std.proofs.lemmas.List.{append_assoc, length-map}
use Rattle.ol_net.specs.declared.parts.Kind.{Kind}
use Rattle.ol_net.specs.Graph.{Graph}
use Rattle.ol_net.specs.Nets.{NamedNet, HasNode, IsNet, SameNet, net_under}
use Rattle.ol_net.specs.Numbered.{net_of}
use Rattle.ol_net.specs.Pairs.{HasStuck, IsComplete, HasActive}
use Rattle.ol_net.proofs.StuckCount.{one_stuck_count}
use Rattle.ol_netfile.specs.StuckPairs.{IsPairsText}
use Rattle.ol_netfile.specs.Written.{net_text}
use Rattle.ol_rules.specs.declared.journal.Counts.{Counts}
use Rattle.ol_rules.specs.declared.journal.NodeName.{NodeName}
use Rattle.ol_rules.specs.declared.journal.NodeName.TheVariants.{Init}
use Rattle.ol_rules.specs.declared.journal.Entry.{Entry}
use Rattle.ol_rules.specs.Counting.{counts_of}
use Rattle.ol_rules.specs.Laws.{AreNamedBefore}
use Rattle.ol_rules.specs.Runs.{IsRun}
use Rattle.ol_rules.proofs.OneRun.{one_thread_one, complete_or_active}
use Rattle.ol_rules.proofs.Relation.{same_refl, same_sym, same_trans}
use Rattle.ol_rules.proofs.Same.{complete_same, has_stuck_same}
use Rattle.ol_rules.proofs.StartNets as start
use Rattle.ol_rules.proofs.UnderNames.{same_under, has_stuck_under}
use Rattle.ol_rules.proofs.OnTheWay.{node_below}
use Rattle.ol_diamond.proofs.OneThread.{one_thread_exists, done_tells, spent_tells}
use Rattle.ol_wire.specs.Closed.{ClosedTable}
use Rattle.ol_reduce.specs.Reduced.{IsDone, IsSpent}
use Rattle.ol_readback.specs.Heads.{live}
use Rattle.ol_view.specs.Laws.{IsTable}
use Rattle.ol_cli.specs.Run.{RunsOut, RunEnds, journal_of}
use Rattle.ol_cli.specs.Laws.{OneNetIsLeft}
use Rattle.ol_cli.specs.Listing.{ListsOnce}
use Rattle.ol_cli.specs.Net.{start_net, NetRunEnds, TellsLast, PrintsNet}
use Rattle.ol_cli.specs.Cases.{IsPastNodes}
use Rattle.ol_cli.specs.NetLines.{AreLinesOf}
use Rattle.ol_cli.specs.Texts.{counts_text}
use Rattle.ol_cli.proofs.AnyRun.{ends_once}
use Rattle.ol_cli.proofs.Evaluated.{rising_apart}
use Rattle.ol_cli.proofs.ListedOnce.{net_of_once, net_under_once, same_length}
use Rattle.ol_cli.proofs.NamedNets.{named_net}

module _ (net : Graph) (is_net : IsNet (net_of net)) where
  start_is_net : IsNet (start_net net)
  start_is_net = start.start_net (net_of net) is_net

  start_is_named : AreNamedBefore (start_net net) 0
  start_is_named = start.start_named (net_of net)

  start_once : ListsOnce (start_net net)
  start_once = net_under_once Init (net_of net) (λ x y k l i j h h' e. cc) (net_of_once net)

  pub one_left : (fuel : ℕ) (e e' : NetRunEnds net fuel) →
      (counts_of e.ends.journal ≡ counts_of e'.ends.journal) × (e.stuck ≡ e'.stuck)
      × (live e.ends.net ≡ live e'.ends.net)
  one_left fuel e e' =
      let o = one_thread_one (start_net net) (start_net net) e.ends.net e'.ends.net fuel
      e.ends.journal e'.ends.journal start_is_net start_is_named
      (same_refl (start_net net)) e.ends.run e'.ends.run in (
        ap counts_of o.0,
        one_stuck_count e'.ends.net e.stuck e'.stuck
            (has_stuck_same e.ends.net e'.ends.net e.stuck o.1 e.counted) e'.counted,
        same_length e.ends.net e'.ends.net o.1 e.once e'.once,
      )

  -- the one-thread run doesn't both end and go on
  pub left_or_runs_out : (fuel : ℕ) → RunsOut (start_net net) fuel → RunEnds (start_net net) fuel → ⊥
  left_or_runs_out fuel r e =
      complete_or_active (start_net net) (start_net net) e.net r.net fuel e.journal r.journal
      start_is_net start_is_named (same_refl (start_net net)) e.run r.run e.complete r.left

  -- what the one-thread run leaves, with as many interactions of each rule and as many nodes
  pub record Leaves (fuel stuck nodes : ℕ) (counts : Counts) : Type 0 where
    pub left : NetRunEnds net fuel
    pub counted : counts_of left.ends.journal ≡ counts
    pub has_stuck : left.stuck ≡ stuck
    pub size : live left.ends.net ≡ nodes

  -- a complete run within the fuel tells what the one-thread run leaves
  any_run_leaves : (fuel stuck : ℕ) (journal : List Entry) (last listed : NamedNet NodeName) →
      IsRun (start_net net) 0 journal last → IsComplete last → length journal ≤ fuel →
      SameNet last listed → IsNet listed → ListsOnce listed → HasStuck listed stuck →
      Leaves fuel stuck (live listed) (counts_of journal)
  any_run_leaves fuel stuck journal last other run complete within alike other_net other_once counted =
      let N = start_net net in
      let o = one_thread_exists N fuel start_is_net start_is_named in
      let d = done_tells N last o.1 fuel journal o.0 start_is_net start_is_named run complete within o.2 in
      let a = d.1 in
      let listed = net_under a.names other in
      let apart : (x y : NodeName) (k l : Kind) (i j : ℕ) → HasNode other x k i →
      HasNode other y l j → a.names x ≡ a.names y →
      x ≡ y = λ x y k l i j h h' e. a.written.apart x y k l i j ((alike.nodes x k i).1 h)
      ((alike.nodes y l j).1 h') e in
      let once = net_under_once a.names other apart other_once in
      let same : SameNet o.1 listed = same_trans o.1 (net_under a.names last) listed
      (same_sym (net_under a.names last) o.1 a.written.same) (same_under a.names last other alike) in
      let e = ends_once N o.1 listed 0 o.0 same start_once once o.2.leads in
      let c = complete_same o.1 e.net (same_trans o.1 listed e.net same e.same) d.0 in
      let size : live other ≡ live listed = sym
      (length-map other.nodes (λ (n : NodeName × Kind × ℕ). (a.names n.0, n.1, n.2))) in
      record {
        left = record {
          ends = record {
            journal = o.0;
            net = e.net;
            run = record { leads = e.leads; within = o.2.within; ended = inl c };
            complete = c;
          };
          once = e.once;
          stuck = stuck;
          counted = has_stuck_same listed e.net stuck e.same
              (has_stuck_under a.names other other_net apart stuck counted);
        };
        counted = a.counts;
        has_stuck = refl;
        size = sym (size ∙ same_length listed e.net e.same once e.once);
      }

  any_run_goes_on : (fuel : ℕ) (journal : List Entry) (last : NamedNet NodeName) →
      IsRun (start_net net) 0 journal last → HasActive last → length journal ≡ fuel →
      RunsOut (start_net net) fuel
  any_run_goes_on fuel journal last run active full =
      let N = start_net net in
      let o = one_thread_exists N fuel start_is_net start_is_named in
      let d = spent_tells N last o.1 fuel journal o.0 start_is_net start_is_named run active full o.2 in
      record { journal = o.0; net = o.1; run = o.2; full = d.1; left = d.0 }

  -- ---- the workers' run

  module _ (fuel seats : ℕ) (journal : List Entry) (w : ClosedTable) where
    pub spent_goes_on : IsSpent net fuel seats journal w → RunsOut (start_net net) fuel
    spent_goes_on d =
        let run : IsRun (start_net net) 0 (journal_of w) d.last_net = subst
        (λ (g : Graph). IsRun (start_net g) 0 (journal_of w) d.last_net) d.table.1 d.after in
        any_run_goes_on fuel (journal_of w) d.last_net run d.active (sym (ap length d.read) ∙ d.steps)

    module _ (last : Graph) (d : IsDone net fuel seats last journal w) where
      apart : (x y : ℕ) (k l : Kind) (i j : ℕ) → HasNode (net_of last) x k i →
          HasNode (net_of last) y l j → d.frozen.names x ≡ d.frozen.names y → x ≡ y
      apart x y k l i j h h' e = rising_apart d.frozen.names (length last.nodes) d.frozen.rising x y
          (node_below last x k i h) (node_below last y l j h') e

      run : IsRun (start_net net) 0 journal d.last_net
      run = subst (λ (es : List Entry). IsRun (start_net net) 0 es d.last_net) (sym d.read)
          (subst (λ (g : Graph). IsRun (start_net g) 0 (journal_of w) d.last_net) d.table.1 d.after)

      pub done_leaves : (stuck : ℕ) → IsNet (net_of last) → HasStuck (net_of last) stuck →
          Leaves fuel stuck (live (net_of last)) (counts_of journal)
      done_leaves stuck n counted =
          let f = d.frozen in
          let named = net_under f.names (net_of last) in
          let size : live named ≡ live (net_of last) = length-map (net_of last).nodes
          (λ (n : ℕ × Kind × ℕ). (f.names n.0, n.1, n.2)) in
          subst (λ n. Leaves fuel stuck n (counts_of journal)) size
          (any_run_leaves fuel stuck journal d.last_net named run d.complete d.within
          (same_sym named d.last_net f.same) (named_net f.names (net_of last) n apart)
          (net_under_once f.names (net_of last) apart (net_of_once last))
          (has_stuck_under f.names (net_of last) n apart stuck counted))

      pub done_tells_last : IsTable last → (pairs : List ℕ) → IsPairsText (net_of last) pairs →
          TellsLast net (pairs ++ net_text last)
      done_tells_last table pairs told = record {
        journal = journal;
        last = d.last_net;
        run = run;
        complete = d.complete;
        numbered = last;
        frozen = d.frozen;
        tabled = table;
        pairs = pairs;
        stuck = told;
        written = refl;
      }

      pub done_prints : (stuck : ℕ) → IsNet (net_of last) → HasStuck (net_of last) stuck →
          IsTable last → live (net_of last) ≤ 200000 → (text : List ℕ) →
          AreLinesOf last (counts_of journal) stuck text → PrintsNet net fuel text
      done_prints stuck n counted table few text lines =
          let l = done_leaves stuck n counted in
          let rest = lines.pairs ++ net_text last in
          record {
            ends = l.left;
            few = subst (λ n. n ≤ 200000) (sym l.size) few;
            rest = rest;
            tells = done_tells_last table lines.pairs lines.told;
            written = lines.written
                ∙ append_assoc (counts_text (counts_of journal) stuck) lines.pairs (net_text last)
                ∙ ap (λ k. counts_text k stuck ++ rest) (sym l.counted)
                ∙ ap (λ k. counts_text (counts_of l.left.ends.journal) k ++ rest) (sym l.has_stuck);
          }

      pub done_is_large : (stuck : ℕ) → IsNet (net_of last) → HasStuck (net_of last) stuck →
          200000 < live (net_of last) → IsPastNodes net fuel
      done_is_large stuck n counted many =
          let l = done_leaves stuck n counted in
          (l.left, subst (λ n. 200000 < n) (sym l.size) many)

pub one_net_is_left : OneNetIsLeft
one_net_is_left net fuel is_net e e' = one_left net is_net fuel e e'
