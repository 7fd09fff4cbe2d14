-- What is traced of a term, by what the workers' work came to.
use Rattle.std.proofs.Common.{◌≡◌, ℕ, ◌≤◌, List, length, Some, refl, sym, ap, ◌∙◌, subst}
use Rattle.ol_term.specs.declared.translations.Translation.{Translation}
use Rattle.ol_term.specs.Trees.{Tree}
use Rattle.ol_net.specs.Graph.{Graph}
use Rattle.ol_net.specs.Nets.{NamedNet, IsNet, SameNet, net_under}
use Rattle.ol_net.specs.Numbered.{net_of}
use Rattle.ol_rules.specs.declared.journal.NodeName.{NodeName}
use Rattle.ol_rules.specs.declared.journal.NodeName.TheVariants.{Init}
use Rattle.ol_rules.specs.declared.journal.Entry.{Entry}
use Rattle.ol_rules.specs.Runs.{IsRun}
use Rattle.ol_rules.proofs.Relation.{same_refl, same_trans}
use Rattle.ol_rules.proofs.Same.{complete_same, active_same}
use Rattle.ol_rules.proofs.StartNets.{start_net, start_named}
use Rattle.ol_rules.proofs.UnderNames.{same_under}
use Rattle.ol_diamond.specs.Waves.{IsWavesOf}
use Rattle.ol_translate.specs.Translation.{translation_of}
use Rattle.ol_wire.specs.Closed.{ClosedTable}
use Rattle.ol_wire.specs.Standing.{NoNodeTwice}
use Rattle.ol_rules.proofs.OneEnd.{one_end}
use Rattle.ol_reduce.specs.Reduced.{IsDone, IsSpent}
use Rattle.ol_view.specs.Forms.{text_of}
use Rattle.ol_view.specs.declared.forms.Form.TheVariants as form
use Rattle.ol_cli.specs.declared.status.Status.TheVariants as status
use Rattle.ol_cli.specs.Run.{start_net_of_term, journal_of}
use Rattle.ol_cli.specs.Trace.{Traces, IsTraceOf, TraceHands}
use Rattle.ol_cli.proofs.Evaluated.{own_run, words_run}
use Rattle.ol_cli.proofs.WavesKept.{waves_kept}

-- the text tells these waves of the graph's journal
abbrev pub IsTextOfWaves : Graph → List Entry → List ℕ → Type 0
IsTextOfWaves g journal text = (waves : List ℕ) × IsWavesOf g journal waves × (text ≡ text_of form.Two journal waves)

module _ (tr : Translation) (t : Tree) (names : List (List ℕ)) (start : Graph)
    (same : SameNet (net_of start) (translation_of tr t (length names))) (n : IsNet (net_of start))
    (fuel seats : ℕ) (journal : List Entry) (w : ClosedTable) (text : List ℕ)
    (told : IsTextOfWaves start journal text) where
  -- a trace of the graph's journal is one of the words' journal, from the term's own net
  trace_of : journal ≡ journal_of w → (M : NamedNet NodeName) →
      IsRun (net_under Init (net_of start)) 0 (journal_of w) M → (P : NamedNet NodeName) →
      SameNet M P → IsTraceOf tr t names (journal_of w) P text
  trace_of read M run P last =
      let x : IsTextOfWaves start (journal_of w) text = subst (λ j. IsTextOfWaves start j text) read told in
      let N = net_under Init (net_of start) in
      let end = one_end N N x.1.last M 0 (journal_of w) (start_net (net_of start) n)
      (start_named (net_of start)) (same_refl N) x.1.run run in
      let here = same_under Init (net_of start) (translation_of tr t (length names)) same in (
        x.0,
        waves_kept N (start_net_of_term tr t names) x.1.last P (journal_of w) x.0 here
            (same_trans x.1.last M P end last) x.1.waves_are,
        x.2,
      )

  pub spent_traces : IsSpent start fuel seats journal w → Traces tr t names fuel status.Spent text
  spent_traces d =
      let r = own_run tr t names start same fuel seats w d.table d.last_net d.after in
      let a = d.active in record {
        journal = journal_of w;
        net = r.0;
        run = r.1;
        ends = ((a.0, a.1, a.2, active_same d.last_net r.0 r.2 a.0 a.1 a.2 a.3), sym (ap length d.read) ∙ d.steps);
        written = trace_of d.read d.last_net
            (words_run tr t names start same fuel seats w d.table d.last_net d.after) r.0 r.2;
      }

  pub spent_trace_hands : IsSpent start fuel seats journal w → NoNodeTwice (journal_of w) →
      TraceHands tr t names seats fuel status.Spent text (Some w)
  spent_trace_hands d once = (
    w,
    refl,
    d.last_net,
    record { start = start; same = same; table = d.table; after = d.after; once = once },
    (d.active, sym (ap length d.read) ∙ d.steps),
    trace_of d.read d.last_net (words_run tr t names start same fuel seats w d.table d.last_net
        d.after) d.last_net (same_refl d.last_net),
  )

  pub done_traces : (last : Graph) → IsDone start fuel seats last journal w → Traces tr t names fuel status.Done text
  done_traces last d =
      let r = own_run tr t names start same fuel seats w d.table d.last_net d.after in record {
        journal = journal_of w;
        net = r.0;
        run = r.1;
        ends = (
          complete_same d.last_net r.0 r.2 d.complete,
          subst (λ (j : List Entry). length j ≤ fuel) d.read d.within,
        );
        written = trace_of d.read d.last_net
            (words_run tr t names start same fuel seats w d.table d.last_net d.after) r.0 r.2;
      }

  pub done_trace_hands : (last : Graph) → IsDone start fuel seats last journal w →
      NoNodeTwice (journal_of w) → TraceHands tr t names seats fuel status.Done text (Some w)
  done_trace_hands last d once = (
    w,
    refl,
    d.last_net,
    record { start = start; same = same; table = d.table; after = d.after; once = once },
    (d.complete, subst (λ (j : List Entry). length j ≤ fuel) d.read d.within),
    trace_of d.read d.last_net (words_run tr t names start same fuel seats w d.table d.last_net
        d.after) d.last_net (same_refl d.last_net),
  )

-- ---- that the workers' journal is one of a run

abbrev pub LeadsSomewhere : Graph → List Entry → Type 0
LeadsSomewhere g journal = (M : NamedNet NodeName) × IsRun (net_under Init (net_of g)) 0 journal M

module _ (start : Graph) (fuel seats : ℕ) (journal : List Entry) (w : ClosedTable) where
  pub spent_leads : IsSpent start fuel seats journal w → LeadsSomewhere start journal
  spent_leads d =
      let run = subst (λ (g : Graph). IsRun (net_under Init (net_of g)) 0
      (journal_of w) d.last_net) d.table.1 d.after in
      subst (LeadsSomewhere start) (sym d.read) (d.last_net, run)

  pub done_leads : (last : Graph) → IsDone start fuel seats last journal w → LeadsSomewhere start journal
  done_leads last d =
      let run = subst (λ (g : Graph). IsRun (net_under Init (net_of g)) 0
      (journal_of w) d.last_net) d.table.1 d.after in
      subst (LeadsSomewhere start) (sym d.read) (d.last_net, run)
