-- What is answered to a term, and handed back, by what the workers' work came to.
use Rattle.std.proofs.Common.{◌≡◌, ℕ, ◌+◌, ◌≤◌, List, length, Some, refl, sym, ap, ◌∙◌, subst}
use Rattle.ol_term.specs.declared.translations.Translation.{Translation}
use Rattle.ol_term.specs.Trees.{Tree}
use Rattle.ol_net.specs.Graph.{Graph}
use Rattle.ol_net.specs.Nets.{IsNet, SameNet}
use Rattle.ol_net.specs.Numbered.{net_of}
use Rattle.ol_rules.specs.declared.journal.Entry.{Entry}
use Rattle.ol_translate.specs.Translation.{translation_of}
use Rattle.ol_wire.specs.Closed.{ClosedTable}
use Rattle.ol_wire.specs.Standing.{NoNodeTwice}
use Rattle.ol_reduce.specs.Reduced.{IsDone, IsSpent}
use Rattle.ol_readback.specs.declared.answers.ReadNode.{ReadNode}
use Rattle.ol_cli.specs.declared.status.Status.TheVariants as status
use Rattle.ol_cli.specs.RefusalTexts.{spent_text}
use Rattle.ol_cli.specs.Run.{RunsOut, Prints, start_net_of_term, journal_of, RunHands}
use Rattle.ol_cli.proofs.Evaluated.{Told, runs_out, ports_kept, prints_work, own_prints}

module _ (tr : Translation) (t : Tree) (names : List (List ℕ)) (start : Graph)
    (same : SameNet (net_of start) (translation_of tr t (length names))) (fuel seats heads : ℕ)
    (journal : List Entry) (w : ClosedTable) where
  module _ (d : IsSpent start fuel seats journal w) where
    full : length (journal_of w) ≡ fuel
    full = sym (ap length d.read) ∙ d.steps

    pub spent_answer : IsNet (net_of start) → RunsOut (start_net_of_term tr t names) fuel
    spent_answer n = runs_out tr t names start same fuel seats w d.table d.last_net d.after n d.active full

    pub spent_hands : (text : List ℕ) → NoNodeTwice (journal_of w) → text ≡ spent_text fuel →
        RunHands tr t names seats fuel heads status.Spent text (Some w)
    spent_hands text once e = (
      w,
      refl,
      d.last_net,
      record { start = start; same = same; table = d.table; after = d.after; once = once },
      (d.active, full),
      e,
    )

  module _ (last : Graph) (d : IsDone start fuel seats last journal w) where
    pub done_ports : last.free ≡ 1 + length names
    done_ports = ports_kept tr t names start same fuel seats w d.table d.last_net d.after last d.frozen

    module _ (stuck : ℕ) (tree : List ReadNode) (term text : List ℕ)
        (told : Told names heads stuck journal last tree term text) where
      own_told : Told names heads stuck (journal_of w) last tree term text
      own_told = subst (λ j. Told names heads stuck j last tree term text) d.read told

      within : length (journal_of w) ≤ fuel
      within = subst (λ (j : List Entry). length j ≤ fuel) d.read d.within

      pub done_answer : IsNet (net_of start) → Prints tr t names fuel heads text
      done_answer n = own_prints tr t names start same fuel seats w d.table d.last_net d.after
          last d.frozen heads stuck tree term text own_told within d.complete n

      pub done_hands : NoNodeTwice (journal_of w) → RunHands tr t names seats fuel heads status.Done text (Some w)
      done_hands once = (
        w,
        refl,
        d.last_net,
        record { start = start; same = same; table = d.table; after = d.after; once = once },
        (d.complete, within),
        prints_work tr t names start same fuel seats w d.table d.last_net d.after last d.frozen
            heads stuck tree term text own_told within d.complete,
      )
