-- What proofs ask of a command on one term file: its laws, whichever command it is. Each command has its line in `laws`.
use Rattle.std.proofs.Common.{◌≡◌, ℕ, List, length, true, ◌⊎◌, inl, inr, sym, ap, ◌∙◌, subst}
use Rattle.ol_net.specs.Nets.{IsNet}
use Rattle.ol_net.specs.Numbered.{net_of}
use Rattle.ol_netfile.specs.Written.{net_text}
use Rattle.ol_netfile.proofs.OneGraph.{one_graph}
use Rattle.ol_rules.proofs.Relation.{same_sym, same_trans}
use Rattle.ol_term.specs.Trees.{Tree}
use Rattle.ol_term.specs.declared.translations.Translation.{Translation}
use Rattle.ol_translate.specs.Translation.{translation_of}
use Rattle.ol_view.proofs.ShownAlike.{live_alike}
use Rattle.ol_words.specs.declared.jobs.Job.{Job}
use Rattle.ol_words.specs.declared.jobs.Job.TheVariants as jobs
use Rattle.ol_cli.specs.Cases.{TermAnswer}
use Rattle.ol_cli.specs.Jobs.{EndsWithinFuel, translation_in}
use Rattle.ol_cli.specs.Laws.{HaveOneText}
use Rattle.ol_cli.specs.Net.{WritesNet}
use Rattle.ol_cli.specs.Run.{RunEnds, RunsOut, start_net_of_term}
use Rattle.ol_cli.specs.Shapes.{DoneOrSpent, OnlyDone, TellsFuel}
use Rattle.ol_cli.specs.Trace.{Traces}
use Rattle.ol_cli.specs.declared.status.Status.{Status}
use Rattle.ol_cli.specs.declared.status.Status.TheVariants.{Done, Spent}
use Rattle.ol_cli.proofs.AnyRun.{any_run_ends, any_run_runs_out}
use Rattle.ol_cli.proofs.DemandRuns.{one_demanded, demand_ends_or_not}
use Rattle.ol_cli.proofs.OnePrint.{ends_or_not, ends_or_runs_out, reads_or_runs_out}
use Rattle.ol_cli.proofs.OnePrint.{one_print, one_walk, one_view, one_certified}
use Rattle.ol_cli.proofs.Statuses.{IsOfTerm, done_status, ended_status, settled, spent_status}

-- What is answered to a term is done or spent. Where the term's net is one, it isn't both, two texts of one status are
-- alike, and it isn't spent if the run ends within the fuel.
pub record HasLaws (Net Ends : Type 0) (Alike : Status → List ℕ → List ℕ → Type 0)
    (Answers : Status → List ℕ → Type 0) : Type 0 where
  pub status : (st : Status) (x : List ℕ) → Answers st x → IsOfTerm st
  pub done : Net → (x x' : List ℕ) → Answers Done x → Answers Done x' → Alike Done x x'
  pub spent : Net → (x x' : List ℕ) → Answers Spent x → Answers Spent x' → Alike Spent x x'
  pub apart : Net → (x x' : List ℕ) → Answers Done x → Answers Spent x' → ⊥
  pub ends : Net → Ends → (x : List ℕ) → Answers Spent x → ⊥

module _ {Net Ends : Type 0} where
  -- of a command that is always done, with one text
  always_done : (P : List ℕ → Type 0) → (Net → (x x' : List ℕ) → P x → P x' → x ≡ x') →
      HasLaws Net Ends (λ st x x'. x ≡ x') (OnlyDone P)
  always_done P one = record {
    status = λ st x h. done_status P st x h;
    done = λ n x x' h h'. one n x x' h h';
    spent = λ n x x' h h'. absurd h;
    apart = λ n x x' h h'. h';
    ends = λ n e x h. h;
  }

  -- of one whose fuel may be spent
  done_or_spent : (P : List ℕ → Type 0) (R : Type 0) (fuel : ℕ) →
      (Net → (x x' : List ℕ) → P x → P x' → x ≡ x') → (Net → (x : List ℕ) → P x → R → ⊥) → (Net → Ends → R → ⊥) →
      HasLaws Net Ends (λ st x x'. x ≡ x') (DoneOrSpent P (TellsFuel R fuel))
  done_or_spent P R fuel one apart ends = record {
    status = λ st x h. spent_status P (TellsFuel R fuel) st x h;
    done = λ n x x' h h'. one n x x' h h';
    spent = λ n x x' h h'. h.1 ∙ sym h'.1;
    apart = λ n x x' h h'. apart n x h h'.0;
    ends = λ n e x h. ends n e h.0;
  }

-- ---- each command

-- a trace of a complete run within the fuel, or of one that is as long and goes on, tells how the
-- one-thread run ends
module _ (tr : Translation) (t : Tree) (names : List (List ℕ)) (fuel : ℕ)
    (n : IsNet (translation_of tr t (length names))) (x : List ℕ) where
  pub trace_ends : Traces tr t names fuel Done x → RunEnds (start_net_of_term tr t names) fuel
  trace_ends h = any_run_ends tr t names fuel n h.journal h.net h.run h.ends.0 h.ends.1

  pub trace_runs_out : Traces tr t names fuel Spent x → RunsOut (start_net_of_term tr t names) fuel
  trace_runs_out h = any_run_runs_out tr t names fuel n h.journal h.net h.run (inr (h.ends.1, h.ends.0))

-- the net of a term has one text
one_net_text : (tr : Translation) (t : Tree) (names : List (List ℕ)) (x x' : List ℕ) →
    WritesNet tr t names x → WritesNet tr t names x' → x ≡ x'
one_net_text tr t names x x' w w' =
    let N = translation_of tr t (length names) in
    let same = same_trans (net_of w.net) N (net_of w'.net) w.same (same_sym (net_of w'.net) N w'.same) in
    let size : length w.net.nodes ≡ length w'.net.nodes = sym w.whole ∙ live_alike w.net w'.net same ∙ w'.whole in
    w.written ∙ ap net_text (one_graph w.net w'.net w.tabled w'.tabled same size) ∙ sym w'.written

pub laws : (job : Job) (t : Tree) (names : List (List ℕ)) →
    HasLaws (IsNet (translation_of (translation_in job) t (length names))) (EndsWithinFuel job t names)
    (HaveOneText job) (TermAnswer job t names)
laws (jobs.Run tr w fuel heads name) t names = done_or_spent _ _ fuel
    (λ n x x' p p'. one_print tr t names n fuel heads x x' p p')
    (λ n x p r. ends_or_not tr t names n fuel heads x r p)
    (λ n e r. ends_or_runs_out tr t names n fuel r e)
laws (jobs.Walk tr edges heads name) t names =
    always_done _ (λ n x x' w w'. one_walk tr t names n edges heads x x' w w')
laws (jobs.View tr after name) t names = always_done _ (λ n x x' v v'. one_view tr t names n after x x' v v')
laws (jobs.Trace tr w fuel name) t names = record {
  status = λ st x h. ended_status fuel h.journal h.net st h.ends;
  done = λ n x x' h h'. tt;
  spent = λ n x x' h h'. tt;
  apart =
      λ n x x' h h'.
      ends_or_runs_out tr t names n fuel (trace_runs_out tr t names fuel n x' h') (trace_ends tr t names fuel n x h);
  ends = λ n e x h. ends_or_runs_out tr t names n fuel (trace_runs_out tr t names fuel n x h) e;
}
laws (jobs.Demand tr fuel heads name) t names = done_or_spent _ _ fuel
    (λ n x x' d d'. one_demanded tr t names n fuel heads x x' d d')
    (λ n x d r. demand_ends_or_not tr t names n fuel heads r d.ends)
    (λ n e r. demand_ends_or_not tr t names n fuel heads r e)
laws (jobs.Certify tr b w fuel heads name) t names = done_or_spent _ _ fuel
    (λ n x x' c c'. one_certified tr t names n b fuel heads x x' c c')
    (λ n x c r. reads_or_runs_out tr t names n fuel heads c.tree r c.last)
    (λ n e r. ends_or_runs_out tr t names n fuel r e)
laws (jobs.Net tr true w fuel name) t names = always_done _ (λ n x x' w w'. one_net_text tr t names x x' w w')
laws _ t names = record {
  status = λ st x h. absurd h;
  done = λ n x x' h h'. absurd h;
  spent = λ n x x' h h'. absurd h;
  apart = λ n x x' h h'. h;
  ends = λ n e x h. h;
}

-- ---- any command with these laws

module _ {Net Ends : Type 0} {Alike : Status → List ℕ → List ℕ → Type 0} {Answers : Status → List ℕ → Type 0}
    (l : HasLaws Net Ends Alike Answers) (n : Net) where
  -- has one answer,
  pub one_by_laws : (s s' : Status) (x x' : List ℕ) → Answers s x → Answers s' x' → (s ≡ s') × Alike s x x'
  one_by_laws s s' x x' h h' = go (settled s (l.status s x h)) (settled s' (l.status s' x' h'))
    where
      at : (u : Status) → s ≡ u → Answers u x
      at u e = subst (λ s. Answers s x) e h

      at' : (u : Status) → s' ≡ u → Answers u x'
      at' u e = subst (λ s. Answers s x') e h'

      both : (u : Status) → s ≡ u → s' ≡ u → Alike u x x' → (s ≡ s') × Alike s x x'
      both u e e' k = (e ∙ sym e', subst (λ s. Alike s x x') (sym e) k)

      go : (s ≡ Done) ⊎ (s ≡ Spent) → (s' ≡ Done) ⊎ (s' ≡ Spent) → (s ≡ s') × Alike s x x'
      go (inl e) (inl e') = both Done e e' (l.done n x x' (at Done e) (at' Done e'))
      go (inl e) (inr e') = absurd (l.apart n x x' (at Done e) (at' Spent e'))
      go (inr e) (inl e') = absurd (l.apart n x' x (at' Done e') (at Spent e))
      go (inr e) (inr e') = both Spent e e' (l.spent n x x' (at Spent e) (at' Spent e'))

  -- and is done where the run ends within the fuel
  pub done_by_laws : Ends → (s : Status) (x : List ℕ) → Answers s x → s ≡ Done
  done_by_laws ends s x h = elim (settled s (l.status s x h)) [
    | inl e ↦ e
    | inr e ↦ absurd (l.ends n ends x (subst (λ s. Answers s x) e h))
  ]
