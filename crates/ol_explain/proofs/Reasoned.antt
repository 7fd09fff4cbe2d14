-- A journal that was followed, and what `explain` says of it.
use Rattle.std.proofs.Common.{◌≡◌, ◌≢◌, ℕ, ◌+◌, ◌<◌, ◌≤◌, List, length, length-drop, drop, Option, None, Some, ◌⊎◌, inl, inr}
use Rattle.std.proofs.Common.{refl, sym, ap, ◌∙◌, subst, arith}
use Rattle.std.specs.Prelude.{IfSome}
use Rattle.std.proofs.lemmas.List.{append-nil}
use Rattle.std.proofs.Math.ListN.{drop_of_length-le}
use Rattle.ol_net.specs.Graph.{Graph}
use Rattle.ol_net.specs.Nets.{IsNet}
use Rattle.ol_net.specs.Numbered.{net_of}
use Rattle.ol_diamond.specs.declared.weighing.Rewritten.{Rewritten}
use Rattle.ol_view.specs.declared.answers.Check.{Check}
use Rattle.ol_view.specs.declared.answers.Check.TheVariants.{Complete, Run, BadText}
use Rattle.ol_view.specs.declared.line_reading.Line.{Line}
use Rattle.ol_view.specs.LineReading.{TellsOf}
use Rattle.ol_view.specs.Checks.{start_net_of_graph, BeginsWithRun, IsFound, IsReadAgain}
use Rattle.ol_view.proofs.FoundCases as found
use Rattle.ol_subjects.specs.declared.answers.End.TheVariants as end
use Rattle.ol_explain.specs.declared.following.Stop.TheVariants as stop
use Rattle.ol_orders.specs.declared.replaying.Replay.{Replay}
use Rattle.ol_explain.specs.Explained.{cause_words, IsExplainedOf, not_a_run}
use Rattle.ol_explain.specs.Followed.{Stops, otherwise}
use Rattle.ol_orders.specs.Replays.{net_here}
use Rattle.ol_explain.specs.Reasons.{AreJoined, IsOffBy}
use Rattle.ol_explain.specs.Found.{IsToldBy}
use Rattle.ol_explain.proofs.Joins.{joined_by}
use Rattle.ol_explain.proofs.Told.{at_good}

module _ (old : Graph) (text : List ℕ) (most : ℕ) (r : Replay) (at : ℕ) where
  -- all lines are good
  pub whole : Stops old text most r at stop.Good → length text ≤ at → IsToldBy old text r
  whole s l =
      let g = at_good old text most r at s in
      record {
        form = g.form;
        waves = g.waves;
        begins = subst (λ rest. BeginsWithRun g.form (start_net_of_graph old) text r.run.journal g.waves (net_here r) rest)
            (drop_of_length-le text l) g.told;
      }

  -- no more entries may stand there
  pub full : Stops old text most r at stop.Good → at < length text →
      most ≡ 8000000 → IsFound (start_net_of_graph old) text (BadText 8000002)
  full s l m =
      let g = at_good old text most r at s in
      let e : length r.run.journal ≡ 8000000 = ends g.ended in
      subst (λ n. IsFound (start_net_of_graph old) text (BadText n))
      (let q : length r.run.journal + 2 ≡ 8000002 = omega arith in q)
      (found.found_of (found.bad_text g.told (λ z. let q = ap length z in omega (arith, length-drop at text)) (inl e)))
    where
      ends : (length r.run.journal ≡ most) ⊎ (length text ≤ at) → length r.run.journal ≡ 8000000
      ends (inl e) = e ∙ m
      ends (inr k) = absurd (omega arith)

  -- the cause that was found is that of the line
  pub explains : (line : Line) (made : Option Rewritten) → Stops old text most r at (stop.Otherwise line made) →
      (out : List ℕ) → IsOffBy old r line made out → IsExplainedOf old text out end.NotARun
  explains line made (otherwise {form = form} {waves = waves} t b f o) out off =
      not_a_run f (record {
        form = form;
        entries = r.run.journal;
        waves = waves;
        last = net_here r;
        rest = drop at text;
        entry = o.entry;
        wave = o.wave;
        more = o.rest;
        begins = t;
        line_is = refl;
        here = o.begins;
        cause = off.cause;
        is = off.is form waves text at o;
        words_are = ap (λ a. cause_words a line.second off.cause) (sym o.first)
            ∙ ap (λ b. cause_words o.entry.first b off.cause) (sym o.second);
      }) off.text_is

  -- what was made was made of two nodes that are joined
  pub made_joined : IsNet (net_of old) → (line : Line) (made : Option Rewritten) →
      Stops old text most r at (stop.Otherwise line made) → AreJoined r line made
  made_joined net line None s = tt
  made_joined net line (Some of) (otherwise {form = form} {waves = waves} t b f o) =
      joined_by old net r form waves text at line of t o

  -- what was made isn't what the line tells
  pub made_wrong : (line : Line) (made : Option Rewritten) → Stops old text most r at (stop.Otherwise line made) →
      IfSome made (λ of. TellsOf line.told of.rule of.wave → ⊥)
  made_wrong line made (otherwise t b f o) = o.wrong

-- what is found of a whole text of a run is one of two things
pub no_other : (old : Graph) (text : List ℕ) (r : Replay) (v : Check) →
    IsReadAgain (start_net_of_graph old) text v → IsToldBy old text r → v ≢ Complete → ((n : ℕ) → v ≢ Run n) → ⊥
no_other old text r v again w a b =
    let h = again w.form r.run.journal w.waves (net_here r) w.begins.few w.begins.run
    (w.begins.begins ∙ append-nil _) in
    b (length r.run.journal) (h.1 (λ c. a (h.0 c)))
