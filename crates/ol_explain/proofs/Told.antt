-- A journal that was followed, and what `after` says of it.
use Rattle.std.proofs.Common.{◌≡◌, ◌≢◌, ℕ, ◌+◌, ◌<◌, ◌≤◌, Bool, true, false, List, ◌++◌, length, drop, Option, ◌⊎◌, refl, subst, arith}
use Rattle.std.proofs.Math.ListN.{drop_of_length-le}
use Rattle.ol_net.specs.Graph.{Graph}
use Rattle.ol_diamond.specs.declared.weighing.Rewritten.{Rewritten}
use Rattle.ol_view.specs.declared.answers.Check.TheVariants.{BadText, NotARun}
use Rattle.ol_view.specs.declared.forms.Form.{Form}
use Rattle.ol_view.specs.declared.line_reading.Line.{Line}
use Rattle.ol_view.specs.Forms.{header_of}
use Rattle.ol_view.specs.Checks.{start_net_of_graph, IsFound, BeginsWithRun, HasNoLine}
use Rattle.ol_view.specs.Checks as found
use Rattle.ol_view.specs.Laws.{IsTable}
use Rattle.ol_orders.specs.declared.replaying.Replay.{Replay}
use Rattle.ol_explain.specs.Afters.{IsPaused, Shows, HasLines}
use Rattle.ol_explain.specs.Besides.{IsShown}
use Rattle.ol_orders.specs.Replays.{names_of, IsReplay, net_here}
use Rattle.ol_explain.specs.declared.following.Stop.TheVariants as stop
use Rattle.ol_explain.specs.Followed.{IsTold, Stops, no_header, good, no_line, otherwise}

module _ (old : Graph) (r : Replay) (u : IsReplay old r) (journal : List ℕ) (end : ℕ)
    (form : Form) (waves : List ℕ) (told : IsTold form waves old r journal end) (lines : ℕ) where
  paused : length r.run.journal + 1 ≡ lines → IsTable r.net → IsPaused old journal lines
  paused count tabled = record {
    form = form;
    entries = r.run.journal;
    waves = waves;
    names = names_of r;
    last = r.net;
    rest = drop end journal;
    begins = told;
    count = count;
    tabled = tabled;
    rising = λ j k l b.
        let i = u.listed j (omega arith) in
        let i' = u.listed k b in
        rw (i, i') (u.named.rising j k l);
  }

  pub net_after : (weights : Bool) → length r.run.journal + 1 ≡ lines → IsTable r.net → (text : List ℕ) →
      IsShown weights old r text → Shows weights old journal lines text
  unfolding paused
  net_after false count tabled text e = record { paused = paused count tabled; text_is = e }
  net_after true count tabled text (ws, W, run, same, e) = record {
    paused = paused count tabled;
    waves = ws;
    weighed = W;
    run = run;
    same = same;
    text_is = e;
  }

  pub has_lines : length journal ≤ end → length r.run.journal + 1 ≡ lines → HasLines old journal lines
  has_lines all count = record {
    form = form;
    entries = r.run.journal;
    waves = waves;
    last = net_here r;
    begins = subst (λ rest. BeginsWithRun form (start_net_of_graph old) journal r.run.journal waves
        (net_here r) rest) (drop_of_length-le journal all) told;
    count = count;
  }

-- what is known where it was followed no further
pub record IsGood (old : Graph) (text : List ℕ) (most : ℕ) (r : Replay) (at : ℕ) : Type 0 where
  pub form : Form
  pub waves : List ℕ
  pub told : IsTold form waves old r text at
  pub within : length r.run.journal ≤ most
  pub ended : (length r.run.journal ≡ most) ⊎ (length text ≤ at)

-- and where no line stands
pub record IsNoLine (old : Graph) (text : List ℕ) (most : ℕ) (r : Replay) (at : ℕ) (form : Form) : Type 0 where
  pub waves : List ℕ
  pub told : IsTold form waves old r text at
  pub below : length r.run.journal < most
  pub found : IsFound (start_net_of_graph old) text (BadText (length r.run.journal + 2))
  pub within : at < length text
  pub none : HasNoLine form (drop at text)

module _ (old : Graph) (text : List ℕ) (most : ℕ) (r : Replay) (at : ℕ) where
  pub at_header : Stops old text most r at stop.NoHeader → IsFound (start_net_of_graph old) text (BadText 1)
  at_header (no_header f) = found.no_header f refl

  pub no_header_here : Stops old text most r at stop.NoHeader →
      (form : Form) (rest : List ℕ) → text ≢ header_of form ++ rest
  no_header_here (no_header f) = f

  pub at_good : Stops old text most r at stop.Good → IsGood old text most r at
  at_good (good {form = form} {waves = waves} t w e) = record {
    form = form;
    waves = waves;
    told = t;
    within = w;
    ended = e;
  }

  pub at_no_line : {form : Form} → Stops old text most r at (stop.NoLine form) →
      (length r.run.journal < most) × IsFound (start_net_of_graph old) text (BadText (length r.run.journal + 2))
  at_no_line (no_line t b f l h) = (b, f)

  pub no_line_here : {form : Form} → Stops old text most r at (stop.NoLine form) →
      IsNoLine old text most r at form
  no_line_here (no_line {waves = waves} t b f l h) = record { waves = waves; told = t; below = b; found = f; within = l; none = h }

  pub at_other : (line : Line) (made : Option Rewritten) → Stops old text most r at (stop.Otherwise line made) →
      (length r.run.journal < most) × IsFound (start_net_of_graph old) text (NotARun (length r.run.journal + 2))
  at_other line made (otherwise t b f o) = (b, f)
