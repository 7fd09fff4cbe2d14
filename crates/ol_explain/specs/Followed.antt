-- Private: words of private contracts alone: how far a journal was followed, and why no further.
use Rattle.std.specs.Prelude.{◌≡◌, ◌≢◌, ℕ, ◌+◌, ◌<◌, ◌≤◌, List, [], ◌∷◌, ◌++◌, length, drop, Option, IfSome, IfNone, ◌⊎◌}
use Rattle.ol_net.specs.Graph.{Graph}
use Rattle.ol_net.specs.Nets.{NamedNet}
use Rattle.ol_rules.specs.declared.journal.NodeName.{NodeName}
use Rattle.ol_rules.specs.declared.journal.Entry.{Entry}
use Rattle.ol_diamond.specs.declared.weighing.Rewritten.{Rewritten}
use Rattle.ol_diamond.specs.Replaying.{AreIdle}
use Rattle.ol_view.specs.declared.answers.Check.TheVariants.{BadText, NotARun}
use Rattle.ol_view.specs.declared.forms.Form.{Form}
use Rattle.ol_view.specs.declared.forms.Form.TheVariants.{Two}
use Rattle.ol_view.specs.declared.line_reading.Line.{Line}
use Rattle.ol_view.specs.LineReading.{TellsOf}
use Rattle.ol_view.specs.Checks.{start_net_of_graph, IsFound, IsRunTold, BeginsWithRun, HasNoLine}
use Rattle.ol_view.specs.Forms.{header_of, BeginsWithEntry}
use Rattle.ol_orders.specs.declared.replaying.Replay.{Replay}
use Rattle.ol_explain.specs.declared.following.Stop.{Stop}
use Rattle.ol_explain.specs.declared.following.Stop.TheVariants as stop
use Rattle.ol_orders.specs.Replays.{net_here}

-- The text of a form begins with that of the run's entries, and what follows begins here.
abbrev pub IsTold : Form → List ℕ → Graph → Replay → List ℕ → ℕ → Type 0
IsTold form waves old r text at =
    BeginsWithRun form (start_net_of_graph old) text r.run.journal waves (net_here r) (drop at text)

-- The line that stands here tells of something else than what was made of its pair: the pair isn't
-- active, or its rule or its wave is another.
pub record IsOff (form : Form) (waves : List ℕ) (old : Graph) (r : Replay) (text : List ℕ) (at : ℕ)
    (line : Line) (made : Option Rewritten) : Type 0 where
  pub entry : Entry
  pub wave : ℕ
  pub rest : List ℕ
  pub begins : BeginsWithEntry form (drop at text) entry wave rest
  pub first : entry.first ≡ line.first
  pub second : entry.second ≡ line.second
  pub tells : TellsOf line.told entry.rule wave
  pub idle : IfNone made (AreIdle (net_here r) entry.first entry.second)
  pub wrong : IfSome made (λ of. TellsOf line.told of.rule of.wave → ⊥)
  pub waved : IfSome made (λ of. form ≡ Two)
  pub runs : IfSome made (λ of. (next : NamedNet NodeName)
      × IsRunTold Two (start_net_of_graph old)
      (r.run.journal ++ record { rule = of.rule; first = entry.first; second = entry.second } ∷ [])
      (waves ++ of.wave ∷ []) next)

-- The text was followed up to here: to its end, to so many entries, or to a line that isn't good.
pub data Stops (old : Graph) (text : List ℕ) (most : ℕ) (r : Replay) (at : ℕ) : Stop → Type 0 where
  no_header : ((form : Form) (rest : List ℕ) → text ≢ header_of form ++ rest) →
      Stops old text most r at stop.NoHeader
  good : {form : Form} {waves : List ℕ} → IsTold form waves old r text at → length r.run.journal ≤ most →
      (length r.run.journal ≡ most) ⊎ (length text ≤ at) → Stops old text most r at stop.Good
  no_line : {form : Form} {waves : List ℕ} → IsTold form waves old r text at →
      length r.run.journal < most →
      IsFound (start_net_of_graph old) text (BadText (length r.run.journal + 2)) → at < length text →
      HasNoLine form (drop at text) → Stops old text most r at (stop.NoLine form)
  otherwise : {form : Form} {waves : List ℕ} {line : Line} {made : Option Rewritten} →
      IsTold form waves old r text at → length r.run.journal < most →
      IsFound (start_net_of_graph old) text (NotARun (length r.run.journal + 2)) →
      IsOff form waves old r text at line made → Stops old text most r at (stop.Otherwise line made)
