-- `trace`: the trace of a run of a term; the closed words of the workers that made it.
use Rattle.std.specs.Prelude.{List, Option, ℕ, ◌≡◌}
use Rattle.ol_diamond.specs.Waves.{AreWaves}
use Rattle.ol_net.specs.Nets.{NamedNet}
use Rattle.ol_rules.specs.Runs.{IsRun}
use Rattle.ol_rules.specs.declared.journal.Entry.{Entry}
use Rattle.ol_rules.specs.declared.journal.NodeName.{NodeName}
use Rattle.ol_term.specs.Trees.{Tree}
use Rattle.ol_term.specs.declared.translations.Translation.{Translation}
use Rattle.ol_view.specs.Forms.{text_of}
use Rattle.ol_view.specs.declared.forms.Form.TheVariants as form
use Rattle.ol_wire.specs.Closed.{ClosedTable}
use Rattle.ol_cli.specs.Run.{EndsBy, WorkHands, start_net_of_term}
use Rattle.ol_cli.specs.declared.status.Status.{Status}

-- The text tells each entry of this journal, which leads from the term's net to this one, with its rule and its wave.
abbrev pub IsTraceOf : Translation → Tree → List (List ℕ) → List Entry → NamedNet NodeName → List ℕ → Type 0
IsTraceOf translation t names journal net text =
    (waves : List ℕ) × AreWaves (start_net_of_term translation t names) journal net waves
    × (text ≡ text_of form.Two journal waves)

-- What `trace` answers to a term: the text is the trace of a run of the term that ended so. The run
-- is any one of many; but its end is that of the one-thread run (law `any_run_tells`, clauses `ends`
-- and `spent`).
pub record Traces (translation : Translation) (t : Tree) (names : List (List ℕ)) (fuel : ℕ)
    (st : Status) (text : List ℕ) : Type 0 where
  pub journal : List Entry
  pub net : NamedNet NodeName
  pub run : IsRun (start_net_of_term translation t names) 0 journal net
  pub ends : EndsBy fuel journal net st
  pub written : IsTraceOf translation t names journal net text

-- what `trace` hands back of a term: the closed words, of whose journal the text is the trace, with its waves
abbrev pub TraceHands : Translation → Tree → List (List ℕ) → (workers fuel : ℕ) → Status → List ℕ →
    Option ClosedTable → Type 0
TraceHands translation t names workers fuel st text = WorkHands translation t names workers fuel st
    (λ journal net. IsTraceOf translation t names journal net text)
