-- An answer that begins with the line of what is found.
use Rattle.std.proofs.Common.{◌≡◌, ℕ, ◌+◌, List, ◌++◌, length, Option, ◌∙◌, ap}
use Rattle.std.specs.Prelude.{codes}
use Rattle.std.proofs.lemmas.List.{append_assoc}
use Rattle.ol_net.specs.Graph.{Graph}
use Rattle.ol_diamond.specs.declared.weighing.Rewritten.{Rewritten}
use Rattle.ol_view.specs.declared.answers.Check.TheVariants.{BadText, NotARun}
use Rattle.ol_view.specs.declared.forms.Form.{Form}
use Rattle.ol_view.specs.declared.line_reading.Line.{Line}
use Rattle.ol_orders.specs.declared.replaying.Replay.{Replay}
use Rattle.ol_explain.specs.Afters.{line_with}
use Rattle.ol_explain.specs.Explained.{cause_words}
use Rattle.ol_explain.specs.Explanations.{IsBelow}
use Rattle.ol_explain.specs.Fields.{IsBrokenBy, IsBadBy, broken, unordered}
use Rattle.ol_explain.specs.Reasons.{IsOffBy}
use Rattle.ol_explain.specs.Wanted.{bytes_at, greater_at}

-- a line and words with a line feed
pub below_line : (first : List ℕ) (n : ℕ) (words out : List ℕ) → out ≡ line_with first n ++ words ++ codes "\n" →
    out ≡ line_with first n ++ (words ++ codes "\n")
below_line first n words out e = e ∙ append_assoc (line_with first n) words (codes "\n")

pub below_broken : (form : Option Form) (text : List ℕ) (at line : ℕ) (out : List ℕ) → IsBrokenBy form text at line out →
    (below : List ℕ) × IsBelow (BadText line) out below
below_broken form text at line out b = (
  bytes_at (at + length b.before) b.bytes ++ codes "\n",
  below_line (codes "bad text at line ") line (bytes_at (at + length b.before) b.bytes) out b.out_is,
)

pub below_bad : (form : Form) (text : List ℕ) (at line : ℕ) (out : List ℕ) → IsBadBy form text at line out →
    (below : List ℕ) × IsBelow (BadText line) out below
below_bad form text at line out (broken b) = below_broken _ text at line out b
below_bad form text at line out (unordered {before = before} {first = first} w o e) = (
  greater_at (at + length before) first ++ codes "\n",
  below_line (codes "bad text at line ") line (greater_at (at + length before) first) out e,
)

pub below_off : (old : Graph) (r : Replay) (line : Line) (made : Option Rewritten) (out : List ℕ) (n : ℕ) →
    length r.run.journal + 2 ≡ n → IsOffBy old r line made out → (below : List ℕ) × IsBelow (NotARun n) out below
below_off old r line made out n e off = (
  cause_words line.first line.second off.cause ++ codes "\n",
  below_line (codes "not a run at line ") n (cause_words line.first line.second off.cause) out
      (off.text_is ∙ ap (λ (k : ℕ). line_with (codes "not a run at line ") k
      ++ cause_words line.first line.second off.cause ++ codes "\n") e),
)
