-- The answer of the command `waves`.
use Rattle.std.specs.Prelude.{◌≡◌, ℕ, List, ◌++◌}
use Rattle.ol_rules.specs.declared.journal.Entry.{Entry}
use Rattle.ol_net.specs.Graph.{Graph}
use Rattle.ol_net.specs.Numbered.{net_of}
use Rattle.ol_net.specs.Pairs.{IsComplete}
use Rattle.ol_rules.specs.Runs.{RunsTo, RanOut}
use Rattle.ol_diamond.specs.Waves.{IsWavesOf}
use Rattle.ol_subjects.specs.declared.answers.End.{End}
use Rattle.ol_subjects.specs.declared.answers.End.TheVariants.{Yes, No, Refused}
use Rattle.ol_subjects.specs.declared.subjects.Subject.{Subject}
use Rattle.ol_subjects.specs.Subjects.{IsSubject, Refuses}
use Rattle.ol_counts.specs.Waves.{IsTable, left_text}

-- The table of the one-thread run from the graph. Yes where it is complete; No where it goes on
-- beyond the fuel, and the table is that of as many entries as the fuel.
pub data IsWavesOfNet (g : Graph) (fuel : ℕ) (text : List ℕ) : End → Type 0 where
  ended : {journal : List Entry} {last : Graph} {waves : List ℕ} → RunsTo g fuel journal last →
      IsComplete (net_of last) → IsWavesOf g journal waves → IsTable journal waves text →
      IsWavesOfNet g fuel text Yes
  goes_on : {journal : List Entry} {last : Graph} {waves : List ℕ} {table : List ℕ} →
      RunsTo g fuel journal last → RanOut fuel journal last → IsWavesOf g journal waves →
      IsTable journal waves table → text ≡ table ++ left_text fuel → IsWavesOfNet g fuel text No

-- The answer to a file with a term or a net.
pub data IsWavesAnswer (bytes : List ℕ) (fuel : ℕ) (text : List ℕ) : Subject → End → Type 0 where
  refused : {subject : Subject} → Refuses subject bytes text →
      IsWavesAnswer bytes fuel text subject Refused
  answered : {subject : Subject} {g : Graph} {e : End} → IsSubject subject bytes g →
      IsWavesOfNet g fuel text e → IsWavesAnswer bytes fuel text subject e
