-- The journal of a run in one of three orders.
use Rattle.std.specs.Prelude.{◌≡◌, ℕ, List}
use Rattle.ol_net.specs.Graph.{Graph}
use Rattle.ol_net.specs.Numbered.{net_of}
use Rattle.ol_net.specs.Pairs.{IsComplete}
use Rattle.ol_rules.specs.declared.journal.Entry.{Entry}
use Rattle.ol_rules.specs.Runs.{RunsTo, RanOut}
use Rattle.ol_diamond.specs.Waves.{IsWavesOf}
use Rattle.ol_readback.specs.declared.answers.ReadNode.{ReadNode}
use Rattle.ol_demand.specs.declared.answers.Demanded.TheVariants.{Done, Spent}
use Rattle.ol_demand.specs.Answers.{IsAnswer}
use Rattle.ol_view.specs.declared.forms.Form.TheVariants as form
use Rattle.ol_view.specs.Forms.{header_of, text_of}
use Rattle.ol_subjects.specs.declared.answers.End.{End}
use Rattle.ol_subjects.specs.declared.answers.End.TheVariants.{Yes, No, Refused}
use Rattle.ol_orders.specs.declared.ordering.Order.{Order}
use Rattle.ol_orders.specs.declared.ordering.Order.TheVariants.{Least, Demand, Rounds}
use Rattle.ol_subjects.specs.declared.subjects.Subject.{Subject}
use Rattle.ol_orders.specs.Rounds.{EndsInRounds, GoesOnInRounds}
use Rattle.ol_subjects.specs.Subjects.{IsSubject, Refuses}

-- the text tells this journal with its rules and its waves
pub record Traces (g : Graph) (journal : List Entry) (text : List ℕ) : Type 0 where
  pub waves : List ℕ
  pub waves_are : IsWavesOf g journal waves
  pub text_is : text ≡ text_of form.Two journal waves

-- The text of the journal of a run from the graph. Yes where the order has come to its end, and No
-- where it goes on beyond the fuel.
pub data IsJournalOf (g : Graph) (fuel heads : ℕ) (text : List ℕ) : Order → End → Type 0 where
  least_ended : {journal : List Entry} {last : Graph} → RunsTo g fuel journal last →
      IsComplete (net_of last) → Traces g journal text → IsJournalOf g fuel heads text Least Yes
  least_goes_on : {journal : List Entry} {last : Graph} → RunsTo g fuel journal last →
      RanOut fuel journal last → Traces g journal text → IsJournalOf g fuel heads text Least No
  demand_ended : {tree : List ReadNode} {journal : List Entry} {last : Graph} →
      IsAnswer g heads fuel last (Done tree journal) → Traces g journal text →
      IsJournalOf g fuel heads text Demand Yes
  demand_goes_on : {journal : List Entry} {last : Graph} →
      IsAnswer g heads fuel last (Spent journal) → Traces g journal text →
      IsJournalOf g fuel heads text Demand No
  no_root : g.free ≡ 0 → text ≡ header_of form.Two → IsJournalOf g fuel heads text Demand Yes
  rounds_ended : {journal : List Entry} → EndsInRounds g fuel journal → Traces g journal text →
      IsJournalOf g fuel heads text Rounds Yes
  rounds_go_on : {journal : List Entry} → GoesOnInRounds g fuel journal → Traces g journal text →
      IsJournalOf g fuel heads text Rounds No

-- The answer to a file with a term or a net.
pub data IsJournal (bytes : List ℕ) (order : Order) (fuel heads : ℕ) (text : List ℕ)
    : Subject → End → Type 0 where
  refused : {subject : Subject} → Refuses subject bytes text →
      IsJournal bytes order fuel heads text subject Refused
  traced : {subject : Subject} {g : Graph} {e : End} → IsSubject subject bytes g →
      IsJournalOf g fuel heads text order e → IsJournal bytes order fuel heads text subject e
