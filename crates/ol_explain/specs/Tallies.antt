-- What a journal is found to be, by its value, and how often each rule stands in its run.
use Rattle.std.specs.Prelude.{◌≡◌, ℕ, List, [], Option, None, Some, ◌⊎◌}
use Rattle.ol_net.specs.Graph.{Graph}
use Rattle.ol_net.specs.Nets.{NamedNet}
use Rattle.ol_rules.specs.declared.journal.NodeName.{NodeName}
use Rattle.ol_rules.specs.declared.journal.Entry.{Entry}
use Rattle.ol_rules.specs.declared.journal.Counts.{Counts}
use Rattle.ol_rules.specs.Counting.{counts_of}
use Rattle.ol_view.specs.declared.answers.Check.{Check}
use Rattle.ol_view.specs.declared.answers.Check.TheVariants.{BadText, NotARun}
use Rattle.ol_view.specs.declared.forms.Form.{Form}
use Rattle.ol_view.specs.Checks.{start_net_of_graph, IsFound, OnlyIsFound, BeginsWithRun}
use Rattle.ol_subjects.specs.declared.subjects.Subject.{Subject}
use Rattle.ol_subjects.specs.Subjects.{IsSubject, Refuses}
use Rattle.ol_explain.specs.declared.tallying.Finding.{Finding}
use Rattle.ol_explain.specs.declared.tallying.Finding.TheVariants.{Refused, Found}

-- The journal is the text of a run from the graph, and these count its entries by their rules.
pub record CountsRun (g : Graph) (journal : List ℕ) (counts : Counts) : Type 0 where
  pub form : Form
  pub entries : List Entry
  pub waves : List ℕ
  pub last : NamedNet NodeName
  pub begins : BeginsWithRun form (start_net_of_graph g) journal entries waves last []
  pub counts_are : counts ≡ counts_of entries

-- some line of the journal is a bad one
abbrev pub HasBadLine : Graph → List ℕ → Type 0
HasBadLine g journal = (line : ℕ) × (IsFound (start_net_of_graph g) journal (BadText line)
    ⊎ IsFound (start_net_of_graph g) journal (NotARun line))

-- what is counted of the journal
abbrev pub IsTally : Graph → List ℕ → Option Counts → Type 0
IsTally g journal (Some counts) = CountsRun g journal counts
IsTally g journal None = HasBadLine g journal

-- What comes of a file with a term or a net, and of one with a journal: the one thing that this is found to be.
pub data IsChecked (bytes journal : List ℕ) (subject : Subject) : Finding → Type 0 where
  refused : (text : List ℕ) → Refuses subject bytes text → IsChecked bytes journal subject Refused
  found : {g : Graph} {check : Check} → IsSubject subject bytes g →
      OnlyIsFound (start_net_of_graph g) journal check → IsChecked bytes journal subject (Found check)

-- The same, and what is counted of the journal.
pub data IsTallied (bytes journal : List ℕ) (subject : Subject) : Finding → Option Counts → Type 0 where
  refused : (text : List ℕ) → Refuses subject bytes text →
      IsTallied bytes journal subject Refused None
  found : {g : Graph} {check : Check} {counts : Option Counts} → IsSubject subject bytes g →
      OnlyIsFound (start_net_of_graph g) journal check → IsTally g journal counts →
      IsTallied bytes journal subject (Found check) counts
