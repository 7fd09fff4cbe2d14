-- What a term, or a net, costs by each way that is shown, side by side.
use Rattle.std.specs.Prelude.{◌≡◌, ℕ, List, Option, None, Some, map}
use Rattle.std.specs.List.{All}
use Rattle.ol_term.specs.declared.translations.Translation.{Translation}
use Rattle.ol_term.specs.Trees.{Tree}
use Rattle.ol_net.specs.Graph.{Graph}
use Rattle.ol_netfile.specs.NetTexts.{IsNetRead}
use Rattle.ol_subjects.specs.declared.layouts.Layout.{Layout}
use Rattle.ol_subjects.specs.declared.answers.End.{End}
use Rattle.ol_subjects.specs.declared.answers.End.TheVariants.{Refused}
use Rattle.ol_subjects.specs.declared.subjects.Subject.{Subject}
use Rattle.ol_subjects.specs.declared.subjects.Subject.TheVariants as subject
use Rattle.ol_subjects.specs.Subjects.{IsTerm, IsNetOfTerm, Refuses}
use Rattle.ol_counts.specs.declared.tables.Column.{Column}
use Rattle.ol_counts.specs.declared.ways.Bounds.{Bounds}
use Rattle.ol_counts.specs.declared.ways.Columns.{Columns}
use Rattle.ol_counts.specs.Objects.{text_in}
use Rattle.ol_counts.specs.Tables.{end_of}
use Rattle.ol_counts.specs.Tallies.{IsTally}
use Rattle.ol_counts.specs.Ways.{shown}

-- The columns are those of the ways that are shown, in their order. Each has what its way comes to.
pub record AreColumns (g : Graph) (t : Option Tree) (bounds : Bounds) (columns : Columns)
    (them : List Column) : Type 0 where
  pub ways : map (λ (c : Column). c.way) them ≡ shown columns
  pub tallies : All (λ (c : Column). IsTally g t bounds c.way c.tally) them

-- The answer to a file with a term or a net.
pub data IsCounted (bytes : List ℕ) (bounds : Bounds) (columns : Columns) (layout : Layout) (text : List ℕ)
    : Subject → End → Type 0 where
  refused : {subject : Subject} → Refuses subject bytes text →
      IsCounted bytes bounds columns layout text subject Refused
  of_term : {translation : Translation} {t : Tree} {names : List (List ℕ)} {g : Graph}
      {them : List Column} → IsTerm translation bytes t names →
      IsNetOfTerm translation t names g → AreColumns g (Some t) bounds columns them →
      text ≡ text_in layout them →
      IsCounted bytes bounds columns layout text (subject.Term translation) (end_of them)
  of_net : {g : Graph} {them : List Column} → IsNetRead bytes g →
      AreColumns g None bounds columns them → text ≡ text_in layout them →
      IsCounted bytes bounds columns layout text subject.Net (end_of them)
