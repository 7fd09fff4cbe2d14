-- Private: words of private contracts alone: the table of a net with its term, or of a net alone.
use Rattle.std.specs.Prelude.{◌≡◌, ℕ, List, Option, option_map}
use Rattle.std.specs.Borrow.{Bor}
use Rattle.ol_term.specs.declared.terms.Term.{Term}
use Rattle.ol_term.specs.Trees.{Tree, tree_of}
use Rattle.ol_net.specs.Graph.{Graph}
use Rattle.ol_subjects.specs.declared.layouts.Layout.{Layout}
use Rattle.ol_subjects.specs.declared.answers.End.{End}
use Rattle.ol_counts.specs.declared.tables.Column.{Column}
use Rattle.ol_counts.specs.declared.ways.Bounds.{Bounds}
use Rattle.ol_counts.specs.declared.ways.Columns.{Columns}
use Rattle.ol_counts.specs.Counted.{AreColumns}
use Rattle.ol_counts.specs.Objects.{text_in}
use Rattle.ol_counts.specs.Tables.{end_of}

-- the tree of a term, if there is one
abbrev pub tree_in : Option (Bor Term) → Option Tree
tree_in term = option_map (λ (t : Bor Term). tree_of t.now) term

pub record IsTabled (g : Graph) (t : Option Tree) (bounds : Bounds) (columns : Columns)
    (layout : Layout) (text : List ℕ) (end : End) : Type 0 where
  pub them : List Column
  pub are : AreColumns g t bounds columns them
  pub text_is : text ≡ text_in layout them
  pub end_is : end ≡ end_of them
