-- What comes of a file: its term and its net, or the line by which it is refused.
use Rattle.std.specs.Prelude.{ℕ, ◌≤◌, ◌<◌, ◌^◌, List, length}
use Rattle.ol_term.specs.declared.translations.Translation.{Translation}
use Rattle.ol_term.specs.Trees.{Tree, tree_of, term_size}
use Rattle.ol_net.specs.Graph.{Graph}
use Rattle.ol_subjects.specs.declared.subjects.Subject.{Subject}
use Rattle.ol_subjects.specs.declared.subjects.TermRead.{TermRead}
use Rattle.ol_subjects.specs.declared.subjects.TermRead.TheVariants as term
use Rattle.ol_subjects.specs.declared.subjects.NetRead.{NetRead}
use Rattle.ol_subjects.specs.declared.subjects.NetRead.TheVariants as net
use Rattle.ol_subjects.specs.Subjects.{IsTerm, IsNetOfTerm, IsSubject, RefusesTerm, Refuses}
use Rattle.ol_limits.specs.Limits.{most_nodes}

-- the bytes have this term, and this is its net
pub record IsReady (translation : Translation) (bytes : List ℕ) (t : Tree) (names : List (List ℕ))
    (g : Graph) : Type 0 where
  pub term : IsTerm translation bytes t names
  pub ready : IsNetOfTerm translation t names g
  pub few : length g.nodes ≤ most_nodes
  pub counted : term_size t < 2 ^ 64

abbrev pub IsTermRead : Translation → List ℕ → TermRead → Type 0
IsTermRead translation bytes (term.Term net file) =
    IsReady translation bytes (tree_of file.term) file.names net
IsTermRead translation bytes (term.Refused text) = RefusesTerm translation bytes text.items

abbrev pub IsSubjectRead : Subject → List ℕ → NetRead → Type 0
IsSubjectRead subject bytes (net.Net g) = IsSubject subject bytes g × (length g.nodes ≤ most_nodes)
IsSubjectRead subject bytes (net.Refused text) = Refuses subject bytes text.items
