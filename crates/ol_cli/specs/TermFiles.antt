-- A term file, the limits that it passes, and what is answered to it and handed back.
use Rattle.std.specs.Prelude.{List, Option, codes, length, ℕ, ◌≡◌, ◌≤◌, ◌⊎◌}
use Rattle.ol_parse.specs.Parsed.{IsFileOf}
use Rattle.ol_parse.specs.Texts.{IsRefusedAt}
use Rattle.ol_term.specs.Trees.{Tree, depth}
use Rattle.ol_term.specs.declared.translations.Translation.{Translation}
use Rattle.ol_translate.specs.Sizes.{size_of_translation}
use Rattle.ol_wire.specs.Closed.{ClosedTable}
use Rattle.ol_words.specs.declared.jobs.Job.{Job}
use Rattle.ol_cli.specs.Jobs.{TermHands, translation_in}
use Rattle.ol_cli.specs.Texts.{Exceeds, count_line}
use Rattle.ol_cli.specs.declared.status.Status.{Status}
use Rattle.ol_cli.specs.declared.status.Status.TheVariants as status
use Rattle.ol_limits.specs.Limits.{most_term_bytes, most_depth, most_nodes}

-- the bytes are a text of this term with these free names, and no limit is passed
pub record IsTermFile (translation : Translation) (bytes : List ℕ) (t : Tree) (names : List (List ℕ)) : Type 0 where
  pub short : length bytes ≤ most_term_bytes
  pub file : IsFileOf bytes t names
  pub shallow : depth t ≤ most_depth
  pub small : size_of_translation translation t ≤ most_nodes

-- a limit that the file passes, and its text: of bytes, else of the depth of its term, else of the
-- nodes of its translation
abbrev pub IsPastLimit : Translation → (bytes text : List ℕ) → Type 0
IsPastLimit translation bytes text =
    Exceeds (length bytes) most_term_bytes (codes "limit bytes") text
    ⊎ ((length bytes ≤ most_term_bytes) × (t : Tree) × (names : List (List ℕ))
    × IsFileOf bytes t names
    × (Exceeds (depth t) most_depth (codes "limit depth") text ⊎ ((depth t ≤ most_depth)
    × Exceeds (size_of_translation translation t) most_nodes (codes "limit nodes") text)))

-- What the bytes of a term file are answered: a limit that they pass, the place where they are
-- refused, or what is answered to their term with its free names.
abbrev pub TermFileAnswer : Translation → (Tree → List (List ℕ) → Status → List ℕ → Type 0) →
    List ℕ → Status → List ℕ → Type 0
TermFileAnswer translation Answers bytes status.Limit text = IsPastLimit translation bytes text
TermFileAnswer translation Answers bytes status.Syntax text = (at : ℕ)
    × (length bytes ≤ most_term_bytes) × IsRefusedAt bytes at
    × (text ≡ count_line (codes "syntax at byte") at)
TermFileAnswer translation Answers bytes st text = (t : Tree) × (names : List (List ℕ))
    × IsTermFile translation bytes t names × Answers t names st text

-- what a job hands back of a file: that of the file's term
abbrev pub FileHands : Job → List ℕ → Status → List ℕ → Option ClosedTable → Type 0
FileHands job bytes st text closed = (t : Tree) × (names : List (List ℕ))
    × IsTermFile (translation_in job) bytes t names × TermHands job t names st text closed
