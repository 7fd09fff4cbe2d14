-- A derivation: terms, one a line, and what is said of each by the one before it.
use Rattle.std.specs.Prelude.{◌≡◌, ℕ, ◌+◌, ◌<◌, ◌≤◌, Bool, true, false, ◌&&◌, if◌then◌else◌, List, [], ◌∷◌, ◌++◌, length}
use Rattle.std.specs.Prelude.{Option, Some, None, codes}
use Rattle.std.specs.Fmt.{decimal}
use Rattle.ol_limits.specs.Limits.{most_depth, most_size, most_term_bytes}
use Rattle.ol_term.specs.Trees.{Tree, tree_of, term_size, depth}
use Rattle.ol_parse.specs.Texts.{IsRefusedAt}
use Rattle.ol_parse.specs.Parsed.{IsFileOf, IsTooDeep}
use Rattle.ol_beta.specs.Beta.{IsWithin}
use Rattle.ol_subjects.specs.Limited.{bytes_words, depth_words, size_words}
use Rattle.ol_subjects.specs.declared.answers.End.{End}
use Rattle.ol_subjects.specs.declared.answers.End.TheVariants.{Yes, No}
use Rattle.ol_derivations.specs.Lines.{lines_of, is_left_out, all_left_out}
use Rattle.ol_term.specs.NameLists.{with_names, in_table}
use Rattle.ol_derivations.specs.Verdicts.{IsVerdict, is_fine, verdict_words}
use Rattle.ol_derivations.specs.declared.judging.Verdict.{Verdict}
use Rattle.ol_derivations.specs.declared.lines.Read as reads
use Rattle.ol_derivations.specs.declared.lines.Read.TheVariants as read

-- a line is a text of this term, from which beta steps are made
pub record IsTermLine (line : List ℕ) (t : Tree) (names : List (List ℕ)) : Type 0 where
  pub short : length line ≤ most_term_bytes
  pub file : IsFileOf line t names
  pub within : IsWithin t

-- Why a line has no such term, in words: it has too many bytes, it isn't in the grammar, or its term is too deep or too
-- large. A column is counted in bytes, from 1.
pub data IsNoTermLine (line : List ℕ) : List ℕ → Type 0 where
  long : most_term_bytes < length line → IsNoTermLine line bytes_words
  syntax_at : {at : ℕ} → length line ≤ most_term_bytes → IsRefusedAt line at →
      IsNoTermLine line (codes "syntax, column " ++ decimal (at + 1))
  deep : {d : ℕ} → length line ≤ most_term_bytes → IsTooDeep line d →
      IsNoTermLine line depth_words
  large : {t : Tree} {names : List (List ℕ)} → length line ≤ most_term_bytes → IsFileOf line t names →
      depth t ≤ most_depth → most_size < term_size t → IsNoTermLine line size_words

-- what a line has
abbrev pub IsRead : List ℕ → reads.Read → Type 0
IsRead line read.LeftOut = is_left_out line ≡ true
IsRead line (read.NoTerm words) = (is_left_out line ≡ false) × IsNoTermLine line words.items
IsRead line (read.Term file) = (is_left_out line ≡ false) × IsTermLine line (tree_of file.term) file.names

-- some words about line n
abbrev pub line_text : ℕ → List ℕ → List ℕ
line_text n words = codes "line " ++ decimal n ++ codes ": " ++ words ++ codes "\n"

-- the terms so far: the table of their free names; and the last one, in this table, with the number of its line
pub record Terms : Type 0 where
  pub table : List (List ℕ)
  pub last : Option (ℕ × Tree)

abbrev pub no_terms : Terms
no_terms = record { table = []; last = None }

-- the terms with one more, of line n
abbrev pub with_term : Terms → ℕ → Tree → List (List ℕ) → Terms
with_term terms n t names = let table = with_names terms.table names in
    record { table = table; last = Some (n, in_table table names t) }

-- what is said of a term of line n, by the last one before it, and whether a derivation may go on so; nothing of the
-- first term
pub data IsTold (n : ℕ) (t : Tree) : Option (ℕ × Tree) → List ℕ → Bool → Type 0 where
  first : IsTold n t None [] true
  behind : {m : ℕ} {s : Tree} (v : Verdict) → IsVerdict s t v →
      IsTold n t (Some (m, s)) (line_text n (verdict_words m v)) (is_fine v)

-- line n: the terms before it and behind it, what is said of it, and whether a derivation may go on so
pub data IsLine (n : ℕ) (line : List ℕ) (terms : Terms) : Terms → List ℕ → Bool → Type 0 where
  left_out : is_left_out line ≡ true → IsLine n line terms terms [] true
  no_term : {words : List ℕ} → is_left_out line ≡ false → IsNoTermLine line words →
      IsLine n line terms terms (line_text n words) false
  term : {t : Tree} {names : List (List ℕ)} {told : List ℕ} {fine : Bool} → is_left_out line ≡ false →
      IsTermLine line t names →
      IsTold n (in_table (with_names terms.table names) names t) terms.last told fine →
      IsLine n line terms (with_term terms n t names) told fine

-- what is said of lines from line n on, behind these terms, and whether all of them are fine
pub data AreLines : ℕ → Terms → List (List ℕ) → List ℕ → Bool → Type 0 where
  none : {n : ℕ} {terms : Terms} → AreLines n terms [] [] true
  more : {n : ℕ} {terms after : Terms} {line told text : List ℕ} {fine all : Bool}
      {lines : List (List ℕ)} → IsLine n line terms after told fine →
      AreLines (n + 1) after lines text all → AreLines n terms (line ∷ lines) (told ++ text) (fine && all)

-- The answer to a file: what is said of its lines, which are counted from 1, and Yes if all are fine. A file all of whose
-- lines are left out is no derivation.
pub data IsDerivation (bytes : List ℕ) : List ℕ → End → Type 0 where
  nothing : all_left_out (lines_of bytes) ≡ true → IsDerivation bytes (codes "no term\n") No
  said : {text : List ℕ} {fine : Bool} → all_left_out (lines_of bytes) ≡ false →
      AreLines 1 no_terms (lines_of bytes) text fine → IsDerivation bytes text (if fine then Yes else No)
