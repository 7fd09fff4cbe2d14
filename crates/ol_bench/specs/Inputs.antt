-- Where the bytes of a file come from, and what comes of a file that can't be read or is too long.
use Rattle.std.specs.Prelude.{◌≡◌, ℕ, ◌+◌, ◌≤◌, List, ◌++◌, length, Option, Some, codes, string_bytes}
use Rattle.std.specs.Fmt.{decimal}
use Rattle.ol_io.specs.Outside.{Rose, IsAllOf, IsLonger}
use Rattle.ol_limits.specs.Limits.{most_journal_bytes}
use Rattle.ol_subjects.specs.declared.answers.End.{End}
use Rattle.ol_subjects.specs.declared.answers.End.TheVariants as end
use Rattle.ol_subjects.specs.declared.subjects.Subject.TheVariants as subject
use Rattle.ol_subjects.specs.Subjects.{most_bytes}
use Rattle.ol_bench.specs.declared.asked.Given.{Given}
use Rattle.ol_bench.specs.declared.asked.Given.TheVariants as given
use Rattle.ol_bench.specs.declared.asked.Content.{Content}
use Rattle.ol_bench.specs.declared.asked.Content.TheVariants as content

-- it is given as the file of this name
abbrev pub IsNamed : Given → List ℕ → Type 0
IsNamed (given.Name file) name = name ≡ string_bytes file
IsNamed (given.Text text) name = ⊥

-- the files as they are at each reading, the next one having the number 0
abbrev pub Files : Type 0
Files = ℕ → List ℕ → Option (List ℕ)

-- the bytes that are given, where those of a file are told
abbrev pub told_of : Files → Given → Option (List ℕ)
told_of files (given.Name file) = files 0 (string_bytes file)
told_of files (given.Text text) = Some (string_bytes text)

-- the files after the bytes were taken: those of a file are read once, and those of a text aren't
abbrev pub after_taking : Given → Files → Files
after_taking (given.Name file) files = λ n. files (n + 1)
after_taking (given.Text text) files = files

-- the most bytes of a file
abbrev pub most_of : Content → ℕ
most_of (content.Subject s) = most_bytes s
most_of content.Journal = most_journal_bytes

-- the words before a limit
abbrev pub limit_words : Content → List ℕ
limit_words (content.Subject (subject.Term translation)) = codes "limit bytes "
limit_words (content.Subject subject.Net) = codes "limit net "
limit_words content.Journal = codes "limit journal "

-- the line by which a file of more bytes is refused
abbrev pub limit_line : Content → List ℕ
limit_line c = limit_words c ++ decimal (most_of c) ++ codes "\n"

-- These are all bytes of a file, and no more than so many.
abbrev pub IsAllWithin : ℕ → Option (List ℕ) → List ℕ → Type 0
IsAllWithin most file bytes = IsAllOf file bytes × (length bytes ≤ most)

-- What comes of a file, by the calls of the source that had failed before and that now have. A call
-- failed, and the line says so; or the file has too many bytes, and the line says so; or this is
-- what comes of its bytes.
pub data ComesOf (c : Content) (file : Option (List ℕ)) (faults faults' : ℕ)
    (OfBytes : List ℕ → List ℕ → End → Type 0) (text : List ℕ) : End → Type 0 where
  fault : Rose faults faults' → text ≡ codes "read fault\n" →
      ComesOf c file faults faults' OfBytes text end.Refused
  too_long : faults' ≡ faults → IsLonger file (most_of c) → text ≡ limit_line c →
      ComesOf c file faults faults' OfBytes text end.Refused
  of_bytes : {e : End} (bytes : List ℕ) → IsAllWithin (most_of c) file bytes →
      OfBytes bytes text e → ComesOf c file faults faults' OfBytes text e
