-- A trace that `check` judges while it is read: how far it is read, and what comes of it.
use Rattle.std.specs.Prelude.{◌≡◌, ℕ, ◌<◌, ◌≤◌, false, List, [], ◌++◌, ◌⊎◌, ⊤, length, take, Option, None, Some, codes}
use Rattle.ol_io.specs.Outside.{Rose}
use Rattle.ol_io.specs.Readings.{IsReadOf}
use Rattle.ol_limits.specs.Limits.{most_journal_bytes}
use Rattle.ol_net.specs.Graph.{Graph}
use Rattle.ol_subjects.specs.declared.answers.End.{End}
use Rattle.ol_subjects.specs.declared.answers.End.TheVariants as end
use Rattle.ol_subjects.specs.declared.layouts.Layout.{Layout}
use Rattle.ol_subjects.specs.declared.layouts.Layout.TheVariants.{Lines, Object}
use Rattle.ol_subjects.specs.declared.subjects.Subject as of
use Rattle.ol_subjects.specs.Subjects.{IsSubject}
use Rattle.ol_view.specs.declared.answers.Check.{Check}
use Rattle.ol_view.specs.Checks.{start_net_of_graph}
use Rattle.ol_view.specs.Feeding.{IsFixed, IsOpenLine}
use Rattle.ol_explain.specs.Judged.{IsJudged}
use Rattle.ol_explain.specs.Objects.{IsJudgedObject}
use Rattle.ol_bench.specs.declared.asked.Content.TheVariants.{Journal}
use Rattle.ol_bench.specs.Inputs.{IsAllWithin, limit_line}

-- what a trace is found to be, in this layout
abbrev pub IsJudgedIn : Layout → (bytes trace text : List ℕ) → of.Subject → End → Type 0
IsJudgedIn Lines bytes trace text s e = IsJudged bytes trace text s e
IsJudgedIn Object bytes trace text s e = IsJudgedObject bytes trace text s e

-- ---- how far it is read

-- The verdict on a trace from the net is open after these bytes: they are lines that don't fix it, and then an unfinished
-- line, no longer than a line may be.
abbrev pub IsOpenAfter : Graph → List ℕ → Type 0
IsOpenAfter net bytes = (lines : List ℕ) × (line : List ℕ) × (bytes ≡ lines ++ line) × IsOpenLine line
    × ((check : Check) → IsFixed (start_net_of_graph net) lines check → ⊥)

-- the most bytes that are read after those that fix the verdict
abbrev pub most_read_ahead : ℕ
most_read_ahead = 65536

-- The verdict is open before the last of these bytes, at most so many.
abbrev pub IsOpenBeforeLast : Graph → List ℕ → Type 0
IsOpenBeforeLast net bytes = (start : List ℕ) × (last : List ℕ) × (bytes ≡ start ++ last)
    × (length last ≤ most_read_ahead) × IsOpenAfter net start

-- These bytes of the trace were read, and no more than had to be, where the first file has these bytes: none, or the
-- verdict is open before the last ones.
abbrev pub IsReadNoFurther : of.Subject → (bytes trace : List ℕ) → Type 0
IsReadNoFurther s bytes trace =
    (trace ≡ []) ⊎ ((net : Graph) × IsSubject s bytes net × IsOpenBeforeLast net trace)

-- ---- what comes of it

-- The file is longer than a trace may be, and the verdict is open after as many bytes as a trace may have.
abbrev pub IsOpenAtLimit : Graph → Option (List ℕ) → Type 0
IsOpenAtLimit net None = ⊤
IsOpenAtLimit net (Some all) =
    (most_journal_bytes < length all) × IsOpenAfter net (take most_journal_bytes all)

-- A prefix of the trace was read, no longer than a trace may be, and this is the answer to each trace that begins so.
abbrev pub IsJudgedByPrefix : Layout → (bytes : List ℕ) → (trace : Option (List ℕ)) → (text : List ℕ) →
    of.Subject → End → Type 0
IsJudgedByPrefix layout bytes trace text s e =
    (front : List ℕ) × (length front ≤ most_journal_bytes) × IsReadOf trace false front
    × ((rest : List ℕ) → IsJudgedIn layout bytes (front ++ rest) text s e)

-- What comes of the file with the trace, where the first file has these bytes, by the calls of the source that had failed
-- before and that now have. A call failed, and the line says so; or the trace is too long and its verdict open at the
-- limit, and the line says that it is too long; or this is the answer to the whole trace, or to each that begins as it does.
pub data ComesOfTrace (layout : Layout) (s : of.Subject) (bytes : List ℕ) (file : Option (List ℕ))
    (faults faults' : ℕ) (text : List ℕ) : End → Type 0 where
  fault : Rose faults faults' → text ≡ codes "read fault\n" →
      ComesOfTrace layout s bytes file faults faults' text end.Refused
  too_long : {net : Graph} → faults' ≡ faults → IsSubject s bytes net → IsOpenAtLimit net file →
      text ≡ limit_line Journal → ComesOfTrace layout s bytes file faults faults' text end.Refused
  whole : {e : End} (trace : List ℕ) → faults' ≡ faults → IsAllWithin most_journal_bytes file trace →
      IsJudgedIn layout bytes trace text s e → ComesOfTrace layout s bytes file faults faults' text e
  by_prefix : {e : End} → faults' ≡ faults → IsJudgedByPrefix layout bytes file text s e →
      ComesOfTrace layout s bytes file faults faults' text e
