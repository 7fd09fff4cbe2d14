-- What a call does to its source and to its sink, in the words that these two tell of themselves.
use Rattle.std.specs.Prelude.{◌≡◌, ℕ, ◌≤◌, ◌+◌, List, Option}
use Rattle.ol_io.specs.Outside.{Rose}
use Rattle.ol_io.specs.Readings.{AreOfSince}
use Rattle.ol_io.specs.declared.outside.Source.{Ghosts as SourceGhosts}
use Rattle.ol_io.specs.declared.outside.Sink.{Ghosts as SinkGhosts}
use Rattle.ol_cli.specs.Jobs.{Files}
use Rattle.ol_cli.specs.Answers.{Seen}

-- What a call does to its source, whatever fails: it begins so many names at most. The source
-- knows the names that it knew and has the bytes that it had, and what it handed over is of these.
pub record ReadsAtMost {S : Type 0} (g : SourceGhosts S) (most : ℕ) (old new : S) : Type 0 where
  pub begins : g.begins new ≤ g.begins old + most
  pub knows : g.knows new ≡ g.knows old
  pub contents : g.contents new ≡ g.contents old
  pub told : AreOfSince (λ _. g.contents old) (g.readings old) (g.readings new)

-- this is said of any files that the readings of the call are of
abbrev pub OfFilesRead : {S : Type 0} → SourceGhosts S → (old new : S) → (Files → Type 0) → Type 0
OfFilesRead g old new Says = (files : Files) → AreOfSince files (g.readings old) (g.readings new) → Says files

-- what the source did in the call, where the files have these bytes
abbrev pub seen_of : {S : Type 0} → SourceGhosts S → Files → (old new : S) → Seen
seen_of g files old new = record {
  faults = g.faults old;
  faults' = g.faults new;
  contents = files;
  given = g.given new;
  ended = g.ended new;
}

-- the same of a source of which no call was made before
abbrev pub first_seen : {S : Type 0} → SourceGhosts S → Files → S → Seen
first_seen g files new = record {
  faults = 0;
  faults' = g.faults new;
  contents = files;
  given = g.given new;
  ended = g.ended new;
}

-- this is said where neither the source nor the sink failed in the call
abbrev pub IfNoneFailed : {S W : Type 0} → SourceGhosts S → SinkGhosts W → (s s' : S) (w w' : W) → Type 0 → Type 0
IfNoneFailed g h s s' w w' P = (Rose (g.faults s) (g.faults s') → ⊥) → (Rose (h.faults w) (h.faults w') → ⊥) → P

-- The same of any files that the readings of the call are of, and of what was taken before the call and after.
abbrev pub WhereNoneFailed : {S W : Type 0} → SourceGhosts S → SinkGhosts W → (s s' : S) (w w' : W) →
    (Files → Option (List ℕ) → Option (List ℕ) → Type 0) → Type 0
WhereNoneFailed g h s s' w w' Says = OfFilesRead g s s' (λ files.
    IfNoneFailed g h s s' w w' (Says files (h.taken w) (h.taken w')))
