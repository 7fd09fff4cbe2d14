-- What follows from how a call ended, which the clauses `ends` of `ol` and of the call that `main` makes say: all else that
-- is known of the status and of what was written.
use Rattle.std.specs.Prelude.{◌≡◌, ◌≢◌, ◌<◌, ◌⊎◌, ◌++◌, ◌∷◌, ℕ, true, List, [], Option, Some, String, codes}
use Rattle.std.specs.declared.alloc.Global.{Global}
use Rattle.ol_io.specs.Outside.{Appended, Rose}
use Rattle.ol_io.specs.Readings.{Reading, AreOfSince, handed, reading}
use Rattle.ol_law_confluence.specs.NormalForms.{BeginsReduced}
use Rattle.ol_parse.specs.Grammar.{Named}
use Rattle.ol_parse.specs.Texts.{IsText}
use Rattle.ol_cli.specs.declared.status.Status.{Status}
use Rattle.ol_cli.specs.declared.status.Status.TheVariants as status
use Rattle.ol_cli.specs.Jobs.{AskForNothing, Files, files_of}
use Rattle.ol_cli.specs.Answers.{Ends, HasCause, IsAnswer, Seen}
use Rattle.ol_cli.specs.NormalForms.{ArePlain}
use Rattle.ol_cli.specs.Says.{SaysOfAnswer, SaysWhenDone}

-- this is said where neither the source's count of faults nor the sink's rose
abbrev pub NoneRose : Seen → (g g' : ℕ) → Type 0 → Type 0
NoneRose s g g' P = (Rose s.faults s.faults' → ⊥) → (Rose g g' → ⊥) → P

-- What follows of a status and of what was written, by what the source did; the sink's count of faults was g and is g'.
pub record Follows (words : List (String Global)) (s : Seen) (st : Status) (g g' : ℕ) (old new : Option (List ℕ)) :
    Type 0 where
  pub done_says : NoneRose s g g' (st ≡ status.Done → SaysWhenDone words s.contents old new)
  pub answer_says : NoneRose s g g' (SaysOfAnswer words s.contents st old new)
  -- A fault that is told has risen, and one that has risen is told. A count can't rise beyond 2^64 - 1,
  -- its last value. If the sink's stood there before the call, `Rose` holds of it whatever came, so
  -- `read_told` says nothing. It says nothing either if the source's own stood there, nor does
  -- `write_told` if the sink's did.
  pub read : st ≡ status.ReadFault → Rose s.faults s.faults'
  pub write : st ≡ status.WriteFault → Rose g g'
  pub write_told : g < g' → st ≡ status.WriteFault
  pub read_told : s.faults < s.faults' → (Rose g g' → ⊥) → (st ≡ status.ReadFault) ⊎ (st ≡ status.NoMemory)
  -- The words alone decide on `Usage`.
  pub usage : st ≡ status.Usage → AskForNothing words
  pub usage_told : AskForNothing words → (st ≡ status.Usage) ⊎ ((st ≡ status.WriteFault) ⊎ (st ≡ status.NoMemory))
  -- `Done` of a job with a file comes after the end of the input was seen.
  pub done : 0 < files_of words → st ≡ status.Done → s.ended ≡ true

-- it follows from how the call ended
abbrev pub EndsSay : Type 0
EndsSay = (words : List (String Global)) (s : Seen) (st : Status) (g g' : ℕ) (old new : Option (List ℕ)) →
    Ends (HasCause words s) st g g' old new → Follows words s st g g' old new

-- a call ended so, whatever files its readings are of
abbrev pub EndsOfAny : List (String Global) → Seen → (before after : List Reading) → Status → (g g' : ℕ) →
    Option (List ℕ) → Option (List ℕ) → Type 0
EndsOfAny words s before after st g g' old new = (files : Files) → AreOfSince files before after →
    Ends (HasCause words (record s { contents = files })) st g g' old new

-- The answer is that to the bytes that were handed over, whatever any file holds: where there are files that the readings
-- are of, some readings were made, and if nothing fails, the status and the text are those of the answer to them.
abbrev pub HandedFollows : Type 0
HandedFollows = (words : List (String Global)) (s : Seen) (before after : List Reading) (st : Status) (g g' : ℕ)
    (old new : Option (List ℕ)) → AreOfSince s.contents before after → EndsOfAny words s before after st g g' old new →
    (rs : List Reading) × (after ≡ rs ++ before) × NoneRose s g g' (st ≢ status.NoMemory →
    (text : List ℕ) × IsAnswer words (handed rs) st text × Appended old text new)

-- What follows of a call before which there was none, by its readings and what was taken.
pub record FirstFollows (words : List (String Global)) (readings : List Reading) (s : Seen) (st : Status) (g : ℕ)
    (taken : List ℕ) : Type 0 where
  -- After `ol run NAME`, `ol demand NAME` or `ol walk NAME` with the status `Done`, where what was
  -- read are these bytes of NAME, to their end, and they are a text of a term: a line was written
  -- first, and where this line is a text of a term, this is the normal form of the term that was read.
  pub in_short : st ≡ status.Done → (verb name bytes : List ℕ) → ArePlain words verb name →
      (verb ≡ codes "run") ⊎ ((verb ≡ codes "demand") ⊎ (verb ≡ codes "walk")) →
      readings ≡ reading name bytes true ∷ [] → (source : Named) → IsText bytes source → BeginsReduced source taken
  pub done_says : st ≡ status.Done → (files : Files) → AreOfSince files [] readings →
      SaysWhenDone words files (Some []) (Some taken)
  pub answer_says : s.faults' ≡ 0 → g ≡ 0 → (files : Files) → AreOfSince files [] readings →
      SaysOfAnswer words files st (Some []) (Some taken)
  pub handed_over : s.faults' ≡ 0 → g ≡ 0 → st ≢ status.NoMemory →
      (text : List ℕ) × IsAnswer words (handed readings) st text × (taken ≡ text)
  -- `Done` of a job with a file comes after the end of the input was seen, and no call failed.
  pub done : st ≡ status.Done → (s.faults' ≡ 0) × (g ≡ 0) × (0 < files_of words → s.ended ≡ true)

-- It follows where there are files that the readings are of.
abbrev pub FirstEndsSay : Type 0
FirstEndsSay = (words : List (String Global)) (readings : List Reading) (s : Seen) (st : Status) (g : ℕ)
    (taken : List ℕ) → s.faults ≡ 0 → AreOfSince s.contents [] readings →
    EndsOfAny words s [] readings st 0 g (Some []) (Some taken) → FirstFollows words readings s st g taken
