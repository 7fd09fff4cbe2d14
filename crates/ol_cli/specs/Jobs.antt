-- What the words ask for, the files of it, and more definitions by cases of commands than any other file. A new command
-- on one term file has its lines in the second part, under each definition whose last line isn't true of it.
use Rattle.std.specs.Prelude.{◌≡◌, ℕ, ◌≤◌, true, false, Bool, Option, None, Some, List, [], ◌∷◌, String, length, slice_get}
use Rattle.std.specs.Prelude.{slice_index_or}
use Rattle.std.specs.declared.alloc.Global.{Global}
use Rattle.std.specs.Option.{option_map_or}
use Rattle.ol_demand.specs.Demands.{HasMoreSteps}
use Rattle.ol_term.specs.declared.translations.Translation.{Translation}
use Rattle.ol_term.specs.Generated.{doubled_text}
use Rattle.ol_term.specs.Trees.{Tree}
use Rattle.ol_wire.specs.Closed.{ClosedTable}
use Rattle.ol_words.specs.Texts.{Text, texts_of}
use Rattle.ol_words.specs.declared.jobs.Job.{Job}
use Rattle.ol_words.specs.declared.jobs.Job.TheVariants as jobs
use Rattle.ol_words.specs.Jobs.{job_of}
use Rattle.ol_cli.specs.Certify.{Certifies}
use Rattle.ol_cli.specs.Demand.{DemandEnds, Demands}
use Rattle.ol_cli.specs.Net.{WritesNet}
use Rattle.ol_cli.specs.Run.{RunAnswer, RunEnds, RunHands, RunsOut, start_net_of_term}
use Rattle.ol_cli.specs.Shapes.{DoneOrSpent, OnlyDone, TellsFuel}
use Rattle.ol_cli.specs.Trace.{TraceHands, Traces}
use Rattle.ol_cli.specs.View.{Views}
use Rattle.ol_cli.specs.Walk.{Walks}
use Rattle.ol_cli.specs.declared.status.Status.{Status}
use Rattle.ol_limits.specs.Limits.{most_fuel, most_workers, plain_fuel}

-- the words ask for this
abbrev pub AskFor : List (String Global) → Job → Type 0
AskFor words job = job_of (texts_of words) ≡ Some job

-- the words ask for nothing
abbrev pub AskForNothing : List (String Global) → Type 0
AskForNothing words = job_of (texts_of words) ≡ None

-- ---- what commands are told apart by

-- the names of a job's files, in the order in which they are read
abbrev pub file_names : Job → List Text
file_names (jobs.Run translation workers fuel heads name) = name ∷ []
file_names (jobs.Walk translation edges heads name) = name ∷ []
file_names (jobs.View translation after name) = name ∷ []
file_names (jobs.Trace translation workers fuel name) = name ∷ []
file_names (jobs.Check translation term journal) = term ∷ journal ∷ []
file_names (jobs.Gen translation runs k) = []
file_names (jobs.Demand translation fuel heads name) = name ∷ []
file_names (jobs.Certify translation steps workers fuel heads name) = name ∷ []
file_names (jobs.Net translation from_term workers fuel name) = name ∷ []
file_names (jobs.Equal translation workers fuel heads first second) = first ∷ second ∷ []

-- the translation of a job
abbrev pub translation_in : Job → Translation
translation_in (jobs.Run translation workers fuel heads name) = translation
translation_in (jobs.Walk translation edges heads name) = translation
translation_in (jobs.View translation after name) = translation
translation_in (jobs.Trace translation workers fuel name) = translation
translation_in (jobs.Check translation term journal) = translation
translation_in (jobs.Gen translation runs k) = translation
translation_in (jobs.Demand translation fuel heads name) = translation
translation_in (jobs.Certify translation steps workers fuel heads name) = translation
translation_in (jobs.Net translation from_term workers fuel name) = translation
translation_in (jobs.Equal translation workers fuel heads first second) = translation

-- the numbers of a job are within the limits of their options (in private contracts alone)
abbrev pub IsWithinLimits : Job → Type 0
IsWithinLimits (jobs.Run translation workers fuel heads name) = (1 ≤ workers) × (workers ≤ most_workers)
    × (fuel ≤ most_fuel) × (1 ≤ heads)
IsWithinLimits (jobs.Walk translation edges heads name) = 1 ≤ heads
IsWithinLimits (jobs.View translation after name) = after ≤ most_fuel
IsWithinLimits (jobs.Trace translation workers fuel name) = (1 ≤ workers) × (workers ≤ most_workers) × (fuel ≤ most_fuel)
IsWithinLimits (jobs.Gen translation runs k) = k ≤ 10
IsWithinLimits (jobs.Demand translation fuel heads name) = (fuel ≤ most_fuel) × (1 ≤ heads)
IsWithinLimits (jobs.Certify translation steps workers fuel heads name) = (1 ≤ workers)
    × (workers ≤ most_workers) × (fuel ≤ most_fuel) × (1 ≤ heads)
IsWithinLimits (jobs.Net translation from_term workers fuel name) = (1 ≤ workers)
    × (workers ≤ most_workers) × (fuel ≤ most_fuel)
IsWithinLimits (jobs.Equal translation workers fuel heads first second) = (1 ≤ workers)
    × (workers ≤ most_workers) × (fuel ≤ most_fuel) × (1 ≤ heads)
IsWithinLimits _ = Unit {0}

-- The job is one on a single file with a term, and this is said of the name of the file, of the
-- translation, and of what is answered to the term. `net` is such a job with its flag alone.
abbrev pub OnTerm : Job →
    (Text → Translation → (Tree → List (List ℕ) → Status → List ℕ → Type 0) → Type 0) → Type 0
OnTerm (jobs.Run translation workers fuel heads name) Says =
    Says name translation (RunAnswer translation fuel heads)
OnTerm (jobs.Walk translation edges heads name) Says =
    Says name translation (λ t names. OnlyDone (Walks translation t names edges heads))
OnTerm (jobs.View translation after name) Says =
    Says name translation (λ t names. OnlyDone (Views translation t names after))
OnTerm (jobs.Trace translation workers fuel name) Says =
    Says name translation (λ t names. Traces translation t names fuel)
OnTerm (jobs.Demand translation fuel heads name) Says =
    Says name translation (λ t names. DoneOrSpent (Demands translation t names fuel heads)
    (TellsFuel (HasMoreSteps (start_net_of_term translation t names) heads fuel) fuel))
OnTerm (jobs.Certify translation steps workers fuel heads name) Says =
    Says name translation (λ t names. DoneOrSpent (Certifies translation t names steps fuel heads)
    (TellsFuel (RunsOut (start_net_of_term translation t names) fuel) fuel))
OnTerm (jobs.Net translation true workers fuel name) Says =
    Says name translation (λ t names. OnlyDone (WritesNet translation t names))
OnTerm _ Says = ⊥

-- What a job hands back of a term, with its text: `run` and `trace` their closed words, the others nothing.
abbrev pub TermHands : Job → Tree → List (List ℕ) → Status → List ℕ → Option ClosedTable → Type 0
TermHands (jobs.Run translation workers fuel heads name) t names st text closed =
    RunHands translation t names workers fuel heads st text closed
TermHands (jobs.Trace translation workers fuel name) t names st text closed =
    TraceHands translation t names workers fuel st text closed
TermHands _ t names st text closed = closed ≡ None

-- where the job rewrites a term until no pair is active, the one-thread run of this term ends
-- within the job's fuel; and where it rewrites in demand order, so does the demand run
abbrev pub EndsWithinFuel : Job → Tree → List (List ℕ) → Type 0
EndsWithinFuel (jobs.Run translation workers fuel heads name) t names = RunEnds (start_net_of_term translation t names) fuel
EndsWithinFuel (jobs.Trace translation workers fuel name) t names = RunEnds (start_net_of_term translation t names) fuel
EndsWithinFuel (jobs.Gen translation runs k) t names = RunEnds (start_net_of_term translation t names) plain_fuel
EndsWithinFuel (jobs.Demand translation fuel heads name) t names = DemandEnds translation t names fuel heads
EndsWithinFuel (jobs.Certify translation steps workers fuel heads name) t names =
    RunEnds (start_net_of_term translation t names) fuel
EndsWithinFuel _ t names = Unit {0}

-- ---- files

-- the name of the file that is read first; `gen` makes its term itself
abbrev pub file_name : Job → Text
file_name job = slice_index_or (file_names job) 0 []

-- the job has a file; `gen` makes its term itself
abbrev pub HasFile : Job → Type 0
HasFile (jobs.Gen translation runs k) = ⊥
HasFile _ = Unit {0}

-- how many files a job has, and how many the words name, which is none where they ask for nothing
abbrev pub count_of_files : Job → ℕ
count_of_files job = length (file_names job)

abbrev pub files_of : List (String Global) → ℕ
files_of words = option_map_or count_of_files (job_of (texts_of words)) 0

-- this holds of the name of each file of the job
abbrev pub EachName : Job → (Text → Type 0) → Type 0
EachName job P = (place : ℕ) (name : Text) → slice_get (file_names job) place ≡ Some name → P name

-- each name of a file that the words ask for is known
abbrev pub IsKnownTo : (Text → Bool) → List (String Global) → Type 0
IsKnownTo knows words = (job : Job) → AskFor words job → EachName job (λ name. knows name ≡ true)

-- the bytes that names have at each reading of a call, the first of which has the number 0
abbrev pub Files : Type 0
Files = ℕ → Text → Option (List ℕ)

-- the bytes of each file of a job are told, those of its second file at the second reading
abbrev pub AreTold : Files → Job → Type 0
AreTold files job = (place : ℕ) (name : Text) → slice_get (file_names job) place ≡ Some name →
    (bytes : List ℕ) × (files place name ≡ Some bytes)

-- the bytes of each file that the words ask for are
abbrev pub TellsFiles : Files → List (String Global) → Type 0
TellsFiles files words = (job : Job) → AskFor words job → AreTold files job

-- the bytes of a job's one term: those of its file, where they are told, or those that `gen` makes
abbrev pub term_bytes : (Text → Option (List ℕ)) → Job → Option (List ℕ)
term_bytes contents (jobs.Gen translation runs k) = Some (doubled_text k)
term_bytes contents (jobs.Net translation false workers fuel name) = None
term_bytes contents (jobs.Equal translation workers fuel heads first second) = None
term_bytes contents job = contents (slice_index_or (file_names job) 0 [])

-- these are the bytes of the term of the job that the words ask for, where they ask for one
abbrev pub TellsTerm : (Text → Option (List ℕ)) → List (String Global) → List ℕ → Type 0
TellsTerm contents words bytes = (job : Job) → AskFor words job → term_bytes contents job ≡ Some bytes
