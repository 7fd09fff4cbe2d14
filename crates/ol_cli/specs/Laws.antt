-- The laws of answers.
use Rattle.std.specs.Prelude.{◌≡◌, ℕ, false, List, ◌++◌, length, option_map, String}
use Rattle.std.specs.declared.alloc.Global.{Global}
use Rattle.ol_term.specs.declared.translations.Translation.{Translation}
use Rattle.ol_term.specs.Trees.{Tree}
use Rattle.ol_net.specs.Graph.{Graph}
use Rattle.ol_net.specs.Nets.{IsNet}
use Rattle.ol_net.specs.Numbered.{net_of}
use Rattle.ol_rules.specs.Counting.{counts_of}
use Rattle.ol_rules.specs.declared.journal.Counts.{Counts}
use Rattle.ol_readback.specs.Heads.{live}
use Rattle.ol_translate.specs.Translation.{translation_of}
use Rattle.ol_cli.specs.declared.status.Status.{Status}
use Rattle.ol_cli.specs.declared.status.Status.TheVariants as status
use Rattle.ol_words.specs.Texts.{texts_of}
use Rattle.ol_words.specs.declared.jobs.Job.{Job}
use Rattle.ol_words.specs.declared.jobs.Job.TheVariants as jobs
use Rattle.ol_words.specs.Jobs.{job_of}
use Rattle.ol_cli.specs.Jobs.{AskFor, AskForNothing, Files}
use Rattle.ol_cli.specs.Texts.{counts_text}
use Rattle.ol_cli.specs.Answers.{AnswerTo, IsAnswer}
use Rattle.ol_cli.specs.Net.{NetRunEnds}
use Rattle.ol_cli.specs.Run.{Prints}
use Rattle.ol_cli.specs.Walk.{Walks}
use Rattle.ol_cli.specs.Demand.{Demands}

-- two texts begin with the same nine lines of counts
abbrev pub HaveOneCounts : List ℕ → List ℕ → Type 0
HaveOneCounts text text' = (counts : Counts) × (stuck : ℕ) × (rest : List ℕ) × (rest' : List ℕ)
    × (text ≡ counts_text counts stuck ++ rest) × (text' ≡ counts_text counts stuck ++ rest')

-- What two texts with which a job is answered have in common, by its status. They are one text. But
-- what `trace` writes of a run is the journal of any of many; and what `net` writes of a net that
-- was rewritten begins with the same nine lines, while the stuck pairs and the net that follow them
-- are those of any of many runs.
abbrev pub HaveOneText : Job → Status → List ℕ → List ℕ → Type 0
HaveOneText (jobs.Trace translation workers fuel name) status.Done text text' = Unit {0}
HaveOneText (jobs.Trace translation workers fuel name) status.Spent text text' = Unit {0}
HaveOneText (jobs.Net translation false workers fuel name) status.Done text text' = HaveOneCounts text text'
HaveOneText _ _ text text' = text ≡ text'

-- the job with so many workers, where it has any
abbrev pub with_workers : ℕ → Job → Job
with_workers n (jobs.Run translation workers fuel heads name) = jobs.Run translation n fuel heads name
with_workers n (jobs.Trace translation workers fuel name) = jobs.Trace translation n fuel name
with_workers n (jobs.Certify translation steps workers fuel heads name) =
    jobs.Certify translation steps n fuel heads name
with_workers n (jobs.Net translation from_term workers fuel name) = jobs.Net translation from_term n fuel name
with_workers n (jobs.Equal translation workers fuel heads first second) =
    jobs.Equal translation n fuel heads first second
with_workers n job = job

-- The words ask for one job, but for the number of its workers, or both for nothing.
abbrev pub AskAlike : (words words' : List (String Global)) → Type 0
AskAlike words words' = option_map (with_workers 1) (job_of (texts_of words))
    ≡ option_map (with_workers 1) (job_of (texts_of words'))

-- Words that ask for one job, but for the number of its workers, have with the same files one answer:
-- one status, and one text as far as the job tells one.
abbrev pub OneAnswer : Type 0
OneAnswer = (words words' : List (String Global)) → AskAlike words words' →
    (files : Files) (status status' : Status) (text text' : List ℕ) →
    IsAnswer words files status text → IsAnswer words' files status' text' →
    (status ≡ status') × (AskForNothing words → text ≡ text')
    × ((job : Job) → AskFor words job → HaveOneText job status text text')

-- The number of workers isn't seen: an answer to a job is one with any other number of workers.
abbrev pub WorkersAreNotSeen : Type 0
WorkersAreNotSeen = (n : ℕ) (job : Job) (files : Files) (status : Status) (text : List ℕ) →
    AnswerTo files job status text → AnswerTo files (with_workers n job) status text

-- However the answer to a term is come by, one tree is printed, one term and one number of stuck pairs.
abbrev pub OneTreeIsPrinted : Type 0
OneTreeIsPrinted = (translation : Translation) (t : Tree) (names : List (List ℕ)) (fuel heads : ℕ)
    (text text' : List ℕ) → IsNet (translation_of translation t (length names)) →
    (p : Prints translation t names fuel heads text) (p' : Prints translation t names fuel heads text') →
    (p.shows.tree ≡ p'.shows.tree) × (p.shows.term ≡ p'.shows.term) × (p.shows.stuck ≡ p'.shows.stuck)

-- and one tree and one term of the untouched translation
abbrev pub OneTreeIsWalked : Type 0
OneTreeIsWalked = (translation : Translation) (t : Tree) (names : List (List ℕ)) (edges heads : ℕ)
    (text text' : List ℕ) → IsNet (translation_of translation t (length names)) →
    (w : Walks translation t names edges heads text) (w' : Walks translation t names edges heads text') →
    (w.tree ≡ w'.tree) × (w.term ≡ w'.term)

-- and one tree, one term, one journal and one number of stuck pairs of its demand run
abbrev pub OneTreeIsDemanded : Type 0
OneTreeIsDemanded = (translation : Translation) (t : Tree) (names : List (List ℕ)) (fuel heads : ℕ)
    (text text' : List ℕ) → IsNet (translation_of translation t (length names)) →
    (d : Demands translation t names fuel heads text) (d' : Demands translation t names fuel heads text') →
    (d.ends.tree ≡ d'.ends.tree) × (d.term ≡ d'.term) × (d.ends.journal ≡ d'.ends.journal) × (d.stuck ≡ d'.stuck)

-- Of the net of a file, however its run is come by, the interactions of each rule, the stuck pairs
-- and the nodes that are left are as many; so the counts that `net` writes are one, and whether the
-- net is printed.
abbrev pub OneNetIsLeft : Type 0
OneNetIsLeft = (net : Graph) (fuel : ℕ) → IsNet (net_of net) → (e e' : NetRunEnds net fuel) →
    (counts_of e.ends.journal ≡ counts_of e'.ends.journal) × (e.stuck ≡ e'.stuck)
    × (live e.ends.net ≡ live e'.ends.net)
