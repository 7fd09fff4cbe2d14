-- For which terms, and with how much fuel, a job is done that rewrites until no pair is active: `run` and its kin.
use Rattle.std.specs.Prelude.{◌≡◌, ℕ, ◌≤◌, ◌↔◌, true, List, Option, Some, None, String}
use Rattle.std.specs.declared.alloc.Global.{Global}
use Rattle.ol_term.specs.Trees.{Tree}
use Rattle.ol_term.specs.declared.translations.Translation.{Translation}
use Rattle.ol_law_completeness.specs.StrongNormalisation.{IsStronglyNormalising}
use Rattle.ol_words.specs.declared.jobs.Job.{Job}
use Rattle.ol_words.specs.declared.jobs.Job.TheVariants as jobs
use Rattle.ol_cli.specs.Jobs.{AskFor, Files, term_bytes, translation_in}
use Rattle.ol_cli.specs.Run.{RunEnds, start_net_of_term}
use Rattle.ol_cli.specs.TermFiles.{IsTermFile}
use Rattle.ol_cli.specs.declared.status.Status.{Status}
use Rattle.ol_cli.specs.declared.status.Status.TheVariants as status
use Rattle.ol_limits.specs.Limits.{plain_fuel}

-- the fuel of a job that rewrites one term until no pair is active
abbrev pub run_fuel : Job → Option ℕ
run_fuel (jobs.Run translation workers fuel heads name) = Some fuel
run_fuel (jobs.Trace translation workers fuel name) = Some fuel
run_fuel (jobs.Gen translation true k) = Some plain_fuel
run_fuel (jobs.Certify translation steps workers fuel heads name) = Some fuel
run_fuel _ = None

-- How such a job ends on a term. The job is done exactly if the one-thread run ends within the fuel, and else its fuel is
-- spent. There is a number of steps from which on each fuel is enough, and no less, exactly if the term is strongly
-- normalising. So where the fuel is spent, the term isn't, or its one-thread run is longer than the fuel.
pub record EndsExactly (translation : Translation) (t : Tree) (names : List (List ℕ)) (fuel : ℕ) (st : Status) :
    Type 0 where
  pub strong : IsStronglyNormalising t
      ↔ ((steps : ℕ) × ((fuel : ℕ) → RunEnds (start_net_of_term translation t names) fuel ↔ (steps ≤ fuel)))
  pub done : (st ≡ status.Done) ↔ RunEnds (start_net_of_term translation t names) fuel
  pub spent : (st ≡ status.Spent) ↔ (RunEnds (start_net_of_term translation t names) fuel → ⊥)

-- so does the job that the words ask for, where the bytes of its term are told, in the grammar and within the limits
abbrev pub JobEndsExactly : List (String Global) → Files → Status → Type 0
JobEndsExactly words files st = (job : Job) (fuel : ℕ) → AskFor words job → run_fuel job ≡ Some fuel →
    (bytes : List ℕ) (t : Tree) (names : List (List ℕ)) → term_bytes (files 0) job ≡ Some bytes →
    IsTermFile (translation_in job) bytes t names → EndsExactly (translation_in job) t names fuel st
