-- What an answer says of the job's own term.
use Rattle.std.proofs.Common.{◌≡◌, ◌≢◌, ℕ, Bool, true, zero, suc, List, [], ◌∷◌, codes}
use Rattle.std.proofs.Common.{slice_get, length, Option, Some, String, Global, ◌<◌, ◌≤◌, ◌⊎◌, inl}
use Rattle.std.proofs.Common.{inr, sym, ap, ◌∙◌, subst, arith}
use Rattle.std.proofs.lemmas.Bool.{cases_lt}
use Rattle.std.proofs.lemmas.Option.{same_Some}
use Rattle.ol_io.specs.Outside.{Appended, Rose}
use Rattle.ol_term.specs.declared.translations.Translation.{Translation}
use Rattle.ol_term.specs.Trees.{Tree}
use Rattle.ol_term.specs.Generated.{doubled_text}
use Rattle.ol_parse.specs.Parsed.{IsFileOf}
use Rattle.ol_net.specs.Nets.{NamedNet}
use Rattle.ol_net.specs.Pairs.{IsComplete}
use Rattle.ol_rules.specs.declared.journal.NodeName.{NodeName}
use Rattle.ol_rules.specs.declared.journal.Entry.{Entry}
use Rattle.ol_rules.specs.Runs.{IsRun}
use Rattle.ol_law_completeness.specs.Least.{CanBeRead}
use Rattle.ol_law_completeness.proofs.TheLeast.{stopped_is_not_enough}
use Rattle.ol_law_meaning.proofs.FileNames.{file_names}
use Rattle.ol_words.specs.Texts.{Text}
use Rattle.ol_words.specs.declared.jobs.Job.{Job}
use Rattle.ol_words.specs.declared.jobs.Job.TheVariants as jobs
use Rattle.ol_cli.specs.declared.status.Status.{Status}
use Rattle.ol_cli.specs.declared.status.Status.TheVariants as status
use Rattle.ol_cli.specs.Jobs.{AskFor, Files, AreTold, TellsTerm, TellsFiles, term_bytes, translation_in}
use Rattle.ol_cli.specs.Run.{start_net_of_term}
use Rattle.ol_cli.specs.Cases.{DemandRunsOut, Cause, JobAnswer, of_file, made, TermAnswer, FileAnswer}
use Rattle.ol_cli.specs.Answers.{Ends, IsAnswer}
use Rattle.ol_cli.specs.TermFiles.{IsTermFile}
use Rattle.ol_cli.specs.Generate.{plain_run}
use Rattle.ol_cli.specs.Sources.{RunTells, JobTells, FuelTells, IsLast, TermTells, EveryRunTells}
use Rattle.ol_cli.proofs.DemandRuns.{demand_is_longer}
use Rattle.ol_cli.proofs.StartNet.{start_net_is_fit, is_less}
use Rattle.ol_cli.proofs.EveryRun.{every_run_prints, every_run_is_longer}
use Rattle.ol_cli.proofs.OneAnswer.{file_net, one_job, own_job, same_answer}
use Rattle.ol_cli.proofs.Exact.{ends_exact}

-- ---- answers to the job's own term

-- the answer of `run` to some bytes is that to their own term, and each complete run tells it
module _ (tr : Translation) (bytes : List ℕ) (workers fuel heads : ℕ) (name : Text) (t : Tree)
    (names : List (List ℕ)) (f : IsFileOf bytes t names) where
  own_answer : (st : Status) (text : List ℕ) (u : Tree) (others : List (List ℕ)) →
      IsTermFile tr bytes u others → TermAnswer (jobs.Run tr workers fuel heads name) u others st text →
      TermAnswer (jobs.Run tr workers fuel heads name) t names st text
  own_answer st text u others i = same_answer (jobs.Run tr workers fuel heads name) bytes t u names others f i.file st text

  runs_tell : (st : Status) (text : List ℕ) (old new : Option (List ℕ)) →
      FileAnswer (jobs.Run tr workers fuel heads name) bytes st text → Appended old text new →
      (journal : List Entry) (net : NamedNet NodeName) →
      IsRun (start_net_of_term tr t names) 0 journal net → IsComplete net →
      RunTells names fuel heads journal net st old new
  runs_tell status.Done text old new h written journal net ran complete = (
    text,
    every_run_prints tr t names fuel heads text (file_net tr bytes t names f)
        (own_answer status.Done text h.0 h.1 h.2 h.3) journal net ran complete,
    written,
  )
  runs_tell status.Spent text old new h written journal net ran complete =
      every_run_is_longer tr t names fuel (file_net tr bytes t names f)
      (own_answer status.Spent text h.0 h.1 h.2 h.3).0 journal net ran complete
  runs_tell _ text old new h written journal net ran complete = tt

-- so is that of `demand`, whose demand run is longer than the fuel where this is spent
module _ (tr : Translation) (bytes : List ℕ) (fuel heads : ℕ) (name : Text) (t : Tree)
    (names : List (List ℕ)) (f : IsFileOf bytes t names) where
  runs_out : (text : List ℕ) → FileAnswer (jobs.Demand tr fuel heads name) bytes status.Spent text →
      DemandRunsOut tr t names fuel heads
  runs_out text h =
      (same_answer (jobs.Demand tr fuel heads name) bytes t h.0 names h.1 f h.2.file status.Spent text h.3).0

  spent_tells : (st : Status) (text : List ℕ) → FileAnswer (jobs.Demand tr fuel heads name) bytes st text →
      FuelTells (jobs.Demand tr fuel heads name) t names st
  spent_tells status.Spent text h = λ most m ns told asked. is_less tr t names
      (file_names bytes t names f) most m ns told heads asked fuel (runs_out text h)
  spent_tells _ text h = tt

-- and so is each run to a net from which the places can be read
module _ (tr : Translation) (bytes : List ℕ) (fuel heads : ℕ) (name : Text) (t : Tree)
    (names : List (List ℕ)) (f : IsFileOf bytes t names) (journal : List Entry) (net : NamedNet NodeName)
    (ran : IsRun (start_net_of_term tr t names) 0 journal net) where
  -- a run from whose net the places can be read is longer than a front part of the demand run, which goes on
  serving_is_longer : DemandRunsOut tr t names fuel heads → CanBeRead net heads → fuel < length journal
  serving_is_longer (own, M, g, full) enough = by (cases_lt fuel (length journal))
    where
      by : (fuel < length journal) ⊎ (length journal ≤ fuel) → fuel < length journal
      by (inl b) = b
      by (inr b) =
          let N = start_net_of_term tr t names in
          let fit = (start_net_is_fit tr t names (file_names bytes t names f)).0 in
          absurd (stopped_is_not_enough N M net heads own journal fit.start fit.clear g ran (omega arith) enough)

  last_is_longer : DemandRunsOut tr t names fuel heads → IsComplete net ⊎ CanBeRead net heads → fuel < length journal
  last_is_longer own (inl complete) = demand_is_longer tr t names
      (file_net tr bytes t names f) fuel heads own journal net ran complete
  last_is_longer own (inr enough) = serving_is_longer own enough

  demand_tells : (st : Status) (text : List ℕ) →
      FileAnswer (jobs.Demand tr fuel heads name) bytes st text → IsComplete net ⊎ CanBeRead net heads →
      (old new : Option (List ℕ)) → JobTells (jobs.Demand tr fuel heads name) names journal net st old new
  demand_tells status.Spent text h last old new =
      last_is_longer (runs_out tr bytes fuel heads name t names f text h) last
  demand_tells _ text h last old new = tt

fuel_tells : (files : Files) (bytes : List ℕ) (st : Status) (text : List ℕ) (t : Tree)
    (names : List (List ℕ)) → IsFileOf bytes t names → (job : Job) →
    term_bytes (files 0) job ≡ Some bytes → JobAnswer files st text job →
    FuelTells job t names st
fuel_tells files bytes st text t names f (jobs.Demand tr fuel heads name) told
    (of_file {bytes = other} has e h) =
    let own = subst (λ b. FileAnswer (jobs.Demand tr fuel heads name) b st text)
    (same_Some other bytes (sym e ∙ told)) h in
    spent_tells tr bytes fuel heads name t names f st text own
fuel_tells files bytes st text t names f _ told a = tt

module _ (files : Files) (bytes : List ℕ) (st : Status) (text : List ℕ) (old new : Option (List ℕ))
    (written : Appended old text new) (t : Tree) (names : List (List ℕ)) (f : IsFileOf bytes t names)
    (journal : List Entry) (net : NamedNet NodeName) where
  answer_tells : (job : Job) → IsLast job net →
      IsRun (start_net_of_term (translation_in job) t names) 0 journal net →
      term_bytes (files 0) job ≡ Some bytes → JobAnswer files st text job →
      JobTells job names journal net st old new
  answer_tells (jobs.Run tr workers fuel heads name) last ran told (of_file {bytes = other} has e h) =
      let own = subst (λ b. FileAnswer (jobs.Run tr workers fuel heads name) b st text)
      (same_Some other bytes (sym e ∙ told)) h in
      runs_tell tr bytes workers fuel heads name t names f st text old new own written journal net ran last
  answer_tells (jobs.Gen tr true k) last ran told (made m) =
      let own = subst (λ b. FileAnswer (plain_run tr) b st text) (same_Some (doubled_text k) bytes told) m in
      runs_tell tr bytes 4 200000 4096 (codes "-") t names f st text old new own written journal net ran last
  answer_tells (jobs.Gen tr true k) last ran told (of_file has e h) = absurd has
  answer_tells (jobs.Demand tr fuel heads name) last ran told (of_file {bytes = other} has e h) =
      let own = subst (λ b. FileAnswer (jobs.Demand tr fuel heads name) b st text)
      (same_Some other bytes (sym e ∙ told)) h in
      demand_tells tr bytes fuel heads name t names f journal net ran st text own last old new
  answer_tells _ last ran told a = tt

pub answer_runs : (words : List (String Global)) (files : Files) (bytes : List ℕ) →
    TellsTerm (files 0) words bytes → (st : Status) (text : List ℕ) (old new : Option (List ℕ)) →
    IsAnswer words files st text → Appended old text new → EveryRunTells words bytes st old new
answer_runs words files bytes tells st text old new a written job t names j f =
    let told = tells job j in
    let own = own_job words files job j st text a in (
      fuel_tells files bytes st text t names f job told own,
      λ journal net ran last. answer_tells files bytes st text old new written t names f journal net
          job last ran told own,
    )

-- ---- the call

-- a job with one file, or none, whose bytes are told
pub one_name : (contents : Files) (bytes : List ℕ) (name : Text) → contents 0 name ≡ Some bytes →
    (place : ℕ) (n : Text) → slice_get (name ∷ []) place ≡ Some n → (b : List ℕ) × (contents place n ≡ Some b)
one_name contents bytes name told zero n is = let same : name ≡ n = cc in (bytes, ap (contents 0) (sym same) ∙ told)
one_name contents bytes name told (suc k) n is = absurd (cc)

-- what the call ended with is told by each complete run
pub ends_run : (words : List (String Global)) (f f' given : ℕ) (contents : Files) (ended : Bool) →
    (Rose f f' → ⊥) → (bytes : List ℕ) → TellsTerm (contents 0) words bytes →
    (r : Status) (g g' : ℕ) (old new : Option (List ℕ)) → (Rose g g' → ⊥) → r ≢ status.NoMemory →
    Ends (Cause words (record {
      faults = f;
      faults' = f';
      contents = contents;
      given = given;
      ended = ended;
    })) r g g' old new → EveryRunTells words bytes r old new
ends_run words f f' given contents ended quiet bytes tells r g g' old new calm has e job t names j
    file = go job j
  where
    call : (job : Job) → AskFor words job → AreTold contents job →
        TermTells job t names r old new
    call here j told =
        let all : TellsFiles contents words = λ job j'.
        subst (AreTold contents) (one_job words here job j j') told in
        let x = ends_exact words f f' given contents ended quiet all r g g' old new calm has e in
        answer_runs words contents bytes tells r x.0 old new x.1 x.2 here t names j file

    no_name : (tr : Translation) (k : ℕ) → AreTold contents (jobs.Gen tr true k)
    no_name tr k zero n is = absurd (cc)
    no_name tr k (suc place) n is = absurd (cc)

    go : (job : Job) → AskFor words job → TermTells job t names r old new
    go (jobs.Run tr workers fuel heads name) j = call (jobs.Run tr workers fuel heads name) j
        (one_name contents bytes name (tells (jobs.Run tr workers fuel heads name) j))
    go (jobs.Gen tr true k) j = call (jobs.Gen tr true k) j (no_name tr k)
    go (jobs.Demand tr fuel heads name) j = call (jobs.Demand tr fuel heads name) j
        (one_name contents bytes name (tells (jobs.Demand tr fuel heads name) j))
    go _ j = (tt, λ journal net ran last. tt)
