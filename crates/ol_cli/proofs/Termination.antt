-- A job that rewrites until no pair is active is done exactly where the term is strongly normalising, with enough fuel.
use Rattle.std.proofs.Common.{◌≡◌, ℕ, ◌≤◌, ◌↔◌, inl, inr, true, List, length, Option, Some, String, Global}
use Rattle.std.proofs.Common.{sym, ◌∙◌, subst, arith}
use Rattle.std.proofs.lemmas.Option.{same_Some}
use Rattle.ol_diamond.proofs.OneThreadRuns.{runs_agree}
use Rattle.ol_io.specs.Outside.{Appended}
use Rattle.ol_law_completeness.proofs.OnlyStrong.{one_thread_ends}
use Rattle.ol_law_completeness.specs.StrongNormalisation.{IsStronglyNormalising}
use Rattle.ol_net.specs.Nets.{IsNet}
use Rattle.ol_rules.proofs.LeadRuns.{as_run}
use Rattle.ol_rules.proofs.Relation.{same_refl}
use Rattle.ol_term.specs.Generated.{doubled_text}
use Rattle.ol_term.specs.Trees.{Tree}
use Rattle.ol_term.specs.declared.translations.Translation.{Translation}
use Rattle.ol_translate.proofs.Whole.{translation_net}
use Rattle.ol_translate.specs.Names.{HasNames}
use Rattle.ol_translate.specs.Translation.{translation_of}
use Rattle.ol_words.specs.declared.jobs.Job.{Job}
use Rattle.ol_words.specs.declared.jobs.Job.TheVariants as jobs
use Rattle.ol_cli.proofs.AnyRun.{any_run_ends}
use Rattle.ol_cli.proofs.OneAnswer.{of_file_answer, one_job, own_job, own_term}
use Rattle.ol_cli.proofs.OnePrint.{ends_or_runs_out, start_is_net, start_is_named}
use Rattle.ol_cli.proofs.Sourced.{one_name}
use Rattle.ol_cli.proofs.Statuses.{settled}
use Rattle.ol_cli.proofs.TermLaws.{laws, trace_ends, trace_runs_out}
use Rattle.ol_cli.specs.Answers.{IsAnswer}
use Rattle.ol_cli.specs.Cases.{FileAnswer, JobAnswer, TermAnswer, of_file, made}
use Rattle.ol_cli.specs.Generate.{plain_run}
use Rattle.ol_cli.specs.Jobs.{AreTold, Files, TellsFiles, term_bytes, translation_in}
use Rattle.ol_cli.specs.Run.{RunEnds, RunsOut, start_net_of_term}
use Rattle.ol_cli.specs.TermFiles.{IsTermFile}
use Rattle.ol_cli.specs.Termination.{EndsExactly, JobEndsExactly, run_fuel}
use Rattle.ol_cli.specs.declared.status.Status.{Status}
use Rattle.ol_cli.specs.declared.status.Status.TheVariants.{Done, Spent}
use Rattle.ol_law_meaning.proofs.FileNames.{file_names}

-- ---- a term

module _ (tr : Translation) (t : Tree) (names : List (List ℕ)) (h : HasNames t (length names)) where
  is_net : IsNet (translation_of tr t (length names))
  is_net = translation_net tr t (length names) h

  -- the number of steps from which on each fuel is enough, and no less
  abbrev Steps : Type 0
  Steps = (steps : ℕ) × ((fuel : ℕ) → RunEnds (start_net_of_term tr t names) fuel ↔ (steps ≤ fuel))

  steps_of_run : (fuel : ℕ) → RunEnds (start_net_of_term tr t names) fuel → Steps
  steps_of_run fuel e =
      let N = start_net_of_term tr t names in
      let run = as_run N e.net 0 e.journal e.run.leads in (
        length e.journal,
        λ other. (
          (λ x.
              let a = runs_agree N (start_is_net tr t names is_net) (start_is_named tr t names is_net) x.net e.net
              x.journal e.journal (as_run N x.net 0 x.journal x.run.leads) run x.complete e.complete in
              let s = a.steps in
              let b = x.run.within in
              omega (arith, s, b)),
          (λ b. any_run_ends tr t names other is_net e.journal e.net run e.complete b),
        ),
      )

  strong : IsStronglyNormalising t ↔ Steps
  strong =
      let N = translation_of tr t (length names) in
      let ends = one_thread_ends tr t (length names) h N is_net (same_refl N) in (
        (λ s.
            let e = ends.0 s in
            steps_of_run e.0 (record { journal = e.1; net = e.2; run = e.3; complete = e.4 })),
        (λ s.
            let e = (s.1 s.0).1 (omega arith) in
            ends.1 (s.0, e.journal, e.net, e.run, e.complete)),
      )

  -- the run ended within the fuel, or is longer
  pub data Ended (fuel : ℕ) (st : Status) : Type 0 where
    ended : st ≡ Done → RunEnds (start_net_of_term tr t names) fuel → Ended fuel st
    ran_out : st ≡ Spent → RunsOut (start_net_of_term tr t names) fuel → Ended fuel st

  never_both : {st : Status} → st ≡ Done → st ≡ Spent → ⊥
  never_both d s = let e : Done ≡ Spent = sym d ∙ s in absurd (cc)

  pub ends_exactly : (fuel : ℕ) (st : Status) → Ended fuel st → EndsExactly tr t names fuel st
  ends_exactly fuel st (ended d e) = record {
    strong = strong;
    done = ((λ x. e), (λ x. d));
    spent = ((λ s x. never_both d s), (λ x. absurd (x e)));
  }
  ends_exactly fuel st (ran_out s o) = record {
    strong = strong;
    done = ((λ d. absurd (never_both d s)), (λ e. absurd (ends_or_runs_out tr t names is_net fuel o e)));
    spent = ((λ x e. ends_or_runs_out tr t names is_net fuel o e), (λ x. s));
  }

-- ---- each command

module _ (t : Tree) (names : List (List ℕ)) (fuel : ℕ) where
  done_ends : (job : Job) → run_fuel job ≡ Some fuel → IsNet (translation_of (translation_in job) t (length names)) →
      (x : List ℕ) → TermAnswer job t names Done x → RunEnds (start_net_of_term (translation_in job) t names) fuel
  done_ends (jobs.Run tr w f heads name) e n x a = subst (RunEnds (start_net_of_term tr t names)) (same_Some f fuel e) a.ends
  done_ends (jobs.Trace tr w f name) e n x a =
      subst (RunEnds (start_net_of_term tr t names)) (same_Some f fuel e) (trace_ends tr t names f n x a)
  done_ends (jobs.Certify tr b w f heads name) e n x a =
      subst (RunEnds (start_net_of_term tr t names)) (same_Some f fuel e) a.last.ends
  done_ends (jobs.Gen tr true k) e n x a = absurd a
  done_ends _ e n x a = absurd (cc)

  spent_runs_out : (job : Job) → run_fuel job ≡ Some fuel → IsNet (translation_of (translation_in job) t (length names)) →
      (x : List ℕ) → TermAnswer job t names Spent x → RunsOut (start_net_of_term (translation_in job) t names) fuel
  spent_runs_out (jobs.Run tr w f heads name) e n x a = subst (RunsOut (start_net_of_term tr t names)) (same_Some f fuel e) a.0
  spent_runs_out (jobs.Trace tr w f name) e n x a =
      subst (RunsOut (start_net_of_term tr t names)) (same_Some f fuel e) (trace_runs_out tr t names f n x a)
  spent_runs_out (jobs.Certify tr b w f heads name) e n x a =
      subst (RunsOut (start_net_of_term tr t names)) (same_Some f fuel e) a.0
  spent_runs_out (jobs.Gen tr true k) e n x a = absurd a
  spent_runs_out _ e n x a = absurd (cc)

-- ---- a file

module _ (job : Job) (fuel : ℕ) (e : run_fuel job ≡ Some fuel) (bytes : List ℕ) (t : Tree) (names : List (List ℕ))
    (i : IsTermFile (translation_in job) bytes t names) where
  has : HasNames t (length names)
  has = file_names bytes t names i.file

  term_ends : (st : Status) (x : List ℕ) → TermAnswer job t names st x → Ended (translation_in job) t names has fuel st
  term_ends st x a =
      let n = translation_net (translation_in job) t (length names) has in
      elim (settled st ((laws job t names).status st x a)) [
        | inl d ↦ ended d (done_ends t names fuel job e n x (subst (λ st. TermAnswer job t names st x) d a))
        | inr s ↦ ran_out s (spent_runs_out t names fuel job e n x (subst (λ st. TermAnswer job t names st x) s a))
      ]

  pub file_ends : (st : Status) (x : List ℕ) → FileAnswer job bytes st x → EndsExactly (translation_in job) t names fuel st
  file_ends st x a =
      ends_exactly (translation_in job) t names has fuel st
      (term_ends st x (own_term job bytes t names i st x (of_file_answer job bytes st x a)))

-- ---- a job

module _ (files : Files) (st : Status) (x : List ℕ) (fuel : ℕ) (bytes : List ℕ) (t : Tree) (names : List (List ℕ)) where
  job_ends : (job : Job) → run_fuel job ≡ Some fuel → term_bytes (files 0) job ≡ Some bytes →
      IsTermFile (translation_in job) bytes t names → JobAnswer files st x job →
      EndsExactly (translation_in job) t names fuel st
  job_ends (jobs.Run tr w f heads name) e told i (of_file {bytes = other} has k a) =
      file_ends (jobs.Run tr w f heads name) fuel e bytes t names i st x
      (subst (λ b. FileAnswer (jobs.Run tr w f heads name) b st x) (same_Some other bytes (sym k ∙ told)) a)
  job_ends (jobs.Trace tr w f name) e told i (of_file {bytes = other} has k a) =
      file_ends (jobs.Trace tr w f name) fuel e bytes t names i st x
      (subst (λ b. FileAnswer (jobs.Trace tr w f name) b st x) (same_Some other bytes (sym k ∙ told)) a)
  job_ends (jobs.Certify tr b w f heads name) e told i (of_file {bytes = other} has k a) =
      file_ends (jobs.Certify tr b w f heads name) fuel e bytes t names i st x
      (subst (λ c. FileAnswer (jobs.Certify tr b w f heads name) c st x) (same_Some other bytes (sym k ∙ told)) a)
  job_ends (jobs.Gen tr true k) e told i (made m) =
      file_ends (plain_run tr) fuel e bytes t names i st x
      (subst (λ b. FileAnswer (plain_run tr) b st x) (same_Some (doubled_text k) bytes told) m)
  job_ends (jobs.Gen tr true k) e told i (of_file has q a) = absurd has
  job_ends _ e told i a = absurd (cc)

-- the bytes of its file are told
job_told : (files : Files) (fuel : ℕ) (bytes : List ℕ) (job : Job) → run_fuel job ≡ Some fuel →
    term_bytes (files 0) job ≡ Some bytes → AreTold files job
job_told files fuel bytes (jobs.Run tr w f heads name) e told = one_name files bytes name told
job_told files fuel bytes (jobs.Trace tr w f name) e told = one_name files bytes name told
job_told files fuel bytes (jobs.Certify tr b w f heads name) e told = one_name files bytes name told
job_told files fuel bytes (jobs.Gen tr true k) e told = λ place name is. absurd (cc)
job_told files fuel bytes _ e told = absurd (cc)

pub answer_ends : (words : List (String Global)) (files : Files) (st : Status) (old new : Option (List ℕ)) →
    (TellsFiles files words → (text : List ℕ) × IsAnswer words files st text × Appended old text new) →
    JobEndsExactly words files st
answer_ends words files st old new exact job fuel j e bytes t names told i =
    let own = job_told files fuel bytes job e told in
    let x = exact (λ other k. subst (AreTold files) (one_job words job other j k) own) in
    job_ends files st x.0 fuel bytes t names job e told i (own_job words files job j st x.0 x.1)
