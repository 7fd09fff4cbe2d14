use Rattle.std.proofs.Common.{◌≡◌, ◌∙◌, sym, rules, None, Some}
use Rattle.std.proofs.lemmas.Result.{IfOk-weaker}
use Rattle.clap.specs.Words.{found_of, rows_of, subcommand_rows_of}
use Rattle.ol_words.specs.Texts.{texts_of}
use Rattle.ol_words.specs.Once.{agreed_verb}
use Rattle.ol_words.proofs.Agreed.{by_values, job_found, none_found, not_agreed, not_refused}
use Rattle.ol_words.proofs.reading.job.Goals as goal

pub returns-in_default-clause-refused : goal.returns-in_default-clause-refused
returns-in_default-clause-refused c =
    let none : agreed_verb (texts_of c.args.words.now.items) ≡ None = sym c.in_ok-verb.ensures
    ∙ c.in_default.is in
    λ e. not_agreed (texts_of c.args.words.now.items) none

pub returns-in_err-matches-clause-refused : goal.returns-in_err-matches-clause-refused
returns-in_err-matches-clause-refused c =
    let agreed : agreed_verb (texts_of c.args.words.now.items) ≡ Some c.in-Some.verb = search rules in
    λ e. absurd (not_refused (texts_of c.args.words.now.items)
    c.in-Some.verb _ c.from_residual-in_err-matches.result agreed c.in_err-matches.ensures.taken
    c.from_residual-in_err-matches.ensures.1 e)

pub returns-in_default-subcommand-clause-refused : goal.returns-in_default-subcommand-clause-refused
returns-in_default-subcommand-clause-refused c =
    let agreed : agreed_verb (texts_of c.args.words.now.items) ≡ Some c.in-Some.verb = search rules in
    λ e. absurd (none_found (texts_of c.args.words.now.items) c.in-Some.verb
    (subcommand_rows_of c.in_ok-matches.matches) agreed c.in_ok-matches.ensures.rows
    c.in_default-subcommand.ensures.rows)

pub returns-clause-job : goal.returns-clause-job
returns-clause-job c =
    let agreed : agreed_verb (texts_of c.args.words.now.items) ≡ Some c.in-Some.verb = search rules in
    let found = job_found (texts_of c.args.words.now.items) c.in-Some.verb
    (subcommand_rows_of c.in_ok-matches.matches)
    (rows_of (found_of c.in-Some-subcommand.found.now)) agreed c.in_ok-matches.ensures.rows
    c.in-Some-subcommand.ensures.rows in
    IfOk-weaker c.job_by.result _ _ (λ j h. found
    ∙ by_values c.in-Some.verb (found_of c.in-Some-subcommand.found.now) ∙ h) c.job_by.ensures.job

pub returns-clause-refused : goal.returns-clause-refused
returns-clause-refused c =
    let agreed : agreed_verb (texts_of c.args.words.now.items) ≡ Some c.in-Some.verb = search rules in
    let found = job_found (texts_of c.args.words.now.items) c.in-Some.verb
    (subcommand_rows_of c.in_ok-matches.matches)
    (rows_of (found_of c.in-Some-subcommand.found.now)) agreed c.in_ok-matches.ensures.rows
    c.in-Some-subcommand.ensures.rows in
    λ e. found ∙ by_values c.in-Some.verb (found_of c.in-Some-subcommand.found.now)
    ∙ c.job_by.ensures.refused e
