use Rattle.std.proofs.Common.{◌≡◌, ◌∙◌, ap, ap₂, rules}
use Rattle.std.proofs.lemmas.Result.{IfErr-weaker, IfOk-weaker}
use Rattle.clap.specs.Words.{app_of, is_simple, subcommand_of, takes}
use Rattle.ol_words.specs.Command.{app}
use Rattle.ol_words.specs.Texts.{texts_of}
use Rattle.ol_words.proofs.Subcommands.{is_simple_app}
use Rattle.ol_words.proofs.command.matches_of.Goals as goal

pub returns-clause-rows : goal.returns-clause-rows
returns-clause-rows c =
    let app_is : app_of c.in_ok-command.command ≡ app = c.in_ok-command.ensures.app in
    let words_are : texts_of c.as_slice.result.now ≡ texts_of c.args.words.now.items = search rules in
    let parse = c.try_get_matches_from in
    IfOk-weaker parse.result _ _ (λ m h. (h (ap is_simple app_is ∙ is_simple_app)).1
    ∙ ap₂ subcommand_of app_is words_are) parse.ensures.matches

pub returns-clause-taken : goal.returns-clause-taken
returns-clause-taken c =
    let app_is : app_of c.in_ok-command.command ≡ app = c.in_ok-command.ensures.app in
    let words_are : texts_of c.as_slice.result.now ≡ texts_of c.args.words.now.items = search rules in
    let parse = c.try_get_matches_from in
    IfErr-weaker parse.result _ _ (λ e h taken. h (ap₂ takes app_is words_are ∙ taken)) parse.ensures.passes
