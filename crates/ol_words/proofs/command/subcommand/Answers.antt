use Rattle.std.proofs.Common.{◌∙◌, ◌||◌, sym, ap, ap₂, Bool, List, [], fold}
use Rattle.std.specs.Borrow.{Bor}
use Rattle.std.proofs.lemmas.List.{take_all}
use Rattle.clap.specs.Words.{App, new_app, with_rule}
use Rattle.ol_words.specs.Asked.{verb_row}
use Rattle.ol_words.specs.Command.{with_name_rule, with_setting_rule}
use Rattle.ol_words.specs.Texts.{Text}
use Rattle.ol_words.specs.Views.{texts}
use Rattle.ol_words.specs.declared.settings.Setting.{Setting}
use Rattle.ol_words.specs.declared.settings.Setting.TheVariants.{Translation}
use Rattle.ol_words.proofs.Folds.{fold_more, texts_more}
use Rattle.ol_words.proofs.command.subcommand.Goals as goal

pub loop-setting-preserved : goal.loop-setting-preserved
loop-setting-preserved c =
    let more = fold_more with_setting_rule (new_app (verb_row c.args.verb).word) c.settings-setting-items.result.now
    c.loop-setting.setting-index Translation c.loop-setting-test.true in (
      c.in_ok-command.ensures.shape c.option_or_flag.ensures.own
          ∙ ap₂ with_rule c.loop-setting.invariant.0 c.option_or_flag.ensures.rule ∙ sym more,
      c.in_ok-command.ensures.globals ∙ ap₂
          (λ (a b : Bool). a || b) c.loop-setting.invariant.1 c.option_or_flag.ensures.own,
    )

pub loop-name-init : goal.loop-name-init
loop-name-init c =
    let settings_in = λ (ss : List Setting). fold with_setting_rule (new_app (verb_row c.args.verb).word) ss in
    let all = take_all c.loop-setting.setting-index c.settings-setting-items.result.now c.loop-setting-test.false in (
      c.loop-setting.invariant.0 ∙ ap settings_in all ∙ ap settings_in c.settings-setting-items.ensures.settings,
      c.loop-setting.invariant.1,
    )

pub loop-name-preserved : goal.loop-name-preserved
loop-name-preserved c =
    let v = c.args.verb in
    let other : Bor Text = record { ref_ptr = (0, 0); now = [] } in
    let begun : App = fold with_setting_rule (new_app (verb_row v).word) (verb_row v).settings in
    let more = texts_more with_name_rule begun c.names-name-items.result.now c.loop-name.name-index
    other c.loop-name-test.true in (
      c.in_ok-command-2.ensures.shape c.positional.ensures.own
          ∙ ap₂ with_rule c.loop-name.invariant.0 c.positional.ensures.rule ∙ sym more,
      c.in_ok-command-2.ensures.globals ∙ ap₂ (λ (a b : Bool). a || b) c.loop-name.invariant.1 c.positional.ensures.own,
    )

pub returns-clause-app : goal.returns-clause-app
returns-clause-app c =
    let v = c.args.verb in
    let begun : App = fold with_setting_rule (new_app (verb_row v).word) (verb_row v).settings in
    let all = take_all c.loop-name.name-index c.names-name-items.result.now c.loop-name-test.false in
    c.loop-name.invariant.0 ∙ ap (λ (l : List (Bor Text)). fold with_name_rule begun (texts l)) all
    ∙ ap (λ (ns : List Text). fold with_name_rule begun ns) c.names-name-items.ensures.names

pub returns-clause-local : goal.returns-clause-local
returns-clause-local c = c.loop-name.invariant.1
