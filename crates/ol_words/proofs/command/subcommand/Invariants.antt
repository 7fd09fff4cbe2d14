use Rattle.std.proofs.Common.{◌≡◌, take, fold, false}
use Rattle.clap.specs.Words.{app_of, new_app}
use Rattle.clap.specs.declared.builder.command.Command.TheViews.{out-Command}
use Rattle.ol_words.specs.Asked.{verb_row}
use Rattle.ol_words.specs.Command.{with_name_rule, with_setting_rule}
use Rattle.ol_words.specs.Views.{texts}
use Rattle.ol_words.proofs.command.subcommand.Given as goal

-- the settings so far
abbrev pub invariant-loop-setting : goal.invariant-loop-setting
invariant-loop-setting l = (app_of l.command ≡ fold with_setting_rule
    (new_app (verb_row l.fn.verb).word) (take l.setting-index l.setting-items))
    × ((out-Command l.command).has_globals ≡ false)

-- all settings, and the names so far
abbrev pub invariant-loop-name : goal.invariant-loop-name
invariant-loop-name l = (app_of l.command ≡ fold with_name_rule
    (fold with_setting_rule (new_app (verb_row l.fn.verb).word) (verb_row l.fn.verb).settings)
    (texts (take l.name-index l.name-items)))
    × ((out-Command l.command).has_globals ≡ false)
