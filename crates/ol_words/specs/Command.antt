-- Private: the command line as clap is told of it.
use Rattle.std.specs.Prelude.{Some, true, codes, if◌then◌else◌, List, [], ◌∷◌, fold}
use Rattle.clap.specs.Walk.{Rule}
use Rattle.clap.specs.Words.{App, new_app, new_rule, with_rule, with_subcommand}
use Rattle.clap.specs.declared.builder.action.ArgAction.TheVariants.{Set, SetTrue}
use Rattle.ol_words.specs.Texts.{Text}
use Rattle.ol_words.specs.Asked.{all_verbs, verb_row}
use Rattle.ol_words.specs.declared.settings.Setting.{Setting}
use Rattle.ol_words.specs.declared.verbs.Verb.{Verb}
use Rattle.ol_words.specs.declared.verbs.Verb.TheVariants as verbs
use Rattle.ol_words.specs.Settings.{setting_row}

-- an option with a value
abbrev pub option_rule : Text → Rule
option_rule name = record (new_rule name) { long = Some name; action = Some Set }

-- an option without a value
abbrev pub flag_rule : Text → Rule
flag_rule name = record (new_rule name) { long = Some name; action = Some SetTrue }

-- a positional, as the name of a file
abbrev pub name_rule : Text → Rule
name_rule name = record (new_rule name) { action = Some Set }

-- the rule of a setting
abbrev pub setting_rule : Setting → Rule
setting_rule s = if (setting_row s).is_flag then flag_rule (setting_row s).option else option_rule (setting_row s).option

abbrev pub with_setting_rule : App → Setting → App
with_setting_rule app s = with_rule app (setting_rule s)

abbrev pub with_name_rule : App → Text → App
with_name_rule app name = with_rule app (name_rule name)

-- what the names behind a verb are called
abbrev pub ids_of : Verb → List Text
ids_of verbs.Check = codes "term" ∷ codes "journal" ∷ []
ids_of verbs.Gen = codes "number" ∷ []
ids_of verbs.Equal = codes "first" ∷ codes "second" ∷ []
ids_of _ = codes "name" ∷ []

-- the subcommand of a verb: its settings, and then its names
abbrev pub sub_app : Verb → App
sub_app v = fold with_name_rule (fold with_setting_rule (new_app (verb_row v).word) (verb_row v).settings) (ids_of v)

-- the command above, without help and version
abbrev pub quiet_app : App
quiet_app = let top = new_app (codes "ol") in record top {
  top = record top.top {
    disable_help_flag = true;
    disable_version_flag = true;
    disable_help_subcommand = true;
  };
}

abbrev pub with_verb : App → Verb → App
with_verb app v = with_subcommand app (sub_app v).top

-- the command line: a subcommand for each verb
abbrev pub app : App
app = fold with_verb quiet_app all_verbs
