use Rattle.std.proofs.Common.{◌∙◌, ap, true}
use Rattle.clap.specs.Words.{App}
use Rattle.clap.specs.Simple.{app_of_fields}
use Rattle.clap.specs.declared.builder.command.Command.{Command}
use Rattle.clap.specs.declared.builder.command.Command.TheOpen.{Command-F}
use Rattle.ol_words.proofs.command.quiet_command.Goals as goal

pub returns : goal.returns
returns c = record {
  app = ap app_of_fields c.disable_help_subcommand.ensures
      ∙ ap (λ (f : Command-F Command). app_of_fields
      (record f { disable_help_subcommand = true })) c.disable_version_flag.ensures
      ∙ ap (λ (f : Command-F Command). app_of_fields
      (record f { disable_version_flag = true; disable_help_subcommand = true })) c.disable_help_flag.ensures
      ∙ ap (λ (a : App). record a {
        top = record a.top {
          disable_help_flag = true;
          disable_version_flag = true;
          disable_help_subcommand = true;
        };
      }) c.new.ensures.app;
}
