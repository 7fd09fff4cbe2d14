use Rattle.std.proofs.Common.{◌≡◌, take, fold}
use Rattle.clap.specs.Words.{app_of}
use Rattle.ol_words.specs.Command.{quiet_app, with_verb}
use Rattle.ol_words.proofs.command.command.Given as goal

-- the verbs so far
abbrev pub invariant-loop-verb : goal.invariant-loop-verb
invariant-loop-verb l = app_of l.command ≡ fold with_verb quiet_app (take l.verb-index l.verb-items)
