use Rattle.std.proofs.Common.{◌≡◌, drop}
use Rattle.ol_words.specs.Lines.{is_option}
use Rattle.ol_words.specs.Settings.{options_in}
use Rattle.ol_words.proofs.lines.is_option.Given as goal

abbrev pub invariant-loop-setting : goal.invariant-loop-setting
invariant-loop-setting l = is_option (options_in (drop l.setting-index l.settings)) l.name
    ≡ is_option (options_in l.settings) l.name
