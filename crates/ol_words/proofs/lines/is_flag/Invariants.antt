use Rattle.std.proofs.Common.{◌≡◌, drop}
use Rattle.ol_words.specs.Lines.{is_option}
use Rattle.ol_words.specs.Settings.{flags_in}
use Rattle.ol_words.proofs.lines.is_flag.Given as goal

abbrev pub invariant-loop-setting : goal.invariant-loop-setting
invariant-loop-setting l = is_option (flags_in (drop l.setting-index l.settings)) l.name
    ≡ is_option (flags_in l.settings) l.name
