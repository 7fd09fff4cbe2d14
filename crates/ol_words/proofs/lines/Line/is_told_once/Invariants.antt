use Rattle.std.proofs.Common.{◌≡◌, drop}
use Rattle.std.specs.List.{list_all}
use Rattle.ol_words.specs.Settings.{options_in}
use Rattle.ol_words.specs.Once.{is_given_once}
use Rattle.ol_words.proofs.lines.Line.is_told_once.Given as goal

abbrev pub invariant-loop-setting : goal.invariant-loop-setting
invariant-loop-setting l = list_all (is_given_once l.self)
    (options_in (drop l.setting-index l.settings)) ≡ list_all (is_given_once l.self) (options_in l.settings)
