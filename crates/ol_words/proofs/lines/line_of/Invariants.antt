use Rattle.std.proofs.Common.{◌≡◌, drop, map, option_map}
use Rattle.ol_words.specs.Settings.{known_in}
use Rattle.ol_words.specs.Lines.{line_of}
use Rattle.ol_words.specs.Texts.{texts_of}
use Rattle.ol_words.proofs.SoFar.{so_far, seen}
use Rattle.ol_words.proofs.lines.line_of.Given as goal

abbrev pub invariant-loop-place : goal.invariant-loop-place
invariant-loop-place l = so_far (known_in l.settings) (seen l.options.items)
    (map (λ n. n.now) l.names.items) (option_map (λ o. o.now) l.waiting)
    (texts_of (drop l.place l.words)) ≡ line_of (known_in l.settings) (texts_of l.words)
