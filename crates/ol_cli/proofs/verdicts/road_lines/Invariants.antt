use Rattle.std.proofs.Common.{◌≡◌, ◌++◌, codes, length, take}
use Rattle.ol_cli.specs.Texts.{line, count_line}
use Rattle.ol_cli.specs.Certify.{addresses_text}
use Rattle.ol_cli.proofs.verdicts.road_lines.Given as goal

-- the addresses so far are written
abbrev pub invariant-loop-k : goal.invariant-loop-k
invariant-loop-k l = l.text.items ≡ line l.word ++ count_line (codes "steps")
    (length l.road) ++ addresses_text (take l.k l.road)
