use Rattle.ol_parse.proofs.numbers.+resolve.Given as goal

-- what ends before
abbrev pub decreases-resolve : goal.decreases-resolve
decreases-resolve l = l.at
