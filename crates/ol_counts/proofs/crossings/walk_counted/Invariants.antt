use Rattle.ol_counts.proofs.crossings.walk_counted.Given as goal

abbrev pub ghosts-head_by : goal.ghosts-head_by
ghosts-head_by a = record { name = a.blank.name; parts = a.blank.parts }
