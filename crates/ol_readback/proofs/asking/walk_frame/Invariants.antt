use Rattle.ol_readback.proofs.asking.walk_frame.Given as goal

abbrev pub ghosts-head_by : goal.ghosts-head_by
ghosts-head_by a = record { name = a.blank.name; parts = a.blank.parts }
