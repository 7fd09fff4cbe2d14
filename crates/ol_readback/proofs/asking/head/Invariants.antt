use Rattle.ol_readback.proofs.asking.head.Given as goal

abbrev pub ghosts-head_on : goal.ghosts-head_on
ghosts-head_on a = record { name = a.blank.name; parts = a.blank.parts }
