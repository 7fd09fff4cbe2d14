use Rattle.ol_program_tests.proofs.level_texts.+spell.Given as goal

abbrev pub decreases-spell : goal.decreases-spell
decreases-spell l = l.v
