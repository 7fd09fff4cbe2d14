use Rattle.ol_steps.proofs.WordsShown.{word_is_shown}
use Rattle.ol_steps.proofs.laws.words_are_shown.Goals as goal

pub returns : goal.returns
returns c = word_is_shown
