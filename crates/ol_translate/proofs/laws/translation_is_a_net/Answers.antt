use Rattle.ol_translate.proofs.Whole.{translation_net}
use Rattle.ol_translate.proofs.laws.translation_is_a_net.Goals as goal

pub returns : goal.returns
returns c = λ w t names h. translation_net w t names h
