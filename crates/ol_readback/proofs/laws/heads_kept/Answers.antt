use Rattle.ol_readback.proofs.Kept.{heads_are_kept, found_is_head}
use Rattle.ol_readback.proofs.Sources.{no_head_is}
use Rattle.ol_readback.proofs.laws.heads_kept.Goals as goal

pub returns-clause-kept : goal.returns-clause-kept
returns-clause-kept g c = heads_are_kept

pub returns-clause-within : goal.returns-clause-within
returns-clause-within g c = found_is_head

pub returns-clause-no_head : goal.returns-clause-no_head
returns-clause-no_head g c = no_head_is
