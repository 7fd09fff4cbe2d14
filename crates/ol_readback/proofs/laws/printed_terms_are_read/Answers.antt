use Rattle.ol_readback.proofs.OneTree.{list_is_of_one_tree}
use Rattle.ol_readback.proofs.WordTokens.{binder_is_name}
use Rattle.ol_readback.proofs.Reread.{printed_is_read}
use Rattle.ol_readback.proofs.laws.printed_terms_are_read.Goals as goal

pub returns-clause-one_tree : goal.returns-clause-one_tree
returns-clause-one_tree c = list_is_of_one_tree

pub returns-clause-read : goal.returns-clause-read
returns-clause-read c = printed_is_read

pub returns-clause-binder : goal.returns-clause-binder
returns-clause-binder c = binder_is_name
