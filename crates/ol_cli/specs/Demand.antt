-- `demand`: what demand order makes of a term.
use Rattle.std.specs.Prelude.{List, length, ℕ, ◌≡◌, ◌≤◌}
use Rattle.ol_demand.specs.Demands.{IsDemandRun}
use Rattle.ol_net.specs.Nets.{NamedNet}
use Rattle.ol_net.specs.Pairs.{HasStuck}
use Rattle.ol_readback.specs.Texts.{IsTextOf}
use Rattle.ol_readback.specs.declared.answers.ReadNode.{ReadNode}
use Rattle.ol_rules.specs.Counting.{counts_of}
use Rattle.ol_rules.specs.declared.journal.Entry.{Entry}
use Rattle.ol_rules.specs.declared.journal.NodeName.{NodeName}
use Rattle.ol_term.specs.Trees.{Tree}
use Rattle.ol_term.specs.declared.translations.Translation.{Translation}
use Rattle.ol_cli.specs.Run.{start_net_of_term}
use Rattle.ol_cli.specs.Texts.{answer_text}

-- The demand run from the term's net, of which the first `heads` subterms are asked, ends within
-- `fuel` steps: it rewrites the pairs of this journal, reads this tree and leaves this net.
pub record DemandEnds (translation : Translation) (t : Tree) (names : List (List ℕ)) (fuel heads : ℕ) : Type 0 where
  pub journal : List Entry
  pub tree : List ReadNode
  pub net : NamedNet NodeName
  pub run : IsDemandRun (start_net_of_term translation t names) heads journal tree net
  pub within : length journal ≤ fuel

-- It ends so, and this is printed of it: the tree's text, the counts of its journal, and the number
-- of pairs that are stuck in the net that it leaves.
pub record Demands (translation : Translation) (t : Tree) (names : List (List ℕ)) (fuel heads : ℕ)
    (text : List ℕ) : Type 0 where
  pub ends : DemandEnds translation t names fuel heads
  pub term : List ℕ
  pub stuck : ℕ
  pub shown : IsTextOf names ends.tree term
  pub counted : HasStuck ends.net stuck
  pub written : text ≡ answer_text term (counts_of ends.journal) stuck
