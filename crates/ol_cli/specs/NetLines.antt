-- Private: words of private contracts alone: the lines that are printed of a net, its nodes as they are numbered.
use Rattle.std.specs.Prelude.{◌≡◌, ℕ, List, ◌++◌}
use Rattle.ol_net.specs.Graph.{Graph}
use Rattle.ol_net.specs.Numbered.{net_of}
use Rattle.ol_netfile.specs.StuckPairs.{IsPairsText}
use Rattle.ol_netfile.specs.Written.{net_text}
use Rattle.ol_rules.specs.declared.journal.Counts.{Counts}
use Rattle.ol_cli.specs.Texts.{counts_text}

pub record AreLinesOf (last : Graph) (counts : Counts) (stuck : ℕ) (text : List ℕ) : Type 0 where
  pub pairs : List ℕ
  pub told : IsPairsText (net_of last) pairs
  pub written : text ≡ (counts_text counts stuck ++ pairs) ++ net_text last
