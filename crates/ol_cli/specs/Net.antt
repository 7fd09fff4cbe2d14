-- `net`: what a file with a net is answered, and a term whose net is printed.
use Rattle.std.specs.Prelude.{List, codes, count_by, is_some, length, ℕ, ◌++◌, ◌<◌, ◌≡◌, ◌≢◌, ◌≤◌}
use Rattle.ol_net.specs.Graph.{Graph}
use Rattle.ol_net.specs.Nets.{NamedNet, SameNet, net_under}
use Rattle.ol_net.specs.Numbered.{net_of}
use Rattle.ol_net.specs.Pairs.{HasStuck, IsComplete}
use Rattle.ol_netfile.specs.FaultTexts.{fault_text}
use Rattle.ol_netfile.specs.NetTexts.{IsNetFault, IsNetRead}
use Rattle.ol_netfile.specs.StuckPairs.{IsPairsText}
use Rattle.ol_netfile.specs.Written.{net_text}
use Rattle.ol_netfile.specs.declared.faults.NetFault.{NetFault}
use Rattle.ol_readback.specs.Heads.{live}
use Rattle.ol_reduce.specs.Frozen.{IsFrozen}
use Rattle.ol_rules.specs.Counting.{counts_of}
use Rattle.ol_rules.specs.Runs.{IsRun}
use Rattle.ol_rules.specs.declared.journal.Entry.{Entry}
use Rattle.ol_rules.specs.declared.journal.NodeName.{NodeName}
use Rattle.ol_rules.specs.declared.journal.NodeName.TheVariants.{Init}
use Rattle.ol_term.specs.Trees.{Tree}
use Rattle.ol_term.specs.declared.translations.Translation.{Translation}
use Rattle.ol_translate.specs.Translation.{translation_of}
use Rattle.ol_view.specs.Laws.{IsTable}
use Rattle.ol_cli.specs.Listing.{ListsOnce}
use Rattle.ol_cli.specs.Texts.{Exceeds, count_line, counts_text, line}
use Rattle.ol_cli.specs.declared.status.Status.{Status}
use Rattle.ol_cli.specs.declared.status.Status.TheVariants as status
use Rattle.ol_netfile.specs.declared.faults.NetFault.TheVariants as fault
use Rattle.ol_cli.specs.Run.{RunEnds, RunsOut}
use Rattle.ol_cli.specs.Shapes.{DoneOrSpent, TellsFuel}
use Rattle.ol_limits.specs.Limits.{most_net_bytes, most_nodes}

-- The net of the term, with the numbers of its translation, has this text.
pub record WritesNet (translation : Translation) (t : Tree) (names : List (List ℕ)) (text : List ℕ) : Type 0 where
  pub net : Graph
  pub same : SameNet (net_of net) (translation_of translation t (length names))
  pub whole : count_by is_some net.nodes ≡ length net.nodes
  pub tabled : IsTable net
  pub written : text ≡ net_text net

-- ---- a net that is rewritten

-- the net with which a run from a file's net begins, its nodes named by their numbers
abbrev pub start_net : Graph → NamedNet NodeName
start_net net = net_under Init (net_of net)

-- The one-thread run ends within `fuel` steps, and its net, each node of which is listed once, has so
-- many stuck pairs.
pub record NetRunEnds (net : Graph) (fuel : ℕ) : Type 0 where
  pub ends : RunEnds (start_net net) fuel
  pub once : ListsOnce ends.net
  pub stuck : ℕ
  pub counted : HasStuck ends.net stuck

-- The text of a net without an active pair that some run leads to: its nodes are numbered by
-- ascending name, and the lines of its stuck pairs stand before it. Each such run leads to one net,
-- up to names, so the text leaves nothing open but the numbers.
pub record TellsLast (net : Graph) (text : List ℕ) : Type 0 where
  pub journal : List Entry
  pub last : NamedNet NodeName
  pub run : IsRun (start_net net) 0 journal last
  pub complete : IsComplete last
  pub numbered : Graph
  pub frozen : IsFrozen last numbered
  pub tabled : IsTable numbered
  pub pairs : List ℕ
  pub stuck : IsPairsText (net_of numbered) pairs
  pub written : text ≡ pairs ++ net_text numbered

-- The one-thread run ends within the fuel, and its net is small enough to be printed. The counts
-- are its own, and what follows them is told of any complete run.
pub record PrintsNet (net : Graph) (fuel : ℕ) (text : List ℕ) : Type 0 where
  pub ends : NetRunEnds net fuel
  pub few : live ends.ends.net ≤ most_nodes
  pub rest : List ℕ
  pub tells : TellsLast net rest
  pub written : text ≡ counts_text (counts_of ends.ends.journal) ends.stuck ++ rest

-- What a net is answered: that its one-thread run ends within the fuel with a net that is too large
-- to be printed, or with one that is printed; or that it is longer.
abbrev pub NetAnswer : Graph → (fuel : ℕ) → Status → List ℕ → Type 0
NetAnswer net fuel status.Limit text =
    (e : NetRunEnds net fuel) × Exceeds (live e.ends.net) most_nodes (codes "limit nodes") text
NetAnswer net fuel st text = DoneOrSpent (PrintsNet net fuel) (TellsFuel (RunsOut (start_net net) fuel) fuel) st text

-- ---- a file with a net

-- the bytes are the text of this net, and no more than are read
pub record IsNetFile (bytes : List ℕ) (net : Graph) : Type 0 where
  pub short : length bytes ≤ most_net_bytes
  pub tabled : IsTable net
  pub read : IsNetRead bytes net

-- What the bytes of a file with a net are answered: a limit that they pass, what is wrong with
-- them, or the answer to their net.
pub data NetFileAnswer (fuel : ℕ) (bytes : List ℕ) (st : Status) (text : List ℕ) : Type 0 where
  long : most_net_bytes < length bytes → st ≡ status.Limit →
      text ≡ count_line (codes "limit net") most_net_bytes → NetFileAnswer fuel bytes st text
  bad : length bytes ≤ most_net_bytes → (f : NetFault) → IsNetFault bytes f → f ≢ fault.NoMemory → st ≡ status.BadNet →
      text ≡ line (fault_text f) → NetFileAnswer fuel bytes st text
  of_net : {net : Graph} → IsNetFile bytes net → NetAnswer net fuel st text → NetFileAnswer fuel bytes st text
