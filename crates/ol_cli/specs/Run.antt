-- `run`: a term's one-thread run and what is printed of it; the closed words of the workers that rewrote its net.
use Rattle.std.specs.Prelude.{List, Option, Some, codes, length, ℕ, ◌*◌, ◌≡◌, ◌≤◌}
use Rattle.ol_net.specs.Graph.{Graph}
use Rattle.ol_net.specs.Nets.{IsNet, NamedNet, SameNet, net_under}
use Rattle.ol_net.specs.Numbered.{net_of}
use Rattle.ol_net.specs.Pairs.{HasActive, HasStuck, IsComplete}
use Rattle.ol_readback.specs.Heads.{live}
use Rattle.ol_readback.specs.ReadTrees.{IsTree}
use Rattle.ol_readback.specs.Texts.{IsTextOf}
use Rattle.ol_readback.specs.declared.answers.ReadNode.{ReadNode}
use Rattle.ol_reduce.specs.Frozen.{IsFrozen}
use Rattle.ol_reduce.specs.Reduced.{IsTableOf}
use Rattle.ol_rules.specs.Counting.{counts_of}
use Rattle.ol_rules.specs.Runs.{IsOneThread}
use Rattle.ol_rules.specs.declared.journal.Entry.{Entry}
use Rattle.ol_rules.specs.declared.journal.NodeName.{NodeName}
use Rattle.ol_rules.specs.declared.journal.NodeName.TheVariants.{Init}
use Rattle.ol_term.specs.Trees.{Tree}
use Rattle.ol_term.specs.declared.translations.Translation.{Translation}
use Rattle.ol_translate.specs.Translation.{translation_of}
use Rattle.ol_wire.specs.Closed.{ClosedTable, journal_in}
use Rattle.ol_wire.specs.Standing.{IsAfter, NoNodeTwice}
use Rattle.ol_cli.specs.Listing.{ListsOnce}
use Rattle.ol_cli.specs.Texts.{answer_text, count_line}
use Rattle.ol_cli.specs.declared.status.Status.{Status}
use Rattle.ol_cli.specs.declared.status.Status.TheVariants as status
use Rattle.ol_cli.specs.Shapes.{DoneOrSpent, TellsFuel}

-- the net of a term with these free names by this translation, its nodes named by their numbers
abbrev pub start_net_of_term : Translation → Tree → List (List ℕ) → NamedNet NodeName
start_net_of_term translation t names = net_under Init (translation_of translation t (length names))

-- What is printed of a journal and its net, each node of which is listed once: the term that is
-- read from the net, of which the first `heads` subterms are asked, each by walks of at most twice
-- as many crossings as there are nodes; the counts of the journal; and the number of pairs that are
-- stuck.
pub record Shows (names : List (List ℕ)) (heads : ℕ) (journal : List Entry)
    (net : NamedNet NodeName) (text : List ℕ) : Type 0 where
  pub stuck : ℕ
  pub tree : List ReadNode
  pub term : List ℕ
  pub is_net : IsNet net
  pub once : ListsOnce net
  pub counted : HasStuck net stuck
  pub read : IsTree net heads (2 * live net) tree
  pub shown : IsTextOf names tree term
  pub written : text ≡ answer_text term (counts_of journal) stuck

-- The one-thread run from this net has more than `fuel` steps.
pub record RunsOut (start : NamedNet NodeName) (fuel : ℕ) : Type 0 where
  pub journal : List Entry
  pub net : NamedNet NodeName
  pub run : IsOneThread start fuel journal net
  pub full : length journal ≡ fuel
  pub left : HasActive net

-- It ends within `fuel` steps.
pub record RunEnds (start : NamedNet NodeName) (fuel : ℕ) : Type 0 where
  pub journal : List Entry
  pub net : NamedNet NodeName
  pub run : IsOneThread start fuel journal net
  pub complete : IsComplete net

-- The one-thread run from the term's net ends within `fuel` steps, and this is printed of it.
pub record Prints (translation : Translation) (t : Tree) (names : List (List ℕ)) (fuel heads : ℕ)
    (text : List ℕ) : Type 0 where
  pub ends : RunEnds (start_net_of_term translation t names) fuel
  pub shows : Shows names heads ends.journal ends.net text

-- It ends so, and this tree is read from its last net, each node of which is listed once. The first
-- `heads` subterms are asked, each by walks of at most twice as many crossings as there are nodes.
pub record ReadsLast (translation : Translation) (t : Tree) (names : List (List ℕ)) (fuel heads : ℕ)
    (tree : List ReadNode) : Type 0 where
  pub ends : RunEnds (start_net_of_term translation t names) fuel
  pub is_net : IsNet ends.net
  pub once : ListsOnce ends.net
  pub read : IsTree ends.net heads (2 * live ends.net) tree

-- What `run` answers to a term: its one-thread run is longer than the fuel, or ends and is printed.
abbrev pub RunAnswer : Translation → (fuel heads : ℕ) → Tree → List (List ℕ) → Status →
    List ℕ → Type 0
RunAnswer translation fuel heads t names = DoneOrSpent (Prints translation t names fuel heads)
    (TellsFuel (RunsOut (start_net_of_term translation t names) fuel) fuel)

-- ---- the closed words

-- the journal of closed words
abbrev pub journal_of : ClosedTable → List Entry
journal_of w = journal_in w.plan.parts w.words

-- The words are those of a table that was made from the net of this term, its nodes numbered as
-- that net has them, with this fuel and so many seats. Their journal leads from that net to this
-- one, and rewrites no node twice.
pub record IsWorkOn (translation : Translation) (t : Tree) (names : List (List ℕ)) (fuel seats : ℕ)
    (w : ClosedTable) (net : NamedNet NodeName) : Type 0 where
  pub start : Graph
  pub same : SameNet (net_of start) (translation_of translation t (length names))
  pub table : IsTableOf start fuel seats w
  pub after : IsAfter w net
  pub once : NoNodeTwice (journal_of w)

-- How a run ended: no pair is active, within the fuel; or some pair is, with as many entries as the fuel.
abbrev pub EndsBy : (fuel : ℕ) → List Entry → NamedNet NodeName → Status → Type 0
EndsBy fuel journal net status.Done = IsComplete net × (length journal ≤ fuel)
EndsBy fuel journal net status.Spent = HasActive net × (length journal ≡ fuel)
EndsBy fuel journal net _ = ⊥

-- The closed words are those of a term's work that ended so, and this is said of their journal and their net.
abbrev pub WorkHands : Translation → Tree → List (List ℕ) → (workers fuel : ℕ) → Status →
    (List Entry → NamedNet NodeName → Type 0) → Option ClosedTable → Type 0
WorkHands translation t names workers fuel st Says closed =
    (w : ClosedTable) × (closed ≡ Some w) × (net : NamedNet NodeName) × IsWorkOn translation t names fuel workers w net
    × EndsBy fuel (journal_of w) net st × Says (journal_of w) net

-- The text is what is printed of a complete run: the term that is read from its last net, whose
-- nodes are numbered by ascending name; the counts of the journal; and the stuck pairs of that net.
pub record PrintsWork (names : List (List ℕ)) (heads : ℕ) (journal : List Entry)
    (net : NamedNet NodeName) (text : List ℕ) : Type 0 where
  pub last : Graph
  pub frozen : IsFrozen net last
  pub shows : Shows names heads journal (net_under frozen.names (net_of last)) text

-- what `run` hands back of a term: the closed words, of which its text is printed, or tells the fuel
abbrev pub RunHands : Translation → Tree → List (List ℕ) → (workers fuel heads : ℕ) → Status →
    List ℕ → Option ClosedTable → Type 0
RunHands translation t names workers fuel heads st text = WorkHands translation t names workers fuel st
    (λ journal net. DoneOrSpent (PrintsWork names heads journal net)
    (λ text. text ≡ count_line (codes "fuel") fuel) st text)
