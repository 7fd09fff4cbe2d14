-- What `demand` reads of a function applied to a line.
use Rattle.std.specs.Prelude.{ℕ, ◌<◌, ◌≤◌, List, length, codes}
use Rattle.ol_limits.specs.Limits.{most_depth, most_nodes}
use Rattle.ol_net.specs.Graph.{Graph}
use Rattle.ol_term.specs.Trees.{Tree, depth}
use Rattle.ol_translate.specs.Sizes.{size_of_translation}
use Rattle.ol_rules.specs.declared.journal.Entry.{Entry}
use Rattle.ol_demand.specs.declared.answers.Demanded.TheVariants.{Done}
use Rattle.ol_demand.specs.Answers.{start_of, IsAnswer}
use Rattle.ol_demand.specs.Demands.{HasMoreSteps}
use Rattle.ol_readback.specs.Terms.{HasAllHeads}
use Rattle.ol_readback.specs.Texts.{AreNamed}
use Rattle.ol_subjects.specs.Limited.{depth_words, nodes_words}
use Rattle.ol_subjects.specs.Subjects.{IsNetOfTerm}
use Rattle.ol_derivations.specs.declared.reading.Bounds.{Bounds}
use Rattle.ol_derivations.specs.declared.read_trees.Seen.{Seen}
use Rattle.ol_derivations.specs.declared.reading.Lack.{Lack}
use Rattle.ol_derivations.specs.declared.reading.Lack.TheVariants as lack
use Rattle.ol_derivations.specs.Applied.{IsApplied}

-- the net of the function applied to the line, and its free names; the term is at most 1,000 deep, and the net has at
-- most 200,000 nodes
pub record IsNetOn (bounds : Bounds) (function line : List ℕ) (names : List (List ℕ)) (g : Graph) : Type 0 where
  pub term : Tree
  pub applied : IsApplied function line term names
  pub shallow : depth term ≤ most_depth
  pub small : size_of_translation bounds.translation term ≤ most_nodes
  pub net : IsNetOfTerm bounds.translation term names g

-- the tree that `demand` reads of this net, and the free names, of which each one in the tree is one
pub record HasTree (bounds : Bounds) (function line : List ℕ) (seen : Seen) : Type 0 where
  pub net : Graph
  pub last : Graph
  pub journal : List Entry
  pub of : IsNetOn bounds function line seen.names net
  pub read : IsAnswer net bounds.heads.most bounds.fuel.most last (Done seen.tree journal)
  pub named : AreNamed (length seen.names) seen.tree

-- why there is none: `demand` goes on beyond the fuel, or the term is too deep, or its net too large
pub data HasNoTree (bounds : Bounds) (function line : List ℕ) : Lack → Type 0 where
  spent : {names : List (List ℕ)} {g : Graph} → IsNetOn bounds function line names g →
      HasMoreSteps (start_of g) bounds.heads.most bounds.fuel.most → HasNoTree bounds function line lack.Fuel
  deep : {t : Tree} {names : List (List ℕ)} → IsApplied function line t names → most_depth < depth t →
      HasNoTree bounds function line lack.Depth
  large : {t : Tree} {names : List (List ℕ)} → IsApplied function line t names → depth t ≤ most_depth →
      most_nodes < size_of_translation bounds.translation t → HasNoTree bounds function line lack.Nodes

abbrev pub lack_words : Lack → List ℕ
lack_words lack.Fuel = codes "beyond the fuel"
lack_words lack.Depth = depth_words
lack_words lack.Nodes = nodes_words

-- a tree in which each place has a head
abbrev pub HasWholeTree : Bounds → (function line : List ℕ) → Seen → Type 0
HasWholeTree bounds function line seen = HasTree bounds function line seen × HasAllHeads seen.tree

-- why there is none: there is no tree, or some place of it has no head or was cut
pub data HasNoWholeTree (bounds : Bounds) (function line : List ℕ) : List ℕ → Type 0 where
  no_tree : {lack : Lack} → HasNoTree bounds function line lack → HasNoWholeTree bounds function line (lack_words lack)
  holes : {seen : Seen} → HasTree bounds function line seen → (HasAllHeads seen.tree → ⊥) →
      HasNoWholeTree bounds function line (codes "holes are left")
