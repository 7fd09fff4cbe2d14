-- Private: a reading by walks.
use Rattle.std.specs.Prelude.{◌≡◌, ℕ, List, ◌++◌}
use Rattle.ol_net.specs.Graph.{Graph}
use Rattle.ol_net.specs.Numbered.{net_of}
use Rattle.ol_readback.specs.ReadTrees.{ReadsBack, IsTree}
use Rattle.ol_readback.specs.Askers.{Reading}
use Rattle.ol_readback.specs.declared.answers.ReadNode.{ReadNode}

-- The graph and the budget are those that it began with, and the rest of the tree is what the
-- subterms that are left give.
pub record IsReadByWalks (g : Graph) (edges : ℕ) (g' : Graph) (edges' : ℕ) (heads : ℕ) (r : Reading) : Type 0 where
  pub graph : g' ≡ g
  pub budget : edges' ≡ edges
  pub tree : (ns : List ReadNode) → ReadsBack (net_of g) heads edges r.frames r.waiting ns →
      IsTree (net_of g) heads edges (r.places ++ ns)
