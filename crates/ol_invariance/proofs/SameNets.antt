-- One net has the same paths, however its lists are ordered, and so have start names.
-- Used in crates above.
use Rattle.std.proofs.Common.{◌≡◌, ℕ}
use Rattle.ol_context.specs.Contexts.{Context}
use Rattle.ol_context.specs.Paths.{Path, ends, goes, HaveSamePaths}
use Rattle.ol_invariance.proofs.Renamed.{renamed}
use Rattle.ol_net.specs.Nets.{NamedNet, NamedPort, IsNet, SameNet, net_under}
use Rattle.ol_rules.proofs.Relation.{same_sym}
use Rattle.ol_rules.proofs.StartNets.{one_start}
use Rattle.ol_rules.specs.declared.journal.NodeName.TheVariants.{Init}

-- the paths of one net are those of another with the same nodes and links
pub same_path : {A : Type 0} (M N : NamedNet A) → SameNet M N →
    {p : NamedPort A} {c d : Context} {q : ℕ} → Path M p c q d → Path N p c q d
same_path M N s (ends l) = ends ((s.links _ _).0 l)
same_path M N s (goes l h x r) = goes ((s.links _ _).0 l) ((s.nodes _ _ _).0 h) x (same_path M N s r)

-- a net has the paths of its start net, also where the lists are those of another
pub start_paths : (M N : NamedNet ℕ) → IsNet M → SameNet M N → HaveSamePaths N (net_under Init M)
start_paths M N n same p c q d =
    let z = renamed Init M n (λ x y k l i j h h' e. one_start x y e) p c q d in (
      λ r. z.0 (same_path N M (same_sym M N same) r),
      λ r. same_path M N same (z.1 r),
    )
