-- A small net in which a walk goes round for ever.
use Rattle.std.specs.Prelude.{[], ◌∷◌, ℕ, ◌*◌}
use Rattle.ol_net.specs.Nets.{NamedNet, free, slot}
use Rattle.ol_net.specs.Pairs.{IsComplete}
use Rattle.ol_net.specs.declared.parts.Kind.TheVariants as kind
use Rattle.ol_context.specs.Short.{live}
use Rattle.ol_readback.specs.ReadTrees.{IsTree}
use Rattle.ol_readback.specs.declared.answers.ReadNode.TheVariants as node
use Rattle.ol_law_levels.specs.Levels.{IsLevelled}

-- From free port 0 a croissant leads to slot 2 of a fan, whose slots 0 and 1 are linked.
abbrev pub ring_net : NamedNet ℕ
ring_net = record {
  nodes = (0, kind.Croissant, 0) ∷ (1, kind.Fan, 0) ∷ [];
  free_ports = 1;
  links = (free 0, slot 0 1) ∷ (slot 0 0, slot 1 2) ∷ (slot 1 0, slot 1 1) ∷ [];
}

-- This net is levelled and has no active pair, and its one place is cut.
abbrev pub RingIsCut : Type 0
RingIsCut = IsLevelled ring_net × IsComplete ring_net
    × IsTree ring_net 1 (2 * live ring_net) (node.Cut ∷ [])
