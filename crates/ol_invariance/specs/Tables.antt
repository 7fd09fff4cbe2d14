-- What the table of rules has to be: the indexes of copies, and lines that would lose a path.
use Rattle.std.specs.Prelude.{◌≡◌, ℕ, suc, ◌+◌, Some, [], ◌∷◌}
use Rattle.ol_context.specs.Contexts.{shift}
use Rattle.ol_context.specs.Paths.{HaveSamePaths}
use Rattle.ol_net.specs.Nets.{NamedNet, free, slot}
use Rattle.ol_net.specs.Rules.{crossed}
use Rattle.ol_net.specs.declared.parts.Kind.{Kind}
use Rattle.ol_net.specs.declared.parts.Kind.TheVariants as kind
use Rattle.ol_net.specs.declared.parts.Rule.{Rule}
use Rattle.ol_rules.specs.Rewriting.{index_after}

-- Where a node of kind k and index i crosses one of index i + n + 1, the copies of that other have
-- the index of the level to which a crossing of the first moves its level.
abbrev pub IndexesAgree : Type 0
IndexesAgree = (k : Kind) (r : Rule) (i n : ℕ) → crossed k ≡ Some r → index_after r (i + suc n) ≡ i + shift k n

-- nodes 0 and 1, of index 0, face each other, with free ports 0 and 1 at the slots of the one, 2
-- and 3 at those of the other
abbrev pub two_facing : Kind → Kind → NamedNet ℕ
two_facing k l = record {
  nodes = (0, k, 0) ∷ (1, l, 0) ∷ [];
  free_ports = 4;
  links = (slot 0 0, slot 1 0) ∷ (free 0, slot 0 1) ∷ (free 1, slot 0 2) ∷ (free 2, slot 1 1) ∷ (free 3, slot 1 2) ∷ [];
}

-- what is left where slot 1 was joined with slot 2, and slot 2 with slot 1
abbrev pub turned_joins : NamedNet ℕ
turned_joins = record { nodes = []; free_ports = 4; links = (free 0, free 3) ∷ (free 1, free 2) ∷ [] }

abbrev pub TurnedJoinsLoseAPath : Kind → Kind → Type 0
TurnedJoinsLoseAPath k l = HaveSamePaths (two_facing k l) turned_joins → ⊥

-- a node of index 0 with one auxiliary port faces a fan of index 1; free port 0 is at its slot, 1
-- and 2 are at those of the fan
abbrev pub facing_fan : Kind → NamedNet ℕ
facing_fan k = record {
  nodes = (0, k, 0) ∷ (1, kind.Fan, 1) ∷ [];
  free_ports = 3;
  links = (slot 0 0, slot 1 0) ∷ (free 0, slot 0 1) ∷ (free 1, slot 1 1) ∷ (free 2, slot 1 2) ∷ [];
}

-- what is left where it has crossed the fan, whose copy has index n
abbrev pub past_fan : Kind → ℕ → NamedNet ℕ
past_fan k n = record {
  nodes = (0, k, 0) ∷ (1, k, 0) ∷ (2, kind.Fan, n) ∷ [];
  free_ports = 3;
  links = (free 0, slot 2 0) ∷ (free 1, slot 0 0) ∷ (free 2, slot 1 0) ∷ (slot 0 1, slot 2 1) ∷
      (slot 1 1, slot 2 2) ∷ [];
}

-- with each index of the copy but this one a path is lost
abbrev pub IsOnlyIndexPast : Kind → ℕ → Type 0
IsOnlyIndexPast k i = (n : ℕ) → HaveSamePaths (facing_fan k) (past_fan k n) → n ≡ i
