-- Runs as lists of pairs of birth names, and journals as such runs.
use Rattle.std.specs.Prelude.{◌≡◌, ℕ, suc, Bool, ◌⊎◌, List, [], ◌∷◌}
use Rattle.ol_net.specs.declared.parts.Rule.{Rule}
use Rattle.ol_net.specs.Nets.{NamedNet}
use Rattle.ol_rules.specs.declared.journal.NodeName.{NodeName}
use Rattle.ol_rules.specs.declared.journal.NodeName.TheVariants.{Born}
use Rattle.ol_rules.specs.declared.journal.Entry.{Entry}
use Rattle.ol_rules.specs.Rewriting.{IsStep}
use Rattle.ol_diamond.specs.Births.{BirthName, born}

-- f is the one that acts. Where either may act, either may be written first.
pub record BirthPair : Type 0 where
  pub f : BirthName
  pub g : BirthName
  pub rule : Rule

-- one pair, whichever of its nodes is written first
abbrev pub IsSamePair : BirthPair → BirthPair → Type 0
IsSamePair p q = (p.rule ≡ q.rule) × (((p.f ≡ q.f) × (p.g ≡ q.g)) ⊎ ((p.f ≡ q.g) × (p.g ≡ q.f)))

-- a test of pairs that doesn't look at which node is written first
abbrev pub IsOfPairs : (BirthPair → Bool) → Type 0
IsOfPairs test = (p q : BirthPair) → IsSamePair p q → test p ≡ test q

-- M is N after the rewrite of the active pair p
abbrev pub IsPairStep : NamedNet BirthName → BirthPair → NamedNet BirthName → Type 0
IsPairStep N p M = IsStep (born p.f p.g) N p.f p.g p.rule M

-- M is N after these pairs, in order
pub data IsPairRun : NamedNet BirthName → List BirthPair → NamedNet BirthName → Type 0 where
  end : {N : NamedNet BirthName} → IsPairRun N [] N
  then : {N M P : NamedNet BirthName} {p : BirthPair} {ps : List BirthPair} → IsPairStep N p M →
      IsPairRun M ps P → IsPairRun N (p ∷ ps) P

-- the pair of an entry, its nodes under their birth names
abbrev pub pair_under : (NodeName → BirthName) → Entry → BirthPair
pair_under birth e = record { f = birth e.first; g = birth e.second; rule = e.rule }

-- These are the pairs of the entries from this ticket on, one for each and in order, and the nodes
-- that each entry made are named by its pair.
abbrev pub AreBirths : (NodeName → BirthName) → ℕ → List Entry → List BirthPair → Type 0
AreBirths birth ticket [] [] = Unit {0}
AreBirths birth ticket (e ∷ es) (p ∷ ps) =
    IsSamePair p (pair_under birth e) × ((place : ℕ) → birth (Born ticket place) ≡ born p.f p.g place)
    × AreBirths birth (suc ticket) es ps
AreBirths birth ticket _ _ = ⊥
