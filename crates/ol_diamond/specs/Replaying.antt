-- The pairs of names while a journal is replayed.
use Rattle.std.specs.Prelude.{◌≡◌, ℕ, List, [], ◌∷◌, ◌++◌, length, Some}
use Rattle.ol_net.specs.declared.parts.Rule.{Rule}
use Rattle.ol_net.specs.Graph.{Graph}
use Rattle.ol_net.specs.Nets.{slot, NamedNet, Linked, IsNet}
use Rattle.ol_net.specs.Numbered.{net_of}
use Rattle.ol_net.specs.Pairs.{IsActive}
use Rattle.ol_rules.specs.declared.journal.NodeName.{NodeName}
use Rattle.ol_rules.specs.Steps.{StepsAt}
use Rattle.ol_rules.specs.UnderWay.{node_number}

-- the pair of these names was rewritten
pub record RewritesNamed (old new : Graph) (bases bases' : List ℕ) (a b : NodeName) : Type 0 where
  pub f : ℕ
  pub h : ℕ
  pub rule : Rule
  pub first : node_number bases a ≡ Some f
  pub second : node_number bases b ≡ Some h
  pub linked : Linked (net_of old) (slot f 0) (slot h 0)
  pub steps : StepsAt old new f rule
  pub old_net : IsNet (net_of old)
  pub new_net : IsNet (net_of new)
  pub bases_on : bases' ≡ bases ++ length new.nodes ∷ []

-- the two are no active pair, whichever of them acts
abbrev pub AreIdle : {A : Type 0} → NamedNet A → A → A → Type 0
AreIdle {A} N f g = (r : Rule) → (IsActive N f g r → ⊥) × (IsActive N g f r → ⊥)

-- no two nodes of these names are an active pair
abbrev pub AreIdleNumbers : Graph → List ℕ → NodeName → NodeName → Type 0
AreIdleNumbers g bases a b =
    (f h : ℕ) → node_number bases a ≡ Some f → node_number bases b ≡ Some h → AreIdle (net_of g) f h
