-- Two steps of a net in numbers, in either order, and what their nets have to do with each other.
use Rattle.std.specs.Prelude.{◌≡◌, ℕ, ◌+◌, ◌-◌, nat_lt, if◌then◌else◌, length, ◌⊎◌}
use Rattle.ol_net.specs.declared.parts.Rule.{Rule}
use Rattle.ol_net.specs.Graph.{Graph}
use Rattle.ol_net.specs.Nets.{slot, Linked, SameNet, net_under}
use Rattle.ol_net.specs.Numbered.{net_of}
use Rattle.ol_net.specs.Pairs.{IsInActive}
use Rattle.ol_rules.specs.Steps.{StepsAt}
use Rattle.ol_diamond.specs.Births.{BirthName, init, born}
use Rattle.ol_diamond.specs.declared.square.Square.{Square}

-- no active pair has the node
abbrev pub IsInNoActive : Graph → ℕ → Type 0
IsInNoActive net x = (r : Rule) → IsInActive (net_of net) x r → ⊥

-- of one of the two nodes at least
abbrev pub IsOneInNoActive : Graph → ℕ → ℕ → Type 0
IsOneInNoActive net x y = IsInNoActive net x ⊎ IsInNoActive net y

-- two nodes are one, or their principal ports are joined
abbrev pub AreTogether : Graph → ℕ → ℕ → Type 0
AreTogether net x y = (x ≡ y) ⊎ Linked (net_of net) (slot x 0) (slot y 0)

-- two nodes stand in one active pair
pub record AreInOnePair (net : Graph) (x y : ℕ) : Type 0 where
  pub rule : Rule
  pub first : IsInActive (net_of net) x rule
  pub second : IsInActive (net_of net) y rule
  pub together : AreTogether net x y

-- the net after the pair of x was rewritten by rule r, and then the pair of y by rule s
pub record InTurn (net : Graph) (x y : ℕ) (r s : Rule) (after : Graph) : Type 0 where
  pub middle : Graph
  pub first : StepsAt net middle x r
  pub second : StepsAt middle after y s

-- how many nodes came from one net to a later one
abbrev pub born_between : Graph → Graph → ℕ
born_between old new = length new.nodes - length old.nodes

-- the first `one` numbers from n on, and the `two` after them, change places
abbrev pub exchanged : (n one two : ℕ) → ℕ → ℕ
exchanged n one two x =
    if nat_lt x n then x
    else if nat_lt x (n + one) then x + two
    else if nat_lt x (n + one + two) then x - one
    else x

-- birth names after a step: what was there keeps its name, and what came is named by the pair and its place
abbrev pub names_after : {old new : Graph} {at : ℕ} {r : Rule} → (ℕ → BirthName) → StepsAt old new at r → ℕ → BirthName
names_after {old} names s x = if nat_lt x (length old.nodes) then names x else born (names s.f)
    (names s.g) (x - length old.nodes)

-- birth names after two steps
abbrev pub birth_names : {net after : Graph} {x y : ℕ} {r s : Rule} → InTurn net x y r s after → ℕ → BirthName
birth_names turn = names_after (names_after init turn.first) turn.second

-- Both orders of the pairs of a and b. The two nets have one another's nodes and links, where the
-- numbers of the nodes that came
-- with the pair of a and those that came with the pair of b are exchanged; under birth names they are one net.
pub record BothOrders (net : Graph) (a b : ℕ) (r s : Rule) (ab ba : Graph) : Type 0 where
  pub ab_turn : InTurn net a b r s ab
  pub ba_turn : InTurn net b a s r ba
  pub exchange : SameNet (net_under (exchanged (length net.nodes) (born_between net ab_turn.middle)
      (born_between net ba_turn.middle)) (net_of ab)) (net_of ba)
  pub births : SameNet (net_under (birth_names ab_turn) (net_of ab)) (net_under (birth_names ba_turn) (net_of ba))

-- a square has both orders of the pairs of a and b
abbrev pub IsSquare : Graph → (a b : ℕ) → Square → Type 0
IsSquare net a b square = BothOrders net a b square.rule_a square.rule_b square.ab square.ba
