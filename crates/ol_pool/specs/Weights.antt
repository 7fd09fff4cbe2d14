-- Lists of cells compared by weights: where two lists weigh the same however cells are weighed, each cell stands in
-- both as often, by the weight that is 1 for that cell and else 0.
use Rattle.std.specs.Prelude.{ℕ, ◌+◌, List, [], ◌∷◌}
use Rattle.ol_pool.specs.Looks.{Part}
use Rattle.ol_pool.specs.Pools.{HandState}

-- the weights of the cells, added up
abbrev pub weigh : (ℕ → ℕ) → List ℕ → ℕ
weigh h [] = 0
weigh h (cell ∷ cells) = h cell + weigh h cells

-- the weights of all cells that parts gave
abbrev pub weigh_parts : (ℕ → ℕ) → List Part → ℕ
weigh_parts h [] = 0
weigh_parts h (part ∷ parts) = weigh h part.given + weigh_parts h parts

-- and of all cells that a hand was given
abbrev pub weigh_given : (ℕ → ℕ) → HandState → ℕ
weigh_given h hand = weigh_parts h hand.parts
