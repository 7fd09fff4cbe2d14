-- The text of a net.
use Rattle.std.specs.Prelude.{ℕ, zero, suc, List, [], ◌∷◌, ◌++◌, Option, None, Some, codes, length, count_by, is_some}
use Rattle.std.specs.Fmt.{decimal}
use Rattle.ol_net.specs.declared.parts.Kind.{Kind}
use Rattle.ol_net.specs.declared.parts.Port.{Port}
use Rattle.ol_net.specs.declared.parts.Port.TheVariants.{Free, Of}
use Rattle.ol_net.specs.Parts.{slots_of}
use Rattle.ol_net.specs.PartTexts.{kind_text, index_text, port_text}
use Rattle.ol_net.specs.Graph.{Graph, kind_at, partner_of}

-- a space and the port's partner
abbrev pub partner_text : Option Port → List ℕ
partner_text None = []
partner_text (Some p) = 32 ∷ port_text p

-- what f makes of the numbers below n, in order
abbrev pub below : ℕ → (ℕ → List ℕ) → List ℕ
below zero f = []
below (suc n) f = below n f ++ f n

-- number, kind, index and the partners of all slots of a live node
abbrev pub node_line : Graph → ℕ → Option (Kind × ℕ) → List ℕ
node_line g n None = []
node_line g n (Some k) = decimal n ++ (32 ∷ kind_text k.0 ++ (32 ∷ index_text k.0 k.1 ++
    (below (slots_of k.0) (λ s. partner_text (partner_of g (Of (record { 0 = n }) s))) ++ 10 ∷ [])))

-- the number of live nodes, the free ports, each with its partner, and the live nodes in ascending order
abbrev pub show_text : Graph → List ℕ
show_text g = codes "nodes " ++ (decimal (count_by is_some g.nodes) ++ 10 ∷ [])
    ++ below g.free (λ k. port_text (Free k) ++ partner_text (partner_of g (Free k)) ++ 10 ∷ [])
    ++ below (length g.nodes) (λ n. node_line g n (kind_at g.nodes n))
