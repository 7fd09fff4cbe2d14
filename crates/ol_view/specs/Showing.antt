-- Private: the parts of the text of a net.
use Rattle.std.specs.Prelude.{ℕ, List, [], ◌∷◌, ◌++◌}
use Rattle.ol_net.specs.declared.parts.Port.TheVariants.{Free, Of}
use Rattle.ol_net.specs.PartTexts.{port_text}
use Rattle.ol_net.specs.Graph.{Graph, kind_at, partner_of}
use Rattle.ol_view.specs.ShowTexts.{partner_text, below, node_line}

-- the lines of the first n free ports: each with its partner
abbrev pub free_lines : Graph → ℕ → List ℕ
free_lines g n = below n (λ k. port_text (Free k) ++ partner_text (partner_of g (Free k)) ++ 10 ∷ [])

-- the partners of a node's first s slots
abbrev pub partners_text : Graph → ℕ → ℕ → List ℕ
partners_text g n s = below s (λ s. partner_text (partner_of g (Of (record { 0 = n }) s)))

-- the lines of the nodes with numbers below n
abbrev pub node_lines : Graph → ℕ → List ℕ
node_lines g n = below n (λ n. node_line g n (kind_at g.nodes n))
