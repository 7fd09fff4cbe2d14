-- The text of a net under the names of a journal, laid out as the text of a net under its numbers; and
-- what may stand beside the partner of a port.
use Rattle.std.specs.Prelude.{ℕ, zero, suc, List, [], ◌∷◌, ◌++◌, Option, None, Some, codes, length, count_by, is_some}
use Rattle.std.specs.Fmt.{decimal}
use Rattle.ol_net.specs.declared.parts.Kind.{Kind}
use Rattle.ol_net.specs.declared.parts.Port.{Port}
use Rattle.ol_net.specs.declared.parts.Port.TheVariants.{Free, Of}
use Rattle.ol_net.specs.Parts.{slots_of}
use Rattle.ol_net.specs.PartTexts.{kind_text, index_text, port_text}
use Rattle.ol_net.specs.Graph.{Graph, kind_at, partner_of}
use Rattle.ol_rules.specs.declared.journal.NodeName.{NodeName}
use Rattle.ol_view.specs.TraceTexts.{name_text}

-- a free port is `f` and its number, a slot the node's name, a dot and one digit
abbrev pub named_port : (ℕ → NodeName) → Port → List ℕ
named_port names (Free k) = port_text (Free k)
named_port names (Of n s) = name_text (names n.0) ++ (46 ∷ decimal s)

-- nothing beside the partner of a port
abbrev pub no_words : Port → Port → List ℕ
no_words p q = []

-- a space, the port's partner, and what stands beside it
abbrev pub named_partner : (ℕ → NodeName) → (Port → Port → List ℕ) → Port → Option Port → List ℕ
named_partner names beside p None = []
named_partner names beside p (Some q) = 32 ∷ named_port names q ++ beside p q

-- the lines of the first n free ports: each with its partner
abbrev pub named_free : (ℕ → NodeName) → (Port → Port → List ℕ) → Graph → ℕ → List ℕ
named_free names beside g zero = []
named_free names beside g (suc n) = named_free names beside g n ++ (port_text (Free n)
    ++ named_partner names beside (Free n) (partner_of g (Free n)) ++ 10 ∷ [])

-- the partners of a node's first s slots
abbrev pub named_partners : (ℕ → NodeName) → (Port → Port → List ℕ) → Graph → ℕ → ℕ → List ℕ
named_partners names beside g n zero = []
named_partners names beside g n (suc s) = named_partners names beside g n s
    ++ named_partner names beside (Of (record { 0 = n }) s) (partner_of g (Of (record { 0 = n }) s))

-- name, kind, index and the partners of all slots of a live node
abbrev pub named_node : (ℕ → NodeName) → (Port → Port → List ℕ) → Graph → ℕ → Option (Kind × ℕ) → List ℕ
named_node names beside g n None = []
named_node names beside g n (Some k) = name_text (names n) ++ (32 ∷ kind_text k.0
    ++ (32 ∷ index_text k.0 k.1 ++ (named_partners names beside g n (slots_of k.0) ++ 10 ∷ [])))

-- the lines of the nodes with numbers below n
abbrev pub named_nodes : (ℕ → NodeName) → (Port → Port → List ℕ) → Graph → ℕ → List ℕ
named_nodes names beside g zero = []
named_nodes names beside g (suc n) =
    named_nodes names beside g n ++ named_node names beside g n (kind_at g.nodes n)

-- the number of live nodes, the free ports, and the live nodes by ascending number
abbrev pub named_text : (ℕ → NodeName) → (Port → Port → List ℕ) → Graph → List ℕ
named_text names beside g = codes "nodes " ++ (decimal (count_by is_some g.nodes) ++ 10 ∷ [])
    ++ named_free names beside g g.free ++ named_nodes names beside g (length g.nodes)
