-- One step of a run, told: its line in the journal, its two nodes, what is born, and the pairs that are left.
use Rattle.std.specs.Prelude.{ℕ, zero, suc, ◌+◌, ◌-◌, nat_lt, if◌then◌else◌, List, [], ◌∷◌, ◌++◌, length, codes}
use Rattle.std.specs.Prelude.{Option, None, Some}
use Rattle.std.specs.Fmt.{decimal}
use Rattle.ol_net.specs.declared.parts.Kind.{Kind}
use Rattle.ol_net.specs.declared.parts.Port.{Port}
use Rattle.ol_net.specs.declared.parts.Port.TheVariants.{Of}
use Rattle.ol_net.specs.declared.parts.Facing.{Facing}
use Rattle.ol_net.specs.declared.parts.Facing.TheVariants as facing
use Rattle.ol_net.specs.PartTexts.{kind_text, index_text}
use Rattle.ol_net.specs.Graph.{Graph, kind_at, partner_of, facing_at}
use Rattle.ol_rules.specs.declared.journal.NodeName.{NodeName}
use Rattle.ol_rules.specs.declared.journal.Entry.{Entry}
use Rattle.ol_view.specs.declared.forms.Form.TheVariants.{Two}
use Rattle.ol_view.specs.Forms.{line_of}
use Rattle.ol_view.specs.TraceTexts.{name_text}

-- these lines, or these words where there are none
abbrev pub or_words : List ℕ → List ℕ → List ℕ
or_words [] words = words
or_words (b ∷ bs) words = b ∷ bs

-- ---- nodes

abbrev pub kind_words : Option (Kind × ℕ) → List ℕ
kind_words None = []
kind_words (Some k) = kind_text k.0 ++ codes " " ++ index_text k.0 k.1

-- a node by its number: its name, its kind and its index
abbrev pub node_text : (ℕ → NodeName) → Graph → ℕ → List ℕ
node_text names g n = name_text (names n) ++ codes " (" ++ kind_words (kind_at g.nodes n) ++ codes ")"

-- the two nodes of a pair
abbrev pub both_text : (ℕ → NodeName) → Graph → (x y : ℕ) → List ℕ
both_text names g x y = codes "  " ++ node_text names g x ++ codes " and " ++ node_text names g y ++ codes "\n"

-- a line for each of so many nodes from a number on: the number, and the node
abbrev pub born_lines : (ℕ → NodeName) → Graph → ℕ → ℕ → List ℕ
born_lines names g from zero = []
born_lines names g from (suc n) = born_lines names g from n
    ++ (codes "  created: " ++ decimal (from + n) ++ codes " is " ++ node_text names g (from + n) ++ codes "\n")

-- the nodes from a number on
abbrev pub born_text : (ℕ → NodeName) → Graph → ℕ → List ℕ
born_text names g from = or_words (born_lines names g from (length g.nodes - from)) (codes "  no node is created\n")

-- ---- pairs

abbrev pub greater_in : Facing → Option Port → ℕ → Option ℕ
greater_in (facing.Active rule) (Some (Of m s)) n = if nat_lt n m.0 then Some m.0 else None
greater_in _ _ n = None

-- the other node of a node's active pair, where that has the greater number
abbrev pub greater_at : Graph → ℕ → Option ℕ
greater_at g n = greater_in (facing_at g (record { 0 = n })) (partner_of g (Of (record { 0 = n }) 0)) n

abbrev pub pair_line : (ℕ → NodeName) → ℕ → Option ℕ → List ℕ
pair_line names n None = []
pair_line names n (Some m) =
    codes "  active: " ++ name_text (names n) ++ codes " and " ++ name_text (names m) ++ codes "\n"

-- the active pairs of nodes with numbers below n, each told where its smaller node stands
abbrev pub left_lines : (ℕ → NodeName) → Graph → ℕ → List ℕ
left_lines names g zero = []
left_lines names g (suc n) = left_lines names g n ++ pair_line names n (greater_at g n)

-- all active pairs
abbrev pub left_text : (ℕ → NodeName) → Graph → List ℕ
left_text names g = or_words (left_lines names g (length g.nodes)) (codes "  no active pair\n")

-- ---- a step

-- what is told of the step of x and y from g to h, under the names before it and after it
abbrev pub turn_text : Entry → (wave x y : ℕ) → (ℕ → NodeName) → Graph → (ℕ → NodeName) → Graph → List ℕ
turn_text e wave x y m g n h =
    line_of Two e wave ++ both_text m g x y ++ born_text n h (length g.nodes) ++ left_text n h
