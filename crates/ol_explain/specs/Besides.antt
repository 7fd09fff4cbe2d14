-- Private: words of private contracts alone: what stands beside the partner of a port.
use Rattle.std.specs.Prelude.{◌≡◌, ℕ, ◌+◌, ◌*◌, max, Bool, true, false, List, [], ◌∷◌, length, Option, None, Some, slice_index_or}
use Rattle.std.specs.Fmt.{decimal}
use Rattle.ol_net.specs.declared.parts.Port.{Port}
use Rattle.ol_net.specs.Graph.{Graph}
use Rattle.ol_net.specs.Nets.{NamedNet, NamedPort, SameNet, free, slot, port_under}
use Rattle.ol_net.specs.Numbered.{numbered_port}
use Rattle.ol_rules.specs.declared.journal.NodeName.{NodeName}
use Rattle.ol_rules.specs.declared.journal.Entry.{Entry}
use Rattle.ol_rules.specs.UnderWay.{node_number}
use Rattle.ol_diamond.specs.declared.weighing.Weighing.{Weighing}
use Rattle.ol_diamond.specs.Waves.{WeightedNet, weightless}
use Rattle.ol_view.specs.Checks.{start_net_of_graph}
use Rattle.ol_orders.specs.declared.replaying.Replay.{Replay}
use Rattle.ol_orders.specs.Replays.{names_of, net_here}
use Rattle.ol_explain.specs.declared.naming.Beside.{Beside}
use Rattle.ol_explain.specs.declared.naming.Beside.TheVariants.{Nothing, Weights}
use Rattle.ol_explain.specs.NamedTexts.{no_words}
use Rattle.ol_explain.specs.Afters.{IsWeighedRun, shown_text, weight_words}

-- a number, or 0 where there is none
abbrev pub number_or_0 : Option ℕ → ℕ
number_or_0 None = 0
number_or_0 (Some n) = n

-- what a port weighs, that of a slot by the name of its node
abbrev pub port_weight : Weighing → NamedPort NodeName → ℕ
port_weight w (free k) = slice_index_or w.weights.items k 0
port_weight w (slot x s) = slice_index_or w.weights.items
    (w.net.free + 3 * number_or_0 (node_number w.numbers.bases.items x) + s) 0

-- a link weighs as much as the heavier of its ports
abbrev pub weighted_by : Weighing → NamedNet NodeName → WeightedNet NodeName
weighted_by w N = record { net = N; weight = λ p q. max (port_weight w p) (port_weight w q) }

abbrev pub port_named : Replay → Port → NamedPort NodeName
port_named r p = port_under (names_of r) (numbered_port p)

abbrev pub beside_words : Beside → Replay → Port → Port → List ℕ
beside_words Nothing r p q = []
beside_words (Weights w) r p q =
    58 ∷ decimal (max (port_weight w (port_named r p)) (port_weight w (port_named r q)))

-- these are the weights after a run of these entries
abbrev pub IsWeighed : Graph → List Entry → Weighing → Type 0
IsWeighed old journal w = (N : NamedNet NodeName) × (waves : List ℕ)
    × IsWeighedRun (weightless (start_net_of_graph old)) 0 journal waves (weighted_by w N)

abbrev pub IsBeside : Bool → Graph → List Entry → Beside → Type 0
IsBeside false old journal b = b ≡ Nothing
IsBeside true old journal b = (w : Weighing) × (b ≡ Weights w) × IsWeighed old journal w

-- the text is that of the last net of a run, with weights or without
abbrev pub IsShown : Bool → Graph → Replay → List ℕ → Type 0
IsShown false old r text = text ≡ shown_text (names_of r) no_words (length r.run.journal) r.net
IsShown true old r text = (waves : List ℕ) × (W : WeightedNet NodeName)
    × IsWeighedRun (weightless (start_net_of_graph old)) 0 r.run.journal waves W
    × SameNet W.net (net_here r)
    × (text ≡ shown_text (names_of r) (weight_words (names_of r) W) (length r.run.journal) r.net)
