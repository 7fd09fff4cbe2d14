-- The law of runs in rounds.
use Rattle.std.specs.Prelude.{◌≡◌, ℕ, List}
use Rattle.ol_net.specs.Graph.{Graph}
use Rattle.ol_net.specs.Nets.{NamedNet, IsNet}
use Rattle.ol_net.specs.Numbered.{net_of}
use Rattle.ol_rules.specs.declared.journal.NodeName.{NodeName}
use Rattle.ol_rules.specs.declared.journal.Entry.{Entry}
use Rattle.ol_diamond.specs.Waves.{IsWavesOf}
use Rattle.ol_view.specs.Checks.{start_net_of_graph}
use Rattle.ol_orders.specs.Rounds.{IsInRounds, round_numbers}

-- In whole rounds the wave of each entry is the number of its round, from 1.
abbrev pub WavesAreRounds : Type 0
WavesAreRounds = (g : Graph) (journal : List Entry) (waves : List ℕ) (last : NamedNet NodeName) →
    IsNet (net_of g) → (rounds : IsInRounds (start_net_of_graph g) 0 journal last) →
    IsWavesOf g journal waves → waves ≡ round_numbers rounds 0
