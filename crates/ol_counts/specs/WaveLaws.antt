-- The law of the table.
use Rattle.std.specs.Prelude.{◌≡◌, ℕ, List}
use Rattle.ol_net.specs.Nets.{NamedNet, IsNet}
use Rattle.ol_net.specs.Pairs.{IsComplete}
use Rattle.ol_rules.specs.declared.journal.NodeName.{NodeName}
use Rattle.ol_rules.specs.declared.journal.Entry.{Entry}
use Rattle.ol_rules.specs.Counting.{counts_of}
use Rattle.ol_rules.specs.Laws.{AreNamedBefore}
use Rattle.ol_rules.specs.Runs.{IsRun}
use Rattle.ol_diamond.specs.Waves.{AreWaves}
use Rattle.ol_counts.specs.Waves.{in_wave}

-- In two complete runs of one net each wave has each rule as often.
abbrev pub TablesAgree : Type 0
TablesAgree = (N M P : NamedNet NodeName) (js ks : List Entry) (ws vs : List ℕ) →
    IsNet N → AreNamedBefore N 0 → IsRun N 0 js M → IsComplete M → IsRun N 0 ks P → IsComplete P →
    AreWaves N js M ws → AreWaves N ks P vs →
    (w : ℕ) → counts_of (in_wave w js ws) ≡ counts_of (in_wave w ks vs)
