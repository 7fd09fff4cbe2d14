-- Any run, whatever pairs it takes first, tells of the one-thread run: whether it ends within the
-- fuel, how many steps it has and how often each rule, and its last net.
use Rattle.std.specs.Prelude.{◌≡◌, ℕ, ◌≤◌, ◌<◌, ◌↔◌, List, length}
use Rattle.ol_net.specs.declared.parts.Kind.{Kind}
use Rattle.ol_net.specs.declared.parts.Rule.{Rule}
use Rattle.ol_net.specs.Nets.{NamedNet, HasNode, IsNet, SameNet, net_under}
use Rattle.ol_rules.specs.declared.journal.NodeName.{NodeName}
use Rattle.ol_rules.specs.declared.journal.Entry.{Entry}
use Rattle.ol_rules.specs.Counting.{times_applied, counts_of}
use Rattle.ol_rules.specs.Laws.{AreNamedBefore}
use Rattle.ol_rules.specs.Runs.{IsRun, IsOneThread}
use Rattle.ol_net.specs.Pairs.{IsComplete, HasActive}
use Rattle.ol_diamond.specs.Laws.{RunByBirths}

-- The last nets of two runs from N are one net under birth names, which tell what made a node and
-- not when. No two nodes of a net have one birth name (`apart` of each run by births).
pub record AreOneByBirths (N : NamedNet NodeName) (journal : List Entry) (M : NamedNet NodeName)
    (journal' : List Entry) (M' : NamedNet NodeName) : Type 0 where
  pub births : RunByBirths N journal M
  pub births' : RunByBirths N journal' M'
  pub same : SameNet (net_under births.birth M) (net_under births'.birth M')

-- M' is M with each node x written names x, and no two of its nodes are written alike.
pub record IsWritten (names : NodeName → NodeName) (M M' : NamedNet NodeName) : Type 0 where
  pub apart : (x y : NodeName) (k l : Kind) (i j : ℕ) → HasNode M x k i → HasNode M y l j → names x ≡ names y → x ≡ y
  pub same : SameNet (net_under names M) M'

-- Two runs from N have as many steps and each rule as often, and their last nets are one: some
-- names write the first as the second, and they take each node to that of the same birth.
pub record RunsAgree (N : NamedNet NodeName) (journal : List Entry) (M : NamedNet NodeName)
    (journal' : List Entry) (M' : NamedNet NodeName) : Type 0 where
  pub steps : length journal' ≡ length journal
  pub rules : (r : Rule) → times_applied r journal' ≡ times_applied r journal
  pub counts : counts_of journal' ≡ counts_of journal
  pub one : AreOneByBirths N journal M journal' M'
  pub names : NodeName → NodeName
  pub written : IsWritten names M M'
  pub by_birth : (x : NodeName) (k : Kind) (i : ℕ) → HasNode M x k i → one.births'.birth (names x) ≡ one.births.birth x

-- Each net of start nodes has a one-thread run for each fuel.
abbrev pub OneThreadExists : Type 0
OneThreadExists = (N : NamedNet NodeName) (fuel : ℕ) → IsNet N → AreNamedBefore N 0 →
    (journal : List Entry) × (P : NamedNet NodeName) × IsOneThread N fuel journal P

-- Where a complete run is within the fuel, the one-thread run ends, and agrees with it.
abbrev pub DoneTells : Type 0
DoneTells = (N M P : NamedNet NodeName) (fuel : ℕ) (journal one_thread : List Entry) → IsNet N → AreNamedBefore N 0 →
    IsRun N 0 journal M → IsComplete M → length journal ≤ fuel → IsOneThread N fuel one_thread P →
    IsComplete P × RunsAgree N journal M one_thread P

-- Where a run is as long as the fuel and a pair is still active, the one-thread run has more steps than the fuel.
abbrev pub SpentTells : Type 0
SpentTells = (N M P : NamedNet NodeName) (fuel : ℕ) (journal one_thread : List Entry) → IsNet N → AreNamedBefore N 0 →
    IsRun N 0 journal M → HasActive M → length journal ≡ fuel → IsOneThread N fuel one_thread P →
    HasActive P × (length one_thread ≡ fuel)

-- So it has where a run is longer than the fuel.
abbrev pub LongerTells : Type 0
LongerTells = (N M P : NamedNet NodeName) (fuel : ℕ) (journal one_thread : List Entry) → IsNet N → AreNamedBefore N 0 →
    IsRun N 0 journal M → fuel < length journal → IsOneThread N fuel one_thread P →
    HasActive P × (length one_thread ≡ fuel)

-- some complete run is within the fuel
abbrev pub SomeEndsWithin : NamedNet NodeName → ℕ → Type 0
SomeEndsWithin N fuel = (journal : List Entry) × (M : NamedNet NodeName) × IsRun N 0 journal M
    × IsComplete M × (length journal ≤ fuel)

-- So the one-thread run ends within the fuel exactly where some run does, and goes on exactly where none does.
abbrev pub EndsWhereSomeEnds : Type 0
EndsWhereSomeEnds = (N P : NamedNet NodeName) (fuel : ℕ) (one_thread : List Entry) → IsNet N → AreNamedBefore N 0 →
    IsOneThread N fuel one_thread P → (IsComplete P ↔ SomeEndsWithin N fuel)
    × (HasActive P ↔ (SomeEndsWithin N fuel → ⊥))

-- A run from a net is a run from each net that is the same, however the lists of the two are
-- ordered, and leads to the same net.
abbrev pub RunFromSame : Type 0
RunFromSame = (M N P : NamedNet NodeName) (ticket : ℕ) (journal : List Entry) → SameNet M N → IsRun M ticket journal P →
    (Q : NamedNet NodeName) × IsRun N ticket journal Q × SameNet P Q
