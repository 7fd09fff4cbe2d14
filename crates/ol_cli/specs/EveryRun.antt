-- Every complete run, not the one-thread run alone, gives the answer of `run`, and any run tells it.
use Rattle.std.specs.Prelude.{List, length, ℕ, ◌<◌, ◌≡◌, ◌≤◌, ◌⊎◌}
use Rattle.ol_net.specs.Nets.{IsNet, NamedNet, SameNet}
use Rattle.ol_net.specs.Pairs.{HasActive, IsComplete}
use Rattle.ol_rules.specs.Runs.{IsOneThread, IsRun}
use Rattle.ol_rules.specs.declared.journal.Entry.{Entry}
use Rattle.ol_rules.specs.declared.journal.NodeName.{NodeName}
use Rattle.ol_term.specs.Trees.{Tree}
use Rattle.ol_term.specs.declared.translations.Translation.{Translation}
use Rattle.ol_translate.specs.Translation.{translation_of}
use Rattle.ol_cli.specs.Run.{Prints, RunEnds, RunsOut, Shows, start_net_of_term}

-- This complete run has no more than `fuel` steps, and what is printed of its journal and its net
-- (up to the order in which the net is listed) is this text.
pub record PrintsOf (names : List (List ℕ)) (fuel heads : ℕ) (journal : List Entry)
    (net : NamedNet NodeName) (text : List ℕ) : Type 0 where
  pub within : length journal ≤ fuel
  pub listed : NamedNet NodeName
  pub same : SameNet net listed
  pub shows : Shows names heads journal listed text

-- Where the answer is printed, each complete run prints it; and where the run is spent, each
-- complete run is longer than the fuel.
abbrev pub EveryRunPrints : Type 0
EveryRunPrints = (translation : Translation) (t : Tree) (names : List (List ℕ)) (fuel heads : ℕ) (text : List ℕ) →
    IsNet (translation_of translation t (length names)) → Prints translation t names fuel heads text →
    (journal : List Entry) (net : NamedNet NodeName) →
    IsRun (start_net_of_term translation t names) 0 journal net → IsComplete net →
    PrintsOf names fuel heads journal net text

abbrev pub EveryRunIsLonger : Type 0
EveryRunIsLonger = (translation : Translation) (t : Tree) (names : List (List ℕ)) (fuel : ℕ) →
    IsNet (translation_of translation t (length names)) → RunsOut (start_net_of_term translation t names) fuel →
    (journal : List Entry) (net : NamedNet NodeName) →
    IsRun (start_net_of_term translation t names) 0 journal net → IsComplete net → fuel < length journal

-- There is a one-thread run for each fuel.
abbrev pub OneThreadIsThere : Type 0
OneThreadIsThere = (translation : Translation) (t : Tree) (names : List (List ℕ)) (fuel : ℕ) →
    IsNet (translation_of translation t (length names)) → (journal : List Entry) × (net : NamedNet NodeName)
    × IsOneThread (start_net_of_term translation t names) fuel journal net

-- What is printed of a complete run within the fuel is printed of the one-thread run.
abbrev pub AnyRunPrints : Type 0
AnyRunPrints = (translation : Translation) (t : Tree) (names : List (List ℕ)) (fuel heads : ℕ)
    (text : List ℕ) → IsNet (translation_of translation t (length names)) →
    (journal : List Entry) (net : NamedNet NodeName) →
    IsRun (start_net_of_term translation t names) 0 journal net → IsComplete net →
    PrintsOf names fuel heads journal net text → Prints translation t names fuel heads text

-- Where a run is longer than the fuel, or is as long and can go on, the one-thread run has more steps than the fuel.
abbrev pub AnyRunRunsOut : Type 0
AnyRunRunsOut = (translation : Translation) (t : Tree) (names : List (List ℕ)) (fuel : ℕ) →
    IsNet (translation_of translation t (length names)) →
    (journal : List Entry) (net : NamedNet NodeName) → IsRun (start_net_of_term translation t names) 0 journal net →
    (fuel < length journal) ⊎ ((length journal ≡ fuel) × HasActive net) →
    RunsOut (start_net_of_term translation t names) fuel

-- Where a complete run is within the fuel, the one-thread run ends within it.
abbrev pub AnyRunEnds : Type 0
AnyRunEnds = (translation : Translation) (t : Tree) (names : List (List ℕ)) (fuel : ℕ) →
    IsNet (translation_of translation t (length names)) →
    (journal : List Entry) (net : NamedNet NodeName) →
    IsRun (start_net_of_term translation t names) 0 journal net → IsComplete net →
    length journal ≤ fuel → RunEnds (start_net_of_term translation t names) fuel
