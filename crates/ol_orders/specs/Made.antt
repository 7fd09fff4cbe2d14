-- Private: words of private contracts alone: the step of an entry, and what was told of it.
use Rattle.std.specs.Prelude.{◌≡◌, ℕ, List, [], ◌∷◌, ◌++◌, Some}
use Rattle.ol_rules.specs.declared.journal.Entry.{Entry}
use Rattle.ol_rules.specs.UnderWay.{node_number}
use Rattle.ol_orders.specs.declared.replaying.Replay.{Replay}
use Rattle.ol_orders.specs.Replays.{names_of, ReplaysPair}
use Rattle.ol_orders.specs.Turns.{turn_text}

-- the second run is the first after this entry, the step of x and y
pub record IsMade (old new : Replay) (e : Entry) (x y : ℕ) : Type 0 where
  pub pair : ReplaysPair old new x y
  pub journal : new.run.journal ≡ old.run.journal ++ e ∷ []

-- so it is for the nodes of the entry's names, and the second text is the first with the step told
pub record IsToldOf (old new : Replay) (e : Entry) (wave : ℕ) (before after : List ℕ) : Type 0 where
  pub x : ℕ
  pub y : ℕ
  pub first_is : node_number old.numbers.bases.items e.first ≡ Some x
  pub second_is : node_number old.numbers.bases.items e.second ≡ Some y
  pub made : IsMade old new e x y
  pub text_is : after ≡ before ++ turn_text e wave x y (names_of old) old.net (names_of new) new.net
