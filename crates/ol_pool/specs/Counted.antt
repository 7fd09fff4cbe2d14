-- Private: what a deque answered is counted by one.
use Rattle.std.specs.Prelude.{◌≡◌, ◌<◌, ◌^◌}
use Rattle.ol_pool.specs.declared.tally.Tally.{Tally}
use Rattle.ol_pool.specs.Looks.{CountsOne}

-- it answered that it is empty
abbrev pub CountedEmpty : Tally → Tally → Type 0
CountedEmpty old new =
    (new ≡ record old { empties = new.empties }) × CountsOne old.empties new.empties × (new.empties < 2 ^ 64)

-- that it be looked at again
abbrev pub CountedAgain : Tally → Tally → Type 0
CountedAgain old new =
    (new ≡ record old { agains = new.agains }) × CountsOne old.agains new.agains × (new.agains < 2 ^ 64)

-- that it takes no more
abbrev pub CountedRefusal : Tally → Tally → Type 0
CountedRefusal old new =
    (new ≡ record old { refused = new.refused }) × CountsOne old.refused new.refused × (new.refused < 2 ^ 64)
