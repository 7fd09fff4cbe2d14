-- Private: a reading by chains.
use Rattle.std.specs.Prelude.{◌≡◌, ℕ, ◌≤◌, length}
use Rattle.ol_net.specs.Graph.{Graph}
use Rattle.ol_readback.specs.Askers.{Reading}
use Rattle.ol_demand.specs.Demands.{asks}
use Rattle.ol_demand.specs.Answers.{StopsOnTheWay}
use Rattle.ol_demand.specs.Asking.{IsUnderWay, IsLeftOff}
use Rattle.ol_rules.specs.declared.under_way.UnderWay.{UnderWay}

-- The fuel is that with which it began from graph g, and the run has made turns of the demand run
-- from there, which is to read what the reading is to read.
pub record IsReadByChains (g : Graph) (fuel : ℕ) (g' : Graph) (run : UnderWay) (fuel' : ℕ) (heads : ℕ)
    (r : Reading) : Type 0 where
  pub same_fuel : fuel' ≡ fuel
  pub within : length run.journal ≤ fuel
  pub under : IsUnderWay g g' run heads r.places (asks r.frames r.waiting 0)

-- it has more turns that rewrite, and the fuel is used up
abbrev pub IsSpentReading : Graph → ℕ → Graph → UnderWay → ℕ → Type 0
IsSpentReading g fuel g' run heads = IsLeftOff g g' run heads × (length run.journal ≡ fuel)

-- wherever a reading by chains has come, it may be given up
pub may_stop_there : (g : Graph) (fuel : ℕ) (g' : Graph) (run : UnderWay) (fuel' heads : ℕ)
    (r : Reading) → IsReadByChains g fuel g' run fuel' heads r → StopsOnTheWay g heads fuel g'
may_stop_there g fuel g' run fuel' heads r h = record {
  names = h.under.names;
  are_names = record {
    initial = h.under.are_names.naming.initial;
    rising = λ j k b c. h.under.are_names.naming.rising j k b;
  };
  is = record {
    turns = h.under.turns;
    journal = run.journal;
    places = r.places;
    next = asks r.frames r.waiting 0;
    run = h.under.made;
    within = h.within;
  };
}
