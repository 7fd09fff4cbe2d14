-- What contracts see of a hand, by what it is inside.
use Rattle.ol_pool.specs.Pools.{HandState}
use Rattle.ol_pool.specs.Handed.{pool_of, parts_of}
use Rattle.ol_pool.specs.declared.hands.Hand.TheInside.{Inside}

abbrev pub hand_of : Inside → HandState
hand_of h = record {
  number = h.number;
  pool = pool_of h.home.own h.others.items;
  sent = h.home.own.log.sent;
  parts = parts_of h.number h.home.own h.home.empties h.others.items;
  refused = h.home.refused;
  stage = h.home.own.log.stage;
  missed = h.missed;
}
