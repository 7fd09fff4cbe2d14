use Rattle.std.proofs.Common.{ℕ, List, sym, subst}
use Rattle.ol_orders.specs.Meetings.{TellPairs}
use Rattle.ol_orders.proofs.Tables.{nobody_tells}
use Rattle.ol_orders.proofs.comparing.Met.new.Goals as goal

pub returns-clause-tables : goal.returns-clause-tables
returns-clause-tables c =
    let there = c.in_ok-nobody in
    let back = c.in_ok-nobody-2 in
    record {
      tell = subst (λ (pairs : List (ℕ × ℕ)). TellPairs pairs there.field-0.items back.field-0.items)
          (sym c.new.ensures.items) (nobody_tells there.field-0.items back.field-0.items there.ensures.none back.ensures.none);
      there_size = there.ensures.size;
      back_size = back.ensures.size;
    }
