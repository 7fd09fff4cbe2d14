use Rattle.std.proofs.Common.{◌≡◌, List, [], ◌∷◌, ◌++◌, ◌+◌, drop, get_or, true, false, sym, ◌∙◌, subst, rules}
use Rattle.ol_counts.specs.declared.tables.Column.{Column}
use Rattle.ol_counts.specs.declared.ways.Way.{Way}
use Rattle.ol_counts.specs.declared.ways.Way.TheVariants as way
use Rattle.ol_counts.specs.Tabled.{tree_in}
use Rattle.ol_counts.specs.Tallies.{IsTally}
use Rattle.ol_counts.specs.Ways.{all_ways, is_shown}
use Rattle.ol_counts.proofs.ColumnsSoFar.{AreBegun, longer, without_column}
use Rattle.ol_counts.proofs.counting.columns_of.Goals as goal
use Rattle.ol_counts.proofs.counting.columns_of.Goals.{then-is_shown+in_ok-tally+in_ok-push, else-is_shown}

pub loop-way-preserved : goal.loop-way-preserved
loop-way-preserved c =
    let P = IsTally c.args.net.now (tree_in c.args.term) c.args.bounds in
    let k = c.loop-way.way-index in
    let at : Way = get_or all_ways k way.Run in
    elim c.if-is_shown.branch [
      | then-is_shown+in_ok-tally+in_ok-push w ↦
          let shown : is_shown c.args.columns at ≡ true = sym c.is_shown.ensures ∙ w.if-is_shown.true in
          let pushed : c.if-is_shown.shown.items ≡ c.loop-way.shown.items
          ++ (record { way = at; tally = w.in_ok-tally.tally }) ∷ [] = search rules in
          longer P c.args.columns c.loop-way.shown.items k c.if-is_shown.shown.items w.in_ok-tally.tally
          c.loop-way-test.true c.loop-way.invariant shown w.in_ok-tally.ensures pushed
      | else-is_shown w ↦
          let hidden : is_shown c.args.columns at ≡ false = sym c.is_shown.ensures ∙ w.if-is_shown.false in
          let same : c.if-is_shown.shown.items ≡ c.loop-way.shown.items = search rules in
          subst (λ (ts : List Column). AreBegun P c.args.columns ts (drop (k + 1) all_ways)) (sym same)
          (without_column P c.args.columns c.loop-way.shown.items k c.loop-way-test.true c.loop-way.invariant hidden)
    ]
