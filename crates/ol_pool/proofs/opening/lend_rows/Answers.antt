use Rattle.std.proofs.Common.{rules, ◌≡◌, ◌∙◌, ◌+◌, ◌++◌, ◌∷◌, [], List, Vec, Global, length, sym, ap, subst}
use Rattle.std.proofs.lemmas.List.Elements.{All-same, All-push}
use Rattle.ol_pool.specs.Owned.{OwnState, ReachState, AreOpen, row_of}
use Rattle.ol_pool.proofs.Dealing.{one_row_more, long_snoc}
use Rattle.ol_pool.proofs.opening.lend_rows.Goals as goal

pub loop-preserved : goal.loop-preserved
loop-preserved c =
    let pool = c.args.pool.now in
    let k = c.loop.counter in
    let owns : List OwnState = c.loop.owns.items in
    let added : c.push.new.self.items ≡ c.loop.rows.items ++ c.in_ok-row.row ∷ [] = search rules in (
      subst (λ l. AreOpen pool (k + 1) l) (sym c.in_ok-row.ensures.owns) (one_row_more pool k owns c.loop.invariant.0),
      All-same (λ (row : Vec ReachState Global). row.items ≡ row_of pool) c.push.new.self.items
          (c.loop.rows.items ++ c.in_ok-row.row ∷ []) added
          (All-push (λ (row : Vec ReachState Global).
          row.items ≡ row_of pool) c.loop.rows.items c.in_ok-row.row c.loop.invariant.1 c.in_ok-row.ensures.row),
      ap length added ∙ long_snoc c.loop.rows.items c.in_ok-row.row ∙ ap (λ n. n + 1) c.loop.invariant.2,
    )
