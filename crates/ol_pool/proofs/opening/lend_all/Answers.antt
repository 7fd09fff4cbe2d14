use Rattle.std.proofs.Common.{rules, ◌≡◌, ◌∙◌, suc, ◌+◌, ◌<◌, ◌≤◌, ◌++◌, ◌∷◌, [], List, length, map}
use Rattle.std.proofs.Common.{get_or, slice_get, slice_set, refl, sym, ap, arith}
use Rattle.std.proofs.lemmas.Option.{slice_get_read}
use Rattle.ol_pool.specs.Owned.{OwnState, ReachState, new_reach, lends_one}
use Rattle.ol_pool.proofs.Places.{all_at}
use Rattle.ol_pool.proofs.Dealing.{done, done_at, done_more, done_all, firsts, firsts_more}
use Rattle.ol_pool.proofs.Dealing.{firsts_all, reach_to, row_is}
use Rattle.ol_pool.proofs.opening.lend_all.Goals as goal

pub lend-reach-requires : goal.lend-reach-requires
lend-reach-requires c =
    let xs : List OwnState = c.args.owns.now.items in
    let owns : List OwnState = c.loop-at.owns.items in
    let old : OwnState = c.index_mut.result.now in
    let below : c.loop-at.at < length owns = search rules in
    let read : old ≡ get_or owns c.loop-at.at old = search rules in
    let got = slice_get_read owns (length owns) c.loop-at.at old refl below read in
    let here = sym (done_at lends_one c.loop-at.at xs)
    ∙ ap (λ l. slice_get l c.loop-at.at) (sym c.loop-at.invariant.0) ∙ got in
    (all_at (λ (own : OwnState). (1 < own.log.parts)
    × (own.log.bound ≡ c.args.pool.now.cells)) xs c.loop-at.at old here c.requires.some).0

pub loop-at-preserved : goal.loop-at-preserved
loop-at-preserved c =
    let xs : List OwnState = c.args.owns.now.items in
    let owns : List OwnState = c.loop-at.owns.items in
    let k = c.loop-at.at in
    let old : OwnState = c.index_mut.result.now in
    let below : k < length owns = search rules in
    let read : old ≡ get_or owns k old = search rules in
    let got = slice_get_read owns (length owns) k old refl below read in
    let here = sym (done_at lends_one k xs) ∙ ap (λ l. slice_get l k) (sym c.loop-at.invariant.0) ∙ got in
    let e : suc k ≡ k + 1 = omega arith in
    let added : c.push.new.self.items ≡ c.loop-at.made.items ++ c.lend-reach.result ∷ [] = search rules in (
      ap (λ l. slice_set l k c.lend-reach.new.self) c.loop-at.invariant.0
          ∙ ap (λ z. slice_set (done lends_one k xs) k z) c.lend-reach.ensures.own
          ∙ done_more lends_one k xs old here
          ∙ ap (λ n. done lends_one n xs) e,
      added
          ∙ ap (λ l. l ++ c.lend-reach.result ∷ []) c.loop-at.invariant.1
          ∙ ap (λ (z : ReachState). firsts reach_to k xs ++ z ∷ []) c.lend-reach.ensures.access
          ∙ firsts_more reach_to k xs old here
          ∙ ap (λ n. firsts reach_to n xs) e,
    )

pub returns-clause-owns : goal.returns-clause-owns
returns-clause-owns c =
    let xs : List OwnState = c.args.owns.now.items in
    let all : length xs ≤ c.loop-at.at = search rules in
    c.loop-at.invariant.0 ∙ done_all lends_one c.loop-at.at xs all

pub returns-clause-row : goal.returns-clause-row
returns-clause-row c =
    let xs : List OwnState = c.args.owns.now.items in
    let cells = c.args.pool.now.cells in
    let all : length xs ≤ c.loop-at.at = search rules in
    c.loop-at.invariant.1 ∙ firsts_all reach_to c.loop-at.at xs all
    ∙ row_is cells xs c.requires.some ∙ ap (λ l. map (λ deque. new_reach deque cells) l) c.requires.deques
