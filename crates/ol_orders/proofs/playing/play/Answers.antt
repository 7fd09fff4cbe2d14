use Rattle.std.proofs.Common.{◌≡◌, ℕ, ◌<◌, List, ◌∷◌, length, vec_len, rules, inr, sym, ap, subst, arith}
use Rattle.std.proofs.lemmas.Bool.Decides.{nat_tests}
use Rattle.ol_rules.specs.declared.journal.Entry.{Entry}
use Rattle.ol_rules.proofs.Waiting.{active_below}
use Rattle.ol_orders.specs.Played.{ArePairs}
use Rattle.ol_orders.proofs.KeptRuns.{run_named}
use Rattle.ol_orders.proofs.RoundByRound.{begun, one_more, still_run, cut, ends_with, few_nodes, goes_on}
use Rattle.ol_orders.proofs.playing.play.Goals as goal

pub take_pairs-requires : goal.take_pairs-requires
take_pairs-requires c = record {
  waits = λ x r a. let b = active_below c.in_ok-replay.replay.net x r a in let e = c.born.ensures.born in
      (c.in_ok-await_active.ensures x).1 (inr (omega arith, omega arith, (r, a)));
}

pub loop-alloc-init : goal.loop-alloc-init
loop-alloc-init c = record {
  play = begun c.args.net.now c.in_ok-replay.replay c.in_ok-replay.ensures.replay c.in_ok-replay.ensures.journal;
  pairs = c.in_ok-pairs.ensures.pairs;
  within = let e = ap (λ (es : List Entry). length es) c.in_ok-replay.ensures.journal in omega arith;
}

pub play_round-requires-clause-pairs : goal.play_round-requires-clause-pairs
play_round-requires-clause-pairs c = subst (λ (ps : List (ℕ × ℕ)). ArePairs c.loop-alloc.replay.net ps)
    (sym c.as_slice.ensures.value) c.loop-alloc.invariant.pairs

pub play_round-requires-clause-few : goal.play_round-requires-clause-few
play_round-requires-clause-few c = few_nodes c.args.net.now c.loop-alloc.replay c.args.fuel.most
    c.loop-alloc.invariant.play.replay c.requires.few c.args.fuel.within

pub play_round-requires-clause-within : goal.play_round-requires-clause-within
play_round-requires-clause-within c = c.loop-alloc.invariant.within

pub returns-then-not-branch-clause-played : goal.returns-then-not-branch-clause-played
returns-then-not-branch-clause-played c =
    let all = subst (λ (ps : List (ℕ × ℕ)). ArePairs c.loop-alloc.replay.net ps)
    (sym c.as_slice.ensures.value) c.loop-alloc.invariant.pairs in
    cut c.args.net.now c.loop-alloc.replay c.play_round.new.replay c.loop-alloc.invariant.play
    c.as_slice.result.now all c.args.fuel.most (c.in_ok-play_round.ensures.cut c.if-not-branch.true)

pub returns-then-not-branch-clause-run : goal.returns-then-not-branch-clause-run
returns-then-not-branch-clause-run c =
    let all = subst (λ (ps : List (ℕ × ℕ)). ArePairs c.loop-alloc.replay.net ps)
    (sym c.as_slice.ensures.value) c.loop-alloc.invariant.pairs in
    let k = c.in_ok-play_round.ensures.cut c.if-not-branch.true in
    still_run c.args.net.now c.loop-alloc.replay c.play_round.new.replay c.loop-alloc.invariant.play
    c.as_slice.result.now all (k.next ∷ k.later) k.plays

pub take_pairs-requires-in-loop-alloc : goal.take_pairs-requires-in-loop-alloc
take_pairs-requires-in-loop-alloc c = record { waits = c.in_ok-play_round.ensures.waits c.if-not-branch.false }

pub loop-alloc-smaller : goal.loop-alloc-smaller
loop-alloc-smaller c =
    let made : vec_len c.loop-alloc.pairs ≡ length c.loop-alloc.pairs.items = search rules in
    let same = ap (λ (ps : List (ℕ × ℕ)). length ps) c.as_slice.ensures.value in
    let some : 0 < length c.loop-alloc.pairs.items = grind (arith, nat_tests, c.loop-alloc-test.true, c.is_empty.ensures, made) in
    let g = goes_on c.loop-alloc.replay c.play_round.new.replay c.as_slice.result.now
    (c.in_ok-play_round.ensures.all c.if-not-branch.false) (omega arith) in
    let w = c.in_ok-play_round.ensures.within in
    omega arith

pub loop-alloc-preserved : goal.loop-alloc-preserved
loop-alloc-preserved c =
    let all = subst (λ (ps : List (ℕ × ℕ)). ArePairs c.loop-alloc.replay.net ps)
    (sym c.as_slice.ensures.value) c.loop-alloc.invariant.pairs in
    record {
      play = one_more c.args.net.now c.loop-alloc.replay c.play_round.new.replay c.loop-alloc.invariant.play
          c.as_slice.result.now all (c.in_ok-play_round.ensures.all c.if-not-branch.false);
      pairs = c.in_ok-pairs-2.ensures.pairs;
      within = c.in_ok-play_round.ensures.within;
    }

pub returns-clause-played : goal.returns-clause-played
returns-clause-played c =
    let made : vec_len c.loop-alloc.pairs ≡ length c.loop-alloc.pairs.items = search rules in
    let none : length c.loop-alloc.pairs.items ≡ 0 = grind (arith, nat_tests, c.loop-alloc-test.false, c.is_empty.ensures, made) in
    ends_with c.args.net.now c.loop-alloc.replay c.args.fuel.most c.loop-alloc.pairs.items
    c.loop-alloc.invariant.play c.loop-alloc.invariant.pairs none c.loop-alloc.invariant.within

pub returns-clause-within : goal.returns-clause-within
returns-clause-within c = c.loop-alloc.invariant.within

pub returns-clause-run : goal.returns-clause-run
returns-clause-run c = (_, run_named c.args.net.now c.loop-alloc.replay c.loop-alloc.invariant.play.replay)
