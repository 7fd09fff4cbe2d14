use Rattle.std.proofs.Common.{ℕ, List, [], sym, ◌∙◌, subst, arith}
use Rattle.std.proofs.lemmas.List.{take_all}
use Rattle.ol_net.specs.Graph.{Graph}
use Rattle.ol_diamond.proofs.Weighed.{UnderWay, begins, there_is, few_so_far}
use Rattle.ol_explain.proofs.Weighs.{some_made, made_on, weighed}
use Rattle.ol_explain.proofs.weighing.weigh.Goals as goal

pub loop-k-init : goal.loop-k-init
loop-k-init c =
    let w = c.in_ok-weighing.weighing in
    let e = c.in_ok-weighing.ensures in
    let start = begins c.args.net.now c.args.journal.now w.weights.items c.is_net.ensures.net e.sized e.weights in (
      [],
      subst (λ (g : Graph). UnderWay c.args.net.now c.args.journal.now g w.numbers.bases.items w.weights.items [] 0)
          (sym e.net) (subst (λ (bases : List ℕ). UnderWay c.args.net.now c.args.journal.now c.args.net.now bases
          w.weights.items [] 0) (sym e.numbers) start),
    )

pub unreachable-requires : goal.unreachable-requires
unreachable-requires c =
    let l = c.len-k-end.ensures in
    let b = c.loop-k-test.true in
    let t = there_is c.args.journal.now c.loop-k.k (omega arith) in
    c.in_default.not-Some t.0 (c.get.ensures ∙ t.1)

pub rewrite-requires : goal.rewrite-requires
rewrite-requires c =
    let n = c.requires.few in
    let m = c.requires.entries in
    let few = few_so_far c.args.net.now c.args.journal.now c.loop-k.weighing.net c.loop-k.weighing.numbers.bases.items
    c.loop-k.weighing.weights.items c.loop-k.invariant.0 c.loop-k.k c.loop-k.invariant.1 (omega arith) in
    record { few = few }

pub unreachable-requires-in_default-made : goal.unreachable-requires-in_default-made
unreachable-requires-in_default-made c =
    let w = c.loop-k.weighing in
    some_made c.args.net.now c.is_net.ensures.net c.args.journal.now c.requires.run.0 c.requires.run.1 w.net
    w.numbers.bases.items w.weights.items c.loop-k.invariant.0 c.loop-k.k c.loop-k.invariant.1 c.in-Some.entry
    (sym c.get.ensures ∙ c.in-Some.is) c.in_ok-made.made c.in_ok-made.ensures.idle c.in_default-made.not-Some

pub loop-k-preserved : goal.loop-k-preserved
loop-k-preserved c =
    let w = c.loop-k.weighing in
    let n = c.rewrite.new.self in
    made_on c.args.net.now c.is_net.ensures.net c.args.journal.now c.requires.run.0 c.requires.run.1 w.net
    w.numbers.bases.items w.weights.items c.loop-k.invariant.0 c.loop-k.k c.loop-k.invariant.1 c.in-Some.entry
    (sym c.get.ensures ∙ c.in-Some.is) n.net n.numbers.bases.items n.weights.items c.in_ok-made.made
    c.in_ok-made.ensures.made (λ q. let s = c.in-Some-made.is in absurd (cc))

pub returns : goal.returns
returns c =
    let l = c.len-k-end.ensures in
    let t = c.loop-k-test.false in
    let w = c.loop-k.weighing in
    weighed c.args.net.now c.args.journal.now w c.loop-k.invariant.0 c.loop-k.k c.loop-k.invariant.1
    (take_all c.loop-k.k c.args.journal.now (omega arith))
