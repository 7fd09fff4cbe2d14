use Rattle.std.proofs.Common.{◌≡◌, ℕ, suc, ◌+◌, [], ◌∷◌, length, List, sym, ◌∙◌, subst, arith}
use Rattle.ol_net.specs.Graph.{Graph}
use Rattle.ol_diamond.proofs.Weighed.{UnderWay, begins, one_more, all_told, there_is}
use Rattle.ol_diamond.proofs.weighing.waves.Goals as goal

pub loop-k-init : goal.loop-k-init
loop-k-init c =
    let w = c.in_ok-weighing.weighing in
    let e = c.in_ok-weighing.ensures in
    let start = begins c.args.net.now c.args.journal.now w.weights.items c.is_net.ensures.net e.sized e.weights in
    subst (λ (g : Graph). UnderWay c.args.net.now c.args.journal.now g w.numbers.bases.items w.weights.items
    c.new-waves.result.items 0) (sym e.net)
    (subst (λ (bases : List ℕ). UnderWay c.args.net.now c.args.journal.now c.args.net.now bases
    w.weights.items c.new-waves.result.items 0) (sym e.numbers)
    (subst (λ (ws : List ℕ). UnderWay c.args.net.now c.args.journal.now c.args.net.now
    (length c.args.net.now.nodes ∷ []) w.weights.items ws 0) (sym c.new-waves.ensures.items) start))

pub unreachable-requires : goal.unreachable-requires
unreachable-requires c =
    let l = c.len-k-end.ensures in
    let b = c.loop-k-test.true in
    let t = there_is c.args.journal.now c.loop-k.k (omega arith) in
    c.in_default.not-Some t.0 (c.get.ensures ∙ t.1)

pub loop-k-preserved : goal.loop-k-preserved
loop-k-preserved c =
    let t = one_more c.args.net.now c.args.journal.now c.requires.run.0 c.requires.run.1
    c.loop-k.weighing.net c.rewrite_entry.new.self.net c.loop-k.weighing.numbers.bases.items
    c.rewrite_entry.new.self.numbers.bases.items
    c.loop-k.weighing.weights.items c.rewrite_entry.new.self.weights.items c.loop-k.waves.items
    c.loop-k.k c.in-Some.entry c.in_ok-wave.wave c.loop-k.invariant
    (sym c.get.ensures ∙ c.in-Some.is) c.in_ok-wave.ensures.weighed in
    let q : suc c.loop-k.k ≡ c.loop-k.k + 1 = omega arith in
    subst (λ k. UnderWay c.args.net.now c.args.journal.now c.rewrite_entry.new.self.net
    c.rewrite_entry.new.self.numbers.bases.items c.rewrite_entry.new.self.weights.items c.push.new.self.items k) q
    (subst (λ (ws : List ℕ). UnderWay c.args.net.now c.args.journal.now c.rewrite_entry.new.self.net
    c.rewrite_entry.new.self.numbers.bases.items c.rewrite_entry.new.self.weights.items ws
    (suc c.loop-k.k)) (sym c.in_ok-push.ensures.items) t)

pub returns : goal.returns
returns c =
    let l = c.len-k-end.ensures in
    let t = c.loop-k-test.false in
    let b = c.loop-k.invariant.below in
    let q : c.loop-k.k ≡ length c.args.journal.now = omega arith in
    record {
      waves = all_told c.args.net.now c.args.journal.now c.is_net.ensures.net c.loop-k.weighing.net
          c.loop-k.weighing.numbers.bases.items c.loop-k.weighing.weights.items c.loop-k.waves.items
          c.loop-k.k c.loop-k.invariant q;
      count = c.loop-k.invariant.count ∙ q;
    }
