use Rattle.std.proofs.Common.{◌≢◌, ◌<◌, length, List, ℕ, [], drop, inl, inr, refl, sym, ap, ◌∙◌, subst, arith}
use Rattle.ol_net.specs.Graph.{Graph}
use Rattle.ol_rules.specs.declared.journal.Entry.{Entry}
use Rattle.ol_view.proofs.Finding as finding
use Rattle.ol_view.proofs.Entries.{none_read}
use Rattle.ol_view.proofs.AtPlaces.{line_is_read}
use Rattle.ol_explain.specs.Followed.{good, no_header, no_line, otherwise}
use Rattle.ol_orders.proofs.KeptRuns.{longer}
use Rattle.ol_explain.proofs.Ways.{Way, under, first_way, is_told, never_apart, made_one, is_off}
use Rattle.ol_explain.proofs.following.follow.Goals as goal

pub returns-in_default-clause-stops : goal.returns-in_default-clause-stops
returns-in_default-clause-stops c = no_header c.in_default.ensures.none

pub loop-at-init : goal.loop-at-init
loop-at-init c =
    let w = c.in_ok-weighing.weighing in
    let e = c.in_ok-weighing.ensures in
    let r = c.in_ok-replay.replay in
    let start = first_way c.in-Some.form c.args.net.now c.args.text.now w.weights.items
    c.is_net.ensures.net c.in-Some.ensures.form e.sized e.weights in
    record {
      way = subst (λ (es : List Entry). Way c.in-Some.form c.args.net.now c.args.text.now w.net
          w.numbers.bases.items w.weights.items es 11) (sym c.in_ok-replay.ensures.journal)
          (subst (λ (g : Graph). Way c.in-Some.form c.args.net.now c.args.text.now g w.numbers.bases.items
          w.weights.items [] 11) (sym e.net)
          (subst (λ (bases : List ℕ). Way c.in-Some.form c.args.net.now c.args.text.now
          c.args.net.now bases w.weights.items [] 11) (sym e.numbers) start));
      replay = c.in_ok-replay.ensures.replay;
      most = let n = ap (λ (es : List Entry). length es) c.in_ok-replay.ensures.journal in omega arith;
    }

pub returns-then-len-most-clause-stops : goal.returns-then-len-most-clause-stops
returns-then-len-most-clause-stops c =
    let r = c.loop-at.replay in
    let w = c.loop-at.weighing in
    let i = c.loop-at.invariant in
    good (is_told c.in-Some.form c.args.net.now c.args.text.now w.net w.numbers.bases.items w.weights.items
    r c.loop-at.at i.way i.replay) i.most (inl (sym c.len.ensures ∙ c.if-len-most.true))

pub returns-in_default-line_at-clause-stops : goal.returns-in_default-line_at-clause-stops
returns-in_default-line_at-clause-stops c =
    let r = c.loop-at.replay in
    let w = c.loop-at.weighing in
    let i = c.loop-at.invariant in
    no_line (is_told c.in-Some.form c.args.net.now c.args.text.now w.net w.numbers.bases.items w.weights.items
    r c.loop-at.at i.way i.replay)
    (let m = i.most in let l = c.len.ensures in let d = c.if-len-most.false in omega arith)
    (finding.no_line c.in-Some.form c.args.net.now c.args.text.now w.net w.numbers.bases.items w.weights.items
    (length r.run.journal) c.loop-at.at (under c.in-Some.form c.args.net.now c.args.text.now w.net
    w.numbers.bases.items w.weights.items r.run.journal c.loop-at.at i.way)
    c.loop-at-test.true
    (none_read c.in-Some.form (drop c.loop-at.at c.args.text.now) c.in_default-line_at.ensures.none))
    c.loop-at-test.true c.in_default-line_at.ensures.none

pub returns-then-not-is_so-clause-stops : goal.returns-then-not-is_so-clause-stops
returns-then-not-is_so-clause-stops c =
    let r = c.loop-at.replay in
    let w = c.loop-at.weighing in
    let i = c.loop-at.invariant in
    let l = c.in-Some-line_at.line in
    let n = c.rewrite.new.self in
    let below : length r.run.journal < c.args.most = (let m = i.most in let l = c.len.ensures in
    let d = c.if-len-most.false in omega arith) in
    let fewer : length r.run.journal ≢ 8000000 = (λ e. let m = c.requires.most in let b = below in omega arith) in
    otherwise (is_told c.in-Some.form c.args.net.now c.args.text.now w.net w.numbers.bases.items w.weights.items
    r c.loop-at.at i.way i.replay) below
    (finding.tried c.in-Some.form c.args.net.now c.args.text.now w.net w.numbers.bases.items w.weights.items
    (length r.run.journal) c.loop-at.at (under c.in-Some.form c.args.net.now c.args.text.now w.net
    w.numbers.bases.items w.weights.items r.run.journal c.loop-at.at i.way) l.told l.first l.second
    (drop l.next c.args.text.now) fewer (line_is_read c.in-Some.form (drop c.loop-at.at c.args.text.now) l
    (drop l.next c.args.text.now) c.in-Some-line_at.ensures.found) c.in_ok-made.made n.net
    n.numbers.bases.items n.weights.items c.in_ok-made.ensures.idle c.in_ok-made.ensures.made
    (c.if-not-is_so.ensures.not refl))
    (is_off c.in-Some.form c.args.net.now c.args.text.now w.net w.numbers.bases.items w.weights.items
    r c.loop-at.at i.way i.replay l.told l.first l.second (drop l.next c.args.text.now) fewer
    (line_is_read c.in-Some.form (drop c.loop-at.at c.args.text.now) l
    (drop l.next c.args.text.now) c.in-Some-line_at.ensures.found) n.net n.numbers.bases.items n.weights.items l refl refl refl
    c.in_ok-made.made c.in_ok-made.ensures.idle c.in_ok-made.ensures.made
    (c.if-not-is_so.ensures.not refl))

pub unreachable-requires : goal.unreachable-requires
unreachable-requires c =
    let r = c.loop-at.replay in
    let w = c.loop-at.weighing in
    let i = c.loop-at.invariant in
    let l = c.in-Some-line_at.line in
    let n = c.rewrite.new.self in
    let fewer : length r.run.journal ≢ 8000000 = (λ e. let m = i.most in let l = c.len.ensures in
    let d = c.if-len-most.false in let k = c.requires.most in omega arith) in
    never_apart c.in-Some.form c.args.net.now c.args.text.now w.net w.numbers.bases.items w.weights.items
    r c.loop-at.at i.way i.replay l.told l.first l.second (drop l.next c.args.text.now) fewer
    (line_is_read c.in-Some.form (drop c.loop-at.at c.args.text.now) l
    (drop l.next c.args.text.now) c.in-Some-line_at.ensures.found) n.net n.numbers.bases.items n.weights.items
    c.in_ok-made.made c.in_ok-made.ensures.made (c.if-not-is_so.ensures.so refl)
    (c.in_ok-rewrite_named.ensures.apart c.if-not-branch.true)

pub loop-at-preserved : goal.loop-at-preserved
loop-at-preserved c =
    let r = c.loop-at.replay in
    let w = c.loop-at.weighing in
    let i = c.loop-at.invariant in
    let l = c.in-Some-line_at.line in
    let n = c.rewrite.new.self in
    let adv = c.in_ok-rewrite_named.ensures.made c.if-not-branch.false in
    let below : length r.run.journal < c.args.most = (let m = i.most in let l = c.len.ensures in
    let d = c.if-len-most.false in omega arith) in
    let fewer : length r.run.journal ≢ 8000000 = (λ e. let m = c.requires.most in let b = below in omega arith) in
    let both = made_one c.in-Some.form c.args.net.now c.args.text.now w.net w.numbers.bases.items w.weights.items
    r c.loop-at.at i.way i.replay l.told l.first l.second (drop l.next c.args.text.now) fewer
    (line_is_read c.in-Some.form (drop c.loop-at.at c.args.text.now) l
    (drop l.next c.args.text.now) c.in-Some-line_at.ensures.found) n.net n.numbers.bases.items n.weights.items
    c.in_ok-made.made l.next refl c.in_ok-made.ensures.made (c.if-not-is_so.ensures.so refl)
    c.rewrite_named.new.self adv in
    record {
      way = both.0;
      replay = both.1;
      most = let e = longer c.args.net.now r c.rewrite_named.new.self adv.x adv.y i.replay adv.pair in
          let b = below in omega arith;
    }

pub returns-clause-stops : goal.returns-clause-stops
returns-clause-stops c =
    let r = c.loop-at.replay in
    let w = c.loop-at.weighing in
    let i = c.loop-at.invariant in
    good (is_told c.in-Some.form c.args.net.now c.args.text.now w.net w.numbers.bases.items w.weights.items
    r c.loop-at.at i.way i.replay) i.most (inr c.loop-at-test.false)
