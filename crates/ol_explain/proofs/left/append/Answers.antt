use Rattle.std.proofs.Common.{◌++◌, ◌∷◌, [], append_assoc, take, sym, ap, ◌∙◌, arith}
use Rattle.std.proofs.lemmas.List.{append-nil, take_all}
use Rattle.ol_diamond.proofs.Weighed.{there_is}
use Rattle.ol_explain.proofs.left.append.Goals as goal
use Rattle.ol_orders.proofs.Steps.{entries_on}

pub loop-k-init : goal.loop-k-init
loop-k-init c = sym (append-nil c.args.journal.now)

pub unreachable-requires : goal.unreachable-requires
unreachable-requires c =
    let l = c.len-k-end.ensures in
    let b = c.loop-k-test.true in
    let t = there_is c.args.more.now c.loop-k.k (omega arith) in
    c.in_default.not-Some t.0 (c.get.ensures ∙ t.1)

pub loop-k-preserved : goal.loop-k-preserved
loop-k-preserved c =
    let e = c.in-Some.entry in
    c.in_ok-push.ensures.ok
    ∙ ap (λ es. es ++ e ∷ []) c.loop-k.invariant
    ∙ append_assoc c.args.journal.now (take c.loop-k.k c.args.more.now) (e ∷ [])
    ∙ ap (λ es. c.args.journal.now ++ es)
    (sym (entries_on c.args.more.now c.loop-k.k e (sym c.get.ensures ∙ c.in-Some.is)))

pub returns : goal.returns
returns c =
    let l = c.len-k-end.ensures in
    let t = c.loop-k-test.false in
    c.loop-k.invariant ∙ ap (λ es. c.args.journal.now ++ es) (take_all c.loop-k.k c.args.more.now (omega arith))
