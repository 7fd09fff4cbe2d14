use Rattle.std.proofs.Common.{◌≡◌, suc, ◌+◌, ◌-◌, length, sym, ap, ◌∙◌, add-one, arith}
use Rattle.ol_term.specs.BinderNames.{fresh_from}
use Rattle.ol_term.proofs.BinderTexts.{fresh_taken}
use Rattle.ol_term.proofs.binder_names.next_fresh.Goals as goal

pub loop-passed-preserved : goal.loop-passed-preserved
loop-passed-preserved c =
    let n = length c.args.names.now - c.loop-passed.passed in
    let k = length c.args.names.now - (c.loop-passed.passed + 1) in
    let e : n ≡ suc k = omega (arith, c.len-passed-end.ensures, c.loop-passed-test.true) in
    c.loop-passed.invariant ∙ fresh_taken c.args.names.now n k c.loop-passed.m e
    (sym c.in_ok-taken.ensures ∙ c.if-not-taken.false)
    ∙ ap (fresh_from c.args.names.now k) (sym (add-one c.loop-passed.m))
