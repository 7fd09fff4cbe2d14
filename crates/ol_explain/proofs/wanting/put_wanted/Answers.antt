use Rattle.std.proofs.Common.{◌≡◌, ◌++◌, ◌∷◌, [], suc, ◌+◌, sym, subst, arith}
use Rattle.ol_explain.specs.Wanted.{AreThose, with, without}
use Rattle.ol_explain.specs.Fields.{GoesOn}
use Rattle.ol_explain.proofs.wanting.put_wanted.Goals as goal

pub returns-then-not-so : goal.returns-then-not-so
returns-then-not-so c h =
    let q : suc c.args.byte ≡ c.args.byte + 1 = omega arith in
    subst (λ n. AreThose (GoesOn c.args.field c.args.end c.args.read.now) n c.args.bytes.now.items) q
    (without h (c.in_ok-so.ensures.not c.if-not-so.true))

pub returns : goal.returns
returns c h =
    let q : suc c.args.byte ≡ c.args.byte + 1 = omega arith in
    subst (λ bs. AreThose (GoesOn c.args.field c.args.end c.args.read.now) (c.args.byte + 1) bs) (sym c.in_ok-put.ensures)
    (subst (λ n. AreThose (GoesOn c.args.field c.args.end c.args.read.now) n (c.args.bytes.now.items ++ c.args.byte ∷ [])) q
    (with h (c.in_ok-so.ensures.so c.if-not-so.false)))
