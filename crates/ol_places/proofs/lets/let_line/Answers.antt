use Rattle.std.proofs.Common.{sym, subst}
use Rattle.std.proofs.lemmas.Result.{IfOk-weaker}
use Rattle.ol_places.specs.Lets.{IsInnermostLet, IsLetLine, no_let, open_let}
use Rattle.ol_places.specs.Scanned.{IsOpenLine}
use Rattle.ol_places.proofs.lets.let_line.Goals as goal

pub returns-in-None : goal.returns-in-None
returns-in-None c = subst (IsLetLine c.args.bytes.now c.args.place) (sym c.new.ensures.items)
    (no_let (subst (IsInnermostLet _) c.in-None.is c.in_ok-innermost.ensures.innermost))

pub returns-in-Some : goal.returns-in-Some
returns-in-Some c =
    let i = subst (IsInnermostLet _) c.in-Some.is c.in_ok-innermost.ensures.innermost in
    IfOk-weaker c.open_line.result (λ text. IsOpenLine c.args.bytes.now c.in-Some.at text.items)
    (λ text. IsLetLine c.args.bytes.now c.args.place text.items)
    (λ text h. subst (IsLetLine c.args.bytes.now c.args.place) (sym h.is) (open_let i h.line)) c.open_line.ensures
