use Rattle.ol_parse.proofs.FlatSteps.{close_next}
use Rattle.ol_parse.proofs.tokens.take_close.Goals as goal

pub returns-in_ok-apply_if-in-Some-Bracket : goal.returns-in_ok-apply_if-in-Some-Bracket
returns-in_ok-apply_if-in-Some-Bracket c =
    close_next c.args.mode c.in_ok-spine-in-Term-true.field-0 c.in-Some-Bracket.spine
    c.args.opens.now.items c.finish.new.opens.items c.args.out.now.items c.finish.new.out.items
    c.apply_if.new.out.items
    (cc) (cc) c.in_ok-spine-in-Term-true.ensures c.in_ok-apply_if-in-Some-Bracket.ensures
