use Rattle.ol_parse.proofs.FlatSteps.{name_next}
use Rattle.ol_parse.proofs.tokens.take_name.Goals as goal

pub returns-in_ok-apply_if-in-Term : goal.returns-in_ok-apply_if-in-Term
returns-in_ok-apply_if-in-Term c =
    name_next c.args.mode c.in-Term.spine c.args.word c.args.opens.now.items c.args.out.now.items
    c.push.new.self.items c.apply_if.new.out.items
    c.in-Term.is c.in_ok-push-in-Term.ensures.items c.in_ok-apply_if-in-Term.ensures
