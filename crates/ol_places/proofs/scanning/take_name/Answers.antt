use Rattle.std.proofs.Common.{refl, ap, ◌∙◌}
use Rattle.ol_places.specs.Scans.{scopes_of}
use Rattle.ol_places.proofs.Turns.{scopes_push, takes_let}
use Rattle.ol_places.proofs.scanning.take_name.Goals as goal

pub returns-in_ok-push-in-Let : goal.returns-in_ok-push-in-Let
returns-in_ok-push-in-Let c =
    takes_let c.args.scan.now _ c.requires refl c.args.word.now c.in-Let.is refl
    (ap scopes_of c.in_ok-push-in-Let.ensures.items ∙ scopes_push c.args.scan.now.scopes.items _)
