use Rattle.std.proofs.Common.{false, refl, sym, ap, ◌∙◌, subst}
use Rattle.ol_places.specs.declared.scanning.Mode.TheVariants.{Atom}
use Rattle.ol_places.specs.declared.scanning.Scan.{Scan}
use Rattle.ol_places.specs.Tokens.{sign_token}
use Rattle.ol_places.specs.Scans.{scopes_of, Takes}
use Rattle.ol_places.proofs.Turns.{scopes_push, takes_open}
use Rattle.ol_places.proofs.scanning.take_sign.Goals as goal

pub returns-in_ok-push-in-Open : goal.returns-in_ok-push-in-Open
returns-in_ok-push-in-Open c =
    let before = c.args.scan.now in
    let after : Scan = record { mode = Atom; scopes = c.push.new.self; bound = before.bound } in
    subst (λ s. Takes (sign_token s) before after false) (sym c.in-Open.is)
    (takes_open before after c.requires refl refl
    (ap scopes_of c.in_ok-push-in-Open.ensures.items ∙ scopes_push before.scopes.items _))
