use Rattle.std.proofs.Common.{[], ◌∷◌, ◌++◌, sym, ap, ◌∙◌}
use Rattle.ol_places.specs.Scans.{bound_by, names_of, scopes_of}
use Rattle.ol_places.proofs.Turns.{scopes_push, names_push}
use Rattle.ol_places.proofs.scanning.bind.Goals as goal

pub returns-clause-scopes : goal.returns-clause-scopes
returns-clause-scopes c =
    ap scopes_of c.in_ok-push.ensures.items ∙ scopes_push c.args.scan.now.scopes.items _

pub returns-clause-scan : goal.returns-clause-scan
returns-clause-scan c =
    ap names_of c.in_ok-push-2.ensures.items ∙ names_push c.args.scan.now.bound.items c.args.name
    ∙ ap (λ l. l ++ (c.args.name.now ∷ [])) c.requires
    ∙ ap bound_by (sym (ap scopes_of c.in_ok-push.ensures.items ∙ scopes_push c.args.scan.now.scopes.items _))
