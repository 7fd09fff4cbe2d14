use Rattle.ol_context.proofs.Crossings.{fallen_lam, fallen_app, fallen_fan, fallen_croissant, fallen_bracket}
use Rattle.ol_context.proofs.changes.fall.Goals as goal

pub returns-in-Lam-clause-ok : goal.returns-in-Lam-clause-ok
returns-in-Lam-clause-ok c = rw c.in-Lam.is (fallen_lam _ _ _ _ _ c.mark_down.ensures)

pub returns-in-App-clause-ok : goal.returns-in-App-clause-ok
returns-in-App-clause-ok c = rw c.in-App.is (fallen_app _ _ _ _ _ c.mark_down-in-App.ensures)

pub returns-in-Fan-clause-ok : goal.returns-in-Fan-clause-ok
returns-in-Fan-clause-ok c = rw c.in-Fan.is (fallen_fan _ _ _ _ _ c.mark_down-in-Fan.ensures)

pub returns-in-Croissant-clause-ok : goal.returns-in-Croissant-clause-ok
returns-in-Croissant-clause-ok c = rw c.in-Croissant.is (fallen_croissant _ _ _ _ _ c.croissant_down.ensures)

pub returns-in_ok-fallen-in-Bracket-clause-ok : goal.returns-in_ok-fallen-in-Bracket-clause-ok
returns-in_ok-fallen-in-Bracket-clause-ok c = rw c.in-Bracket.is
    (fallen_bracket _ _ _ _ _ c.in_ok-fallen-in-Bracket.ensures.ok)
