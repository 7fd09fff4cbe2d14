use Rattle.ol_view.proofs.OneView.{leads_one}
use Rattle.ol_view.proofs.ShownAlike.{shown_alike}
use Rattle.ol_view.proofs.laws.equal_nets_are_shown_alike.Goals as goal

pub returns-clause-shown : goal.returns-clause-shown
returns-clause-shown c = shown_alike

pub returns-clause-leads : goal.returns-clause-leads
returns-clause-leads c = leads_one
